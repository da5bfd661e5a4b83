use Rattle.schedule_lines.proofs.lines.switch_form.Goals as goal

pub returns-in-None-clause-lawful : goal.returns-in-None-clause-lawful
returns-in-None-clause-lawful c = λ held. c.turn_form.ensures.lawful held c.args.topology.now
