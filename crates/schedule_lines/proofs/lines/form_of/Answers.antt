use Rattle.schedule_lines.proofs.lines.form_of.Goals as goal

pub returns-then-eq-clause-lawful : goal.returns-then-eq-clause-lawful
returns-then-eq-clause-lawful c = c.write_form.ensures.lawful c.args.topology.now

pub returns-then-eq-2-clause-lawful : goal.returns-then-eq-2-clause-lawful
returns-then-eq-2-clause-lawful c = c.query_form.ensures.lawful c.args.schemas.now c.args.topology.now

pub returns-else-eq-2-clause-lawful : goal.returns-else-eq-2-clause-lawful
returns-else-eq-2-clause-lawful c = c.switch_form.ensures.lawful c.args.schemas.now
