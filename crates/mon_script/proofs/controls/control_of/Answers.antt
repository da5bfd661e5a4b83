use Rattle.mon_script.proofs.ControlLemmas.{if_lawful}
use Rattle.mon_script.proofs.controls.control_of.Goals as goal

pub returns-clause-lawful : goal.returns-clause-lawful
returns-clause-lawful c =
    if_lawful c.args.topology.now c.args.word c.args.rest.now c.control_behind.result c.control_behind.ensures.control
