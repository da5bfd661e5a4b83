use Rattle.weave_core.proofs.QueryPlanLemmas.{machine_so}
use Rattle.weave_core.proofs.query_plans.machine_of.Goals as goal

pub returns : goal.returns
returns c = record {
  machine = machine_so c.args.config.now c.requires.served c.args.text.now c.in_ok-plan.plan c.in_ok-plan.ensures.typed
      c.in_ok-plan.ensures.plan c.in_ok-machine.machine c.in_ok-machine.ensures.new;
}
