use Rattle.std.proofs.Common.{◌∙◌}
use Rattle.weave_core.proofs.TaskLemmas.{next_nowhere, next_there}
use Rattle.weave_core.proofs.weave.Weave.next_event.Goals as goal

pub returns-in-Some : goal.returns-in-Some
returns-in-Some c = record {
  next = λ config state agrees. c.next_event.ensures.next
      ∙ next_there c.args.self.now c.args.actor c.in-Some.own.now c.in-Some.ensures.actor config state agrees;
}

pub returns-in-None : goal.returns-in-None
returns-in-None c = record {
  next = next_nowhere c.args.self.now c.args.actor c.in-None.ensures.actor;
}
