use Rattle.std.proofs.Common.{◌∙◌}
use Rattle.weave_core.proofs.TaskLemmas.{begun_nowhere, begun_there}
use Rattle.weave_core.proofs.weave.Weave.has_begun.Goals as goal

pub returns-in-Some : goal.returns-in-Some
returns-in-Some c = record {
  begun = λ config state agrees. c.has_begun.ensures.begun
      ∙ begun_there c.args.self.now c.args.actor c.in-Some.own.now c.in-Some.ensures.actor config state agrees;
}

pub returns-in-None : goal.returns-in-None
returns-in-None c = record {
  begun = begun_nowhere c.args.self.now c.args.actor c.in-None.ensures.actor;
}
