use Rattle.std.proofs.Common.{◌≡◌, ◌∙◌, is_some, rules}
use Rattle.std.specs.Option.{option_copied}
use Rattle.weave_core.proofs.TaskLemmas.{is_declared, some_copied}
use Rattle.weave_core.proofs.weave.Weave.is_declared.Goals as goal

pub returns : goal.returns
returns c = record {
  declared = λ config state agrees.
      let same : c.is_some.result ≡ is_some c.actor.result = search rules in
      same ∙ some_copied c.actor.result
      ∙ is_declared c.args.self.now c.args.actor (option_copied c.actor.result) c.actor.ensures.actor config state
      agrees;
}
