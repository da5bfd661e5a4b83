use Rattle.std.proofs.Common.{◌∙◌, ap}
use Rattle.standing.specs.DueLists.{is_taken, StandingState}
use Rattle.standing.proofs.queries.Standing.has.Goals as goal

pub returns : goal.returns
returns c = record {
  taken = c.contains.ensures ∙ c.self.invariant.named c.args.name.now
      ∙ ap (λ (state : StandingState). is_taken c.args.name.now state.queries) c.self.view_is;
}
