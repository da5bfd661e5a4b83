use Rattle.std.proofs.Common.{◌∙◌, Option, ap, sym}
use Rattle.query_core.proofs.StageLemmas.{slots_here}
use Rattle.query_core.specs.Machine.{Query, slots_if, slots_of}
use Rattle.query_traces.specs.Rounds.{Round}
use Rattle.query_core.proofs.machine.QueryMachine.slots.Goals as goal

pub returns-in-Some-slots : goal.returns-in-Some-slots
returns-in-Some-slots c =
    let leaf = c.args.leaf in
    record {
      slots = c.in-Some-slots.ensures.slots
          ∙ sym (slots_here c.in-Some.round.now leaf c.in-Some-slots.ensures.has)
          ∙ ap (λ (round : Option Round). slots_if round leaf) c.in-Some.ensures.round
          ∙ ap (λ (query : Query). slots_of query.stage leaf) c.self.view_is;
    }
