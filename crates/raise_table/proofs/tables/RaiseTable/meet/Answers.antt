use Rattle.std.proofs.Common.{rules, ap, ◌∙◌}
use Rattle.raise_table.proofs.WordLemmas.{has_words}
use Rattle.raise_table.proofs.StepLemmas.{keeps_meet}
use Rattle.raise_table.specs.Seats.{met}
use Rattle.raise_table.proofs.KnowsLemmas.{meet_knows_both}
use Rattle.raise_table.proofs.tables.RaiseTable.meet.Goals as goal

pub join_seat-requires : goal.join_seat-requires
join_seat-requires g c =
    let table = c.args.self.now in (
      search rules,
      search rules,
      search rules,
      has_words _ _ (ap (λ z. z.words) table.named.0 ∙ table.shaped.words),
      keeps_meet _ _ _ _ _ c.other.invariant.2 c.other.invariant.3,
    )

pub returns-clause-knows : goal.returns-clause-knows
returns-clause-knows g c =
    meet_knows_both c.args.seat.now c.args.other c.join_seat.new.seat.me.0.hints
    (ap (λ m. m.0.hints) c.join_seat.ensures.2 ∙ (λ i. met (c.seat.view_is i) (c.other.view_is i)))
