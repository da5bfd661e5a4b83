use Rattle.std.proofs.Common.{rules, ap, ◌∙◌}
use Rattle.raise_table.proofs.WordLemmas.{has_words}
use Rattle.raise_table.proofs.StepLemmas.{keeps_meet}
use Rattle.raise_table.specs.Seats.{after_meet}
use Rattle.raise_table.proofs.KnowsLemmas.{owner_knows_both}
use Rattle.raise_table.proofs.StepLemmas.{owner_of}
use Rattle.raise_table.proofs.tables.RaiseTable.meet_owner.Goals as goal

pub join_seat-requires : goal.join_seat-requires
join_seat-requires g c =
    let table = c.args.self.now in (
      search rules,
      search rules,
      search rules,
      has_words _ _ (ap (λ z. z.words) table.named.0 ∙ table.shaped.words),
      keeps_meet _ _ _ _ _ c.other.invariant.2 c.other.invariant.3,
    )

pub returns-clause-knows : goal.returns-clause-knows
returns-clause-knows g c =
    let leaf = c.seat.inside.leaf in
    owner_knows_both c.args.other c.args.seat.now (owner_of leaf c.join_seat.new.seat.me.0)
    (ap (λ m. owner_of leaf m.0) c.join_seat.ensures.2 ∙ (λ i. after_meet (c.other.view_is i) (c.seat.view_is i)))
