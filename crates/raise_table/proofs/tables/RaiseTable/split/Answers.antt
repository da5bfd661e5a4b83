use Rattle.std.proofs.Common.{rules, ap, ◌∙◌}
use Rattle.raise_table.proofs.WordLemmas.{has_words}
use Rattle.raise_table.proofs.StepLemmas.{keeps_split}
use Rattle.raise_table.specs.Seats.{without_notes}
use Rattle.raise_table.proofs.KnowsLemmas.{split_knows}
use Rattle.raise_table.proofs.tables.RaiseTable.split.Goals as goal

pub split_seat-requires : goal.split_seat-requires
split_seat-requires g c =
    let table = c.args.self.now in
    (search rules, has_words _ _ (ap (λ z. z.words) table.named.0 ∙ table.shaped.words), keeps_split _ _ _)

pub returns-clause-knows : goal.returns-clause-knows
returns-clause-knows g c =
    split_knows c.args.seat.now c.split_seat.result.me.0.hints (ap (λ m. m.0.hints) c.split_seat.ensures.4
    ∙ ap without_notes c.seat.view_is)
