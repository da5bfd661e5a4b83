use Rattle.std.proofs.Common.{rules, ap, ◌∙◌}
use Rattle.raise_table.proofs.WordLemmas.{has_words}
use Rattle.raise_table.proofs.StepLemmas.{keeps_deal}
use Rattle.raise_table.proofs.tables.RaiseTable.deal.Goals as goal

pub split_seat-requires : goal.split_seat-requires
split_seat-requires g c =
    let table = c.args.self.now in (
      search rules,
      has_words _ _ (ap (λ z. z.words) table.named.0 ∙ table.shaped.words),
      keeps_deal _ _ _ c.requires.fresh.0 c.requires.fresh.1,
    )
