use Rattle.std.proofs.Common.{rules, ap, sym, ◌∙◌}
use Rattle.history_book.proofs.CallLemmas.{has_words, more_left}
use Rattle.history_book.proofs.PlayLemmas.{splits_number}
use Rattle.history_book.proofs.books.Book.split_numbered.Goals as goal

pub split_seat-split-requires : goal.split_seat-split-requires
split_seat-split-requires g c =
    let table = c.args.self.now in (
      search rules,
      has_words _ _ _ (ap (λ z. z.words) table.named ∙ table.shaped),
      splits_number _ _ _ _
          (more_left c.seat.inside.hand.stock _
          (sym c.is_spent.ensures ∙ c.if-is_spent.false) (ap (λ h. h.stock) c.seat.invariant.3)),
    )
