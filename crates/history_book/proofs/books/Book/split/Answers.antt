use Rattle.std.proofs.Common.{rules, ap, ◌∙◌}
use Rattle.history_book.proofs.CallLemmas.{has_words}
use Rattle.history_book.proofs.PlayLemmas.{splits_off}
use Rattle.history_book.proofs.books.Book.split.Goals as goal

pub split_seat-requires : goal.split_seat-requires
split_seat-requires g c =
    let table = c.args.self.now in
    (search rules, has_words _ _ _ (ap (λ z. z.words) table.named ∙ table.shaped), splits_off _ _ _ _)
