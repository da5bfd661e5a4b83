use Rattle.std.proofs.Common.{rules, ap, ◌∙◌}
use Rattle.history_book.proofs.CallLemmas.{confirm_with, has_words}
use Rattle.history_book.proofs.PlayLemmas.{joins_meeting}
use Rattle.history_book.proofs.books.Book.unite.Goals as goal

pub join_seat-requires : goal.join_seat-requires
join_seat-requires g c =
    let table = c.args.self.now in (
      search rules,
      search rules,
      search rules,
      has_words _ _ _ (ap (λ z. z.words) table.named ∙ table.shaped),
      joins_meeting _ _ _ _ _ _ c.requires.plain.owns c.requires.plain.held,
    )

pub load-requires : goal.load-requires
load-requires g c =
    let table = c.args.self.now in (
      search rules,
      has_words _ _ _ (ap (λ z. z.words) table.named ∙ table.shaped),
      confirm_with _ _ _ _ table.sized.0 table.sized.1 _ _ _,
    )
