use Rattle.std.proofs.Common.{rules, ap, ◌∙◌}
use Rattle.history_book.proofs.CallLemmas.{learn_with, word_within}
use Rattle.history_book.proofs.books.Book.learn.Goals as goal

pub load-requires : goal.load-requires
load-requires g c =
    let table = c.args.self.now in (
      search rules,
      word_within _ _ _ _ (ap (λ z. z.words) table.named ∙ table.shaped) c.requires.exists,
      learn_with _ _ _ _ table.sized.0 table.sized.1 _ _ _ _ c.requires.exists,
    )
