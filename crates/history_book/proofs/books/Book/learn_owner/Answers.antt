use Rattle.std.proofs.Common.{rules, sym, ap, ◌∙◌}
use Rattle.history_book.specs.Histories.{history_numbered, history_number}
use Rattle.history_book.specs.Seats.{after_own_learn}
use Rattle.history_book.specs.Steps.{owner_of}
use Rattle.history_book.proofs.HistoryLemmas.{numbered_back}
use Rattle.history_book.proofs.PlayLemmas.{history_of_word}
use Rattle.history_book.proofs.CallLemmas.{learn_with, word_within}
use Rattle.history_book.proofs.books.Book.learn_owner.Goals as goal

pub load-requires : goal.load-requires
load-requires g c =
    let table = c.args.self.now in (
      search rules,
      word_within _ _ _ _ (ap (λ z. z.words) table.named ∙ table.shaped) c.owner.invariant.2,
      learn_with _ _ _ _ table.sized.0 table.sized.1 _ _ _ _ c.owner.invariant.2,
    )

pub returns-clause-noted : goal.returns-clause-noted
returns-clause-noted g c =
    let leaves = g.N.BookName.book.leaves in
    let n = c.owner.inside.number in
    let number = history_of_word n ∙ sym (numbered_back leaves n) ∙ ap (λ o. history_number leaves o.history)
    c.owner.view_is in
    ap (λ m. owner_of (history_numbered leaves n) m.0) c.load.ensures.2.2
    ∙ (λ i. after_own_learn (number i) c.load.result (c.owner.view_is i))
