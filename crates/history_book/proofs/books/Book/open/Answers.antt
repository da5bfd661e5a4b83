use Rattle.std.proofs.Common.{◌+◌, ◌<◌, ◌∙◌, subst}
use Rattle.history_book.proofs.DealLemmas.{owners_rest}
use Rattle.history_book.proofs.books.Book.open.Goals as goal

pub loop-number-preserved : goal.loop-number-preserved
loop-number-preserved g c =
    let book = g.N.BookName.book in
    let same = c.blank.view_is ∙ c.requires.named in
    let low = subst (λ b. c.loop-number.number < b.leaves + b.ranges) same c.loop-number-test.true in (
      c.deal.ensures.next.0,
      c.deal.ensures.next.1,
      owners_rest book.leaves book.ranges c.loop-number.number c.loop-number.owners c.push.new.self c.deal.result low
          c.deal.ensures.owner c.in_ok-push.ensures.added c.loop-number.invariant.2,
    )
