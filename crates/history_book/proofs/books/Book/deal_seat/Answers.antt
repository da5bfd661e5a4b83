use Rattle.std.proofs.Common.{rules, ◌<◌, ◌≤◌, ap, ◌∙◌, subst, arith}
use Rattle.history_book.proofs.CallLemmas.{has_words}
use Rattle.history_book.proofs.DealLemmas.{leaf_deal, range_deal}
use Rattle.history_book.proofs.PlayLemmas.{splits_deal}
use Rattle.history_book.proofs.books.Book.deal_seat.Goals as goal

pub split_seat-requires : goal.split_seat-requires
split_seat-requires g c =
    let table = c.args.self.now in
    (search rules, has_words _ _ _ (ap (λ z. z.words) table.named ∙ table.shaped), splits_deal 0 _ _ _ _)

pub split_seat-requires-else-number-self : goal.split_seat-requires-else-number-self
split_seat-requires-else-number-self g c =
    let table = c.args.self.now in
    (search rules, has_words _ _ _ (ap (λ z. z.words) table.named ∙ table.shaped), splits_deal 1 _ _ _ _)

pub returns-then-number-self : goal.returns-then-number-self
returns-then-number-self g c =
    let book = g.N.BookName.book in
    let low = subst (λ n. c.args.number < n) c.args.self.now.told.0 c.if-number-self.true in
    let e = c.split_seat.ensures in
    let r = leaf_deal book.leaves book.ranges c.args.number c.args.first.now.me c.split_seat.new.seat.me
    c.split_seat.result.me
    low c.requires.next.1 e.2 e.4 in
    record { next = (e.0 ∙ c.requires.next.0, r.0); owner = (e.3 ∙ c.requires.next.0, r.1) }

pub returns-else-number-self : goal.returns-else-number-self
returns-else-number-self g c =
    let book = g.N.BookName.book in
    let high : book.leaves ≤ c.args.number = let told = c.args.self.now.told.0 in let test = c.if-number-self.false in
    omega arith in
    let e = c.split_seat-else-number-self.ensures in
    let r = range_deal book.leaves book.ranges c.args.number c.args.first.now.me
    c.split_seat-else-number-self.new.seat.me
    c.split_seat-else-number-self.result.me high c.requires.exists c.requires.next.1 e.2 e.4 in
    record { next = (e.0 ∙ c.requires.next.0, r.0); owner = (e.3 ∙ c.requires.next.0, r.1) }
