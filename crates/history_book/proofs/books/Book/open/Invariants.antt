use Rattle.std.proofs.Common.{◌≡◌, ◌+◌, ◌-◌, ◌++◌, [], map}
use Rattle.history_book.specs.Histories.{histories_in, history_numbered, numbers_on}
use Rattle.history_book.specs.Seats.{new_owner}
use Rattle.history_book.specs.Steps.{dealing}
use Rattle.history_book.proofs.books.Book.open.Given as goal

abbrev pub invariant-loop-number : goal.invariant-loop-number
invariant-loop-number g l =
    let book = g.N.BookName.book in
    (l.first.table_id ≡ book.id)
    × (l.first.me ≡ (dealing book.leaves book.ranges l.number, []))
    × (l.owners ++ map
    (new_owner book.leaves book.ranges) (map
    (history_numbered book.leaves) (numbers_on l.number (book.leaves + book.ranges - l.number))) ≡ map
    (new_owner book.leaves book.ranges) (histories_in book.leaves book.ranges))
