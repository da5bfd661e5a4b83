-- The entry that is appended is the one that comes to the state.
use Rattle.history_book.specs.declared.views.BookEntry.TheVariants as one
use Rattle.leaf_cell.proofs.desks.LeafDesk.trim.Given as goal

abbrev pub ghosts-enter : goal.ghosts-enter
ghosts-enter g a = record { entry = one.Leaf a.entry }
