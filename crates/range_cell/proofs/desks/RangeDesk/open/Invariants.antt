-- The entry that is appended is the one that comes to the replay.
use Rattle.history_book.specs.declared.views.BookEntry.TheVariants as one
use Rattle.mon_value.specs.declared.histories.RangeEntry.TheVariants as entry
use Rattle.range_cell.proofs.desks.RangeDesk.open.Given as goal

abbrev pub ghosts-enter_opening : goal.ghosts-enter_opening
ghosts-enter_opening g a = record { entry = one.Range (entry.Opened a.pass a.slot a.leaf) }
