-- The entry that is appended is the one that comes to the replay.
use Rattle.history_book.specs.declared.views.BookEntry.TheVariants as one
use Rattle.mon_value.specs.declared.histories.RangeEntry.TheVariants as entry
use Rattle.range_cell.proofs.desks.RangeDesk.retire.Given as goal

abbrev pub ghosts-enter_retirement : goal.ghosts-enter_retirement
ghosts-enter_retirement g a = record { entry = one.Range (entry.Retired a.pass a.slot) }
