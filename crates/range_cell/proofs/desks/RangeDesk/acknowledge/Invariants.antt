-- The entry that is appended is the one that comes to the replay.
use Rattle.history_book.specs.declared.views.BookEntry.TheVariants as one
use Rattle.mon_topo.specs.RangeHistories.{turn_ack}
use Rattle.range_cell.specs.Deeds.{turn_of}
use Rattle.range_cell.proofs.desks.RangeDesk.acknowledge.Given as goal

abbrev pub ghosts-enter : goal.ghosts-enter
ghosts-enter g a = record { entry = one.Range (turn_ack a.pass (turn_of a.deed) a.ack.now) }
