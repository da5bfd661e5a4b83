-- the openings so far were appended
use Rattle.std.proofs.Common.{◌≡◌, take}
use Rattle.history_book.specs.declared.views.BookEntry.TheVariants as one
use Rattle.know.specs.Sound.{IsSound}
use Rattle.mon_topo.specs.HeldHistories.{openings_from}
use Rattle.mon_value.specs.declared.histories.RangeEntry.TheVariants as entry
use Rattle.range_cell.specs.NewRanges.{after_entries}
use Rattle.range_cell.proofs.desks.RangeDesk.append_openings.Given as goal

abbrev pub invariant-loop-slot : goal.invariant-loop-slot
invariant-loop-slot g l = record {
  book : l.self.owner.book
      ≡ after_entries l.fn.self.owner.range (openings_from 0 (take l.slot l.first)) l.fn.self.owner.book;
  hints : l.self.owner.hints ≡ l.fn.self.owner.hints;
  range : l.self.owner.range ≡ l.fn.self.owner.range;
  replay : l.self.replay ≡ l.fn.self.replay;
  sound : IsSound g.N.Names.setting l.self.owner.hints l.self.owner.book.seen;
}

abbrev pub ghosts-append_opening : goal.ghosts-append_opening
ghosts-append_opening g a = record { entry = one.Range (entry.Opened 0 a.slot a.leaf) }
