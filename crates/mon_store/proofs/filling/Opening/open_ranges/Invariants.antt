-- the ranges so far are opened and locked, and the owners of the others are left
use Rattle.std.proofs.Common.{◌≡◌, ◌+◌, [], drop, length}
use Rattle.std.specs.List.{range_with_len}
use Rattle.std.specs.Vec.Iter.{into_iter_items, into_iter_len}
use Rattle.know.specs.Sound.{IsSound}
use Rattle.mon_store.specs.Openings.{IsOpening, all_owners}
use Rattle.mon_store.proofs.filling.Opening.open_ranges.Given as goal

abbrev pub invariant-loop-range : goal.invariant-loop-range
invariant-loop-range g l = record {
  opening : IsOpening g.N.Names.setting.zones l.range 0 l.self.leaves.items l.self.know;
  none : l.self.know.purse.holds ≡ [];
  sound : IsSound g.N.Names.setting l.self.know.hints l.self.know.seen;
  owners : into_iter_items l.self.books ≡ drop (g.N.BookName.book.leaves + l.range) (all_owners g.N.BookName.book);
  counted : into_iter_len l.self.books ≡ length (into_iter_items l.self.books);
  ranges : l.self.ranges.items ≡ range_with_len 0 l.range;
}
