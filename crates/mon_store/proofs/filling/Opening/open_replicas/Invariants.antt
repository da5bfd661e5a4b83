-- the replicas in the slots so far are opened
use Rattle.std.proofs.Common.{◌≡◌}
use Rattle.history_book.specs.Histories.{AreFronts}
use Rattle.mon_store.specs.Openings.{HoldsOnly, IsOpening}
use Rattle.mon_store.proofs.filling.Opening.open_replicas.Given as goal

abbrev pub invariant-loop-leaf : goal.invariant-loop-leaf
invariant-loop-leaf g l = record {
  opening : IsOpening g.N.Names.setting.zones l.range.0 l.leaf-index l.self.leaves.items l.self.know;
  slot : l.slot ≡ l.leaf-index;
  holds : HoldsOnly l.range l.self.know;
  fronts : AreFronts l.fn.self.know.seen l.self.know.seen;
  books : l.self.books ≡ l.fn.self.books;
  ranges : l.self.ranges.items ≡ l.fn.self.ranges.items;
}
