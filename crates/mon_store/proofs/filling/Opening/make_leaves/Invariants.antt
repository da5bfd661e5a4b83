-- the leaves so far are made, and the owners of the others are left
use Rattle.std.proofs.Common.{◌≡◌, drop, length, map}
use Rattle.std.specs.List.{range_with_len}
use Rattle.std.specs.Vec.Iter.{into_iter_items, into_iter_len}
use Rattle.raise_table.specs.Places as places
use Rattle.raise_table.specs.Seats as hints
use Rattle.mon_store.specs.Openings.{all_owners, first_leaf}
use Rattle.mon_store.proofs.filling.Opening.make_leaves.Given as goal

abbrev pub invariant-loop-leaf : goal.invariant-loop-leaf
invariant-loop-leaf g l = record {
  bits : into_iter_items l.self.hints ≡ drop l.leaf (map hints.new_owner (places.leaves_in g.N.RaiseName.raise.zones));
  owners : into_iter_items l.self.books ≡ drop l.leaf (all_owners g.N.BookName.book);
  counted : into_iter_len l.self.hints ≡ length (into_iter_items l.self.hints);
  counted_books : into_iter_len l.self.books ≡ length (into_iter_items l.self.books);
  leaves : l.self.leaves.items
      ≡ map (first_leaf g.N.BookName.book.leaves g.N.BookName.book.ranges) (range_with_len 0 l.leaf);
  know : l.self.know ≡ l.fn.self.know;
  ranges : l.self.ranges.items ≡ l.fn.self.ranges.items;
}
