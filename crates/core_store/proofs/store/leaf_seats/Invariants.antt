-- the seats so far, in front of those of the leaves that are left
use Rattle.std.proofs.Common.{◌≡◌, ◌++◌, ◌+◌, length}
use Rattle.std.specs.Vec.Iter.{into_iter_items, into_iter_len}
use Rattle.core_store.specs.Openings.{leaf_seats}
use Rattle.core_store.proofs.store.leaf_seats.Given as goal

abbrev pub invariant-loop-state : goal.invariant-loop-state
invariant-loop-state l = record {
  seats : l.seats.items ++ leaf_seats l.topology l.sight (length l.seats.items) (into_iter_items l.state-iterator)
      ≡ leaf_seats l.topology l.sight 0 l.fn.states.items;
  left : into_iter_len l.state-iterator ≡ length (into_iter_items l.state-iterator);
  all : length l.seats.items + length (into_iter_items l.state-iterator) ≡ length l.fn.states.items;
}
