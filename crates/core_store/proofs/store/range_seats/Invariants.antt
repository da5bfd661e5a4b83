-- the seats so far, in front of those of the ranges that are left
use Rattle.std.proofs.Common.{◌≡◌, ◌++◌, length, map}
use Rattle.std.specs.Vec.Iter.{into_iter_items, into_iter_len}
use Rattle.core_store.specs.Openings.{range_seat}
use Rattle.core_store.proofs.store.range_seats.Given as goal

abbrev pub invariant-loop-state : goal.invariant-loop-state
invariant-loop-state l = record {
  seats : l.seats.items ++ map (range_seat l.sight) (into_iter_items l.state-iterator)
      ≡ map (range_seat l.sight) l.fn.states.items;
  left : into_iter_len l.state-iterator ≡ length (into_iter_items l.state-iterator);
}
