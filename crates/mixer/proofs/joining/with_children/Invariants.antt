-- What is joined so far, with the children that are left, is what is joined of all.
use Rattle.std.proofs.Common.{◌≡◌, length}
use Rattle.std.specs.Vec.Iter.{into_iter_items, into_iter_len}
use Rattle.mixer.specs.within.Joined as spec
use Rattle.mixer.specs.within.Joined.{CanJoinChildren}
use Rattle.mixer.proofs.joining.with_children.Given as goal

abbrev pub invariant-loop-child : goal.invariant-loop-child
invariant-loop-child l = record {
  so_far : spec.with_children l.joined (into_iter_items l.child-iterator)
      ≡ spec.with_children l.fn.first (into_iter_items l.fn.children);
  can : CanJoinChildren l.joined (into_iter_items l.child-iterator);
  counted : into_iter_len l.child-iterator ≡ length (into_iter_items l.child-iterator);
}
