-- The pieces so far, with those of the answers that are left, are those of all; so are the loads.
use Rattle.std.proofs.Common.{◌≡◌, ◌+◌, ◌++◌, length, map}
use Rattle.std.specs.List.{sum_by}
use Rattle.std.specs.Vec.Iter.{into_iter_items, into_iter_len}
use Rattle.mon_fold.specs.declared.answers.LeafAnswer.{LeafAnswer}
use Rattle.mixer.proofs.mixing.leaf_children.Given as goal

abbrev pub invariant-loop-part : goal.invariant-loop-part
invariant-loop-part l = record {
  so_far : l.children.items ++ map (λ (one : LeafAnswer). one.pieces) (into_iter_items l.part-iterator)
      ≡ map (λ (one : LeafAnswer). one.pieces) l.fn.parts;
  loads : l.meter.load + sum_by (λ (one : LeafAnswer). one.load) (into_iter_items l.part-iterator)
      ≡ l.fn.meter.load + sum_by (λ (one : LeafAnswer). one.load) l.fn.parts;
  limit : l.meter.limit ≡ l.fn.meter.limit;
  counted : into_iter_len l.part-iterator ≡ length (into_iter_items l.part-iterator);
}
