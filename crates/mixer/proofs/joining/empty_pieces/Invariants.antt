-- With pieces for the parts that are left there is one for each part, and each of these parts can be without rows.
use Rattle.std.proofs.Common.{◌≡◌, ◌++◌, List, length}
use Rattle.std.specs.List.{AllByRecursion}
use Rattle.std.specs.Vec.Iter.{into_iter_items, into_iter_len}
use Rattle.typed_trees.specs.Nodes.{node_tree}
use Rattle.typed_trees.specs.Levels as spec
use Rattle.mon_fold.specs.declared.answers.Piece.{Piece}
use Rattle.mon_meaning.specs.TopParts.{parts_seen, up_to}
use Rattle.mixer.specs.within.Joined.{AllStandEmpty, CanBeEmpty}
use Rattle.mixer.proofs.joining.empty_pieces.Given as goal

abbrev pub invariant-loop-part : goal.invariant-loop-part
invariant-loop-part l = record {
  so_far : (more : List Piece) → AllStandEmpty (parts_seen (into_iter_items l.part-iterator)) more
      → AllStandEmpty (spec.top_parts (up_to l.fn.below) (node_tree l.tree)) (l.pieces ++ more);
  can : AllByRecursion CanBeEmpty (parts_seen (into_iter_items l.part-iterator));
  counted : into_iter_len l.part-iterator ≡ length (into_iter_items l.part-iterator);
}
