-- Some parts have their pieces, over each list of rows that has these series, and the parts that are left can be
-- evaluated.
use Rattle.std.proofs.Common.{◌≡◌, List}
use Rattle.std.specs.List.{AllByRecursion}
use Rattle.std.specs.Vec.Iter.{into_iter_items, into_iter_len}
use Rattle.std.specs.Prelude.{length}
use Rattle.mon_value.specs.LeafHistories.{points_by_series}
use Rattle.mon_value.specs.declared.rows.Row.{Row}
use Rattle.typed_trees.specs.Levels.{is_leaf, top_parts}
use Rattle.typed_trees.specs.Nodes.{node_tree}
use Rattle.mon_meaning.specs.Central.{all_held}
use Rattle.mon_meaning.specs.TopParts.{parts_seen}
use Rattle.leaf_eval.proofs.EvaluatedParts.{SoFar}
use Rattle.leaf_eval.proofs.ReadyParts.{IsPartReady}
use Rattle.leaf_eval.proofs.answers.answer_by_series.Given as goal

abbrev pub invariant-loop-part : goal.invariant-loop-part
invariant-loop-part l = record {
  so_far : (source : List Row) → all_held l.series ≡ points_by_series source
      → SoFar l.grid source (top_parts is_leaf (node_tree l.plan.typed.tree))
      (parts_seen (into_iter_items l.part-iterator))
      l.pieces l.meter.load l.sent;
  ready : AllByRecursion (IsPartReady l.grid (all_held l.series)) (parts_seen (into_iter_items l.part-iterator));
  limit : l.meter.limit ≡ l.limit;
  counted : into_iter_len l.part-iterator ≡ length (into_iter_items l.part-iterator);
}
