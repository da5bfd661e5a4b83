-- With pieces for the parts that are left there is one for each part, and so are the pairs counted.
use Rattle.std.proofs.Common.{◌≡◌, ◌≤◌, ◌+◌, ◌++◌, List, length}
use Rattle.std.specs.Vec.Iter.{into_iter_items, into_iter_len}
use Rattle.typed_trees.specs.Nodes.{node_tree}
use Rattle.typed_trees.specs.Levels as spec
use Rattle.typed_trees.specs.Levels.{in_zone}
use Rattle.mon_fold.specs.declared.answers.Piece.{Piece}
use Rattle.mon_meaning.specs.TopParts.{parts_seen}
use Rattle.mixer.specs.within.ZonePieces.{AreHandedUp, CanHandUpAll, joins_of_parts}
use Rattle.mixer.proofs.zone_pieces.zone_pieces.Given as goal

abbrev pub invariant-loop-part : goal.invariant-loop-part
invariant-loop-part l = record {
  so_far : (more : List Piece)
      → AreHandedUp (parts_seen (into_iter_items l.part-iterator)) (into_iter_items l.pieces) more
      → AreHandedUp (spec.top_parts in_zone (node_tree l.tree)) l.fn.pieces (l.made ++ more);
  can : CanHandUpAll l.fn.meter.load (parts_seen (into_iter_items l.part-iterator)) (into_iter_items l.pieces);
  joins : l.meter.load + joins_of_parts (parts_seen (into_iter_items l.part-iterator)) (into_iter_items l.pieces)
      ≡ l.fn.meter.load + joins_of_parts (spec.top_parts in_zone (node_tree l.tree)) l.fn.pieces;
  grown : l.fn.meter.load ≤ l.meter.load;
  limit : l.meter.limit ≡ l.fn.meter.limit;
  counted : into_iter_len l.part-iterator ≡ length (into_iter_items l.part-iterator);
  items : into_iter_len l.pieces ≡ length (into_iter_items l.pieces);
}
