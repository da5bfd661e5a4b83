-- What was made, in front of what is left.
use Rattle.std.proofs.Common.{◌≡◌, ◌++◌, map, drop}
use Rattle.std.specs.List.{filter_map, flat_map}
use Rattle.mql_ast.specs.Trees.{item_tree}
use Rattle.typed_trees.specs.Faults.{first_with}
use Rattle.typed_trees.specs.Items.{item_column, item_sum_faults}
use Rattle.typed_columns.proofs.items.item_columns.Given as goal

abbrev pub invariant-loop-item : goal.invariant-loop-item
invariant-loop-item l = record {
  columns : l.made ++ filter_map (item_column l.columns) (map item_tree (drop l.item-index l.items))
      ≡ l.fn.keys ++ filter_map (item_column l.columns) (map item_tree l.items);
  faults : first_with l.found.first (flat_map (item_sum_faults l.columns) (map item_tree (drop l.item-index l.items)))
      ≡ first_with l.fn.found.first (flat_map (item_sum_faults l.columns) (map item_tree l.items));
}
