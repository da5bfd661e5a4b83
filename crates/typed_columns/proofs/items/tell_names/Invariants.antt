-- What was found, with what is left.
use Rattle.std.proofs.Common.{◌≡◌, map, drop}
use Rattle.mql_ast.specs.Trees.{item_tree}
use Rattle.typed_trees.specs.Faults.{first_with}
use Rattle.typed_trees.specs.Items.{item_name, taken_faults}
use Rattle.typed_columns.proofs.items.tell_names.Given as goal

abbrev pub invariant-loop-item : goal.invariant-loop-item
invariant-loop-item l =
    first_with l.found.first (taken_faults l.taken (map item_name (map item_tree (drop l.item-index l.items))))
    ≡ first_with l.fn.found.first (taken_faults l.fn.taken (map item_name (map item_tree l.items)))
