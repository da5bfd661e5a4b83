-- What was made, in front of what is left.
use Rattle.std.proofs.Common.{◌≡◌, ◌++◌, map}
use Rattle.std.specs.Slice.Iter.{iter_rest}
use Rattle.mql_ast.specs.Trees.{item_tree}
use Rattle.mql_types.proofs.operations.copied_items.Given as goal

abbrev pub invariant-loop-item : goal.invariant-loop-item
invariant-loop-item l =
    map item_tree l.copied ++ map item_tree (iter_rest l.item-iterator) ≡ map item_tree l.items
