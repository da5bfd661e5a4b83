-- What was copied so far has the trees of the first ones.
use Rattle.std.proofs.Common.{◌≡◌, map, take}
use Rattle.mql_ast.specs.Trees.{item_tree}
use Rattle.mql_ast.proofs.copying.operations.copied_items.Given as goal

abbrev pub invariant-loop-item : goal.invariant-loop-item
invariant-loop-item l = map item_tree l.copied.items ≡ map item_tree (take l.item-index l.items)
