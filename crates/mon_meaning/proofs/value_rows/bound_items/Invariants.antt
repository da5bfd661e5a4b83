-- the items so far are bound
use Rattle.std.proofs.Common.{map, take}
use Rattle.mql_ast.specs.Trees.{item_tree}
use Rattle.mon_meaning.specs.within.Items.{AreBound}
use Rattle.mon_meaning.proofs.value_rows.bound_items.Given as goal

abbrev pub invariant-loop-item : goal.invariant-loop-item
invariant-loop-item l = AreBound l.bound.items (map item_tree (take l.item-index l.items)) l.columns
