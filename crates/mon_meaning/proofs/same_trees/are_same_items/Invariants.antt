-- Where the items left add up the same, all do.
use Rattle.std.proofs.Common.{◌≡◌, drop, map}
use Rattle.mql_ast.specs.Trees.{item_tree}
use Rattle.mon_meaning.specs.within.SameTrees.{bare_items}
use Rattle.mon_meaning.proofs.same_trees.are_same_items.Given as goal

abbrev pub invariant-loop-item : goal.invariant-loop-item
invariant-loop-item l =
    bare_items (map item_tree (drop l.item-index l.items)) ≡ bare_items (map item_tree l.rest)
    → bare_items (map item_tree l.items) ≡ bare_items (map item_tree l.others)
