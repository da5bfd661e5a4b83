-- Trees of which each node tells what is fixed in its table, and of which the filters have columns with names of their
-- own, so that what they are told to fix is fixed.
use Rattle.std.proofs.Common.{◌≡◌}
use Rattle.typed_trees.specs.Nodes as node
use Rattle.typed_trees.specs.Nodes.{NodeTree, fixed_of}
use Rattle.typed_trees.specs.FixedColumns.{AreFixed, fixed_at}
use Rattle.typed_rows.proofs.NamedTrees.{FiltersName, NamedOnce}

abbrev Tells : NodeTree → Type 0
Tells tree = fixed_of tree ≡ fixed_at tree

abbrev pub AreFixing : NodeTree → Type 0
AreFixing (node.Fetch info schema metric) = Tells (node.Fetch info schema metric)
AreFixing (node.Filter info by input) =
    Tells (node.Filter info by input) × (NamedOnce info.columns × AreFixing input)
AreFixing (node.Align info by input) = Tells (node.Align info by input) × AreFixing input
AreFixing (node.GroupBy info by with input) = Tells (node.GroupBy info by with input) × AreFixing input
AreFixing (node.Value info items input) = Tells (node.Value info items input) × AreFixing input
AreFixing (node.Top info most column input) = Tells (node.Top info most column input) × AreFixing input
AreFixing (node.Join info left right) = Tells (node.Join info left right) × (AreFixing left × AreFixing right)
AreFixing (node.Union info left right) = Tells (node.Union info left right) × (AreFixing left × AreFixing right)

pub are_fixing : (tree : NodeTree) → AreFixed tree → FiltersName tree → AreFixing tree
are_fixing (node.Fetch info schema metric) fixed named = fixed
are_fixing (node.Filter info by input) fixed named = (fixed.0, (named.0, are_fixing input fixed.1 named.1))
are_fixing (node.Align info by input) fixed named = (fixed.0, are_fixing input fixed.1 named)
are_fixing (node.GroupBy info by with input) fixed named = (fixed.0, are_fixing input fixed.1 named)
are_fixing (node.Value info items input) fixed named = (fixed.0, are_fixing input fixed.1 named)
are_fixing (node.Top info most column input) fixed named = (fixed.0, are_fixing input fixed.1 named)
are_fixing (node.Join info left right) fixed named =
    (fixed.0, (are_fixing left fixed.1.0 named.0, are_fixing right fixed.1.1 named.1))
are_fixing (node.Union info left right) fixed named =
    (fixed.0, (are_fixing left fixed.1.0 named.0, are_fixing right fixed.1.1 named.1))
