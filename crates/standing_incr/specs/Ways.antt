-- The way from a query's result down to the alignment, or to where rows are grouped, and what is made on it of rows.
use Rattle.std.specs.Prelude.{Bool, true, false, List, [], ◌∷◌, if◌then◌else◌}
use Rattle.mon_value.specs.declared.tables.TimedRow.{TimedRow}
use Rattle.mon_meaning.specs.Operations.{CanOperate, operation_rows}
use Rattle.mon_meaning.specs.within.Sides.{HasOneSide}
use Rattle.typed_trees.specs.Nodes as node
use Rattle.typed_trees.specs.Nodes.{NodeTree}
use Rattle.standing_incr.specs.declared.ways.Stop.{Stop}
use Rattle.standing_incr.specs.declared.ways.Stop.TheVariants as stop

-- whether a way goes on below a grouping
abbrev pub passes_groupings : Stop → Bool
passes_groupings stop.Alignment = true
passes_groupings stop.Grouping = false

-- where a way ends: where rows begin, where two tables meet, and perhaps at a grouping
abbrev pub part_at : Stop → NodeTree → NodeTree
part_at to (node.Fetch info schema metric) = node.Fetch info schema metric
part_at to (node.Filter info by input) = part_at to input
part_at to (node.Align info by input) = node.Align info by input
part_at to (node.GroupBy info by with input) =
    if passes_groupings to then part_at to input else node.GroupBy info by with input
part_at to (node.Value info items input) = part_at to input
part_at to (node.Top info most column input) = part_at to input
part_at to (node.Join info left right) = node.Join info left right
part_at to (node.Union info left right) = node.Union info left right

-- the nodes on it, from the top, without the last one
abbrev pub nodes_above : Stop → NodeTree → List NodeTree
nodes_above to (node.Fetch info schema metric) = []
nodes_above to (node.Filter info by input) = node.Filter info by input ∷ nodes_above to input
nodes_above to (node.Align info by input) = []
nodes_above to (node.GroupBy info by with input) =
    if passes_groupings to then node.GroupBy info by with input ∷ nodes_above to input else []
nodes_above to (node.Value info items input) = node.Value info items input ∷ nodes_above to input
nodes_above to (node.Top info most column input) = node.Top info most column input ∷ nodes_above to input
nodes_above to (node.Join info left right) = []
nodes_above to (node.Union info left right) = []

-- what the operations of a way make of the rows at its end
abbrev pub rows_through : List NodeTree → List TimedRow → List TimedRow
rows_through [] rows = rows
rows_through (tree ∷ above) rows = operation_rows tree (rows_through above rows) []

-- each operation of a way can be done on what reaches it
abbrev pub CanGoThrough : List NodeTree → List TimedRow → Type 0
CanGoThrough [] rows = Unit {0}
CanGoThrough (tree ∷ above) rows =
    (HasOneSide tree × CanOperate tree (rows_through above rows) []) × CanGoThrough above rows
