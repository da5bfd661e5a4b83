-- How many sides an operation has, and the pairs of a join's two.
use Rattle.std.specs.Prelude.{List}
use Rattle.std.specs.List.{flat_map}
use Rattle.mon_value.specs.Tables.{pairs_of}
use Rattle.mon_value.specs.declared.tables.Table.{Table}
use Rattle.mon_value.specs.declared.tables.TimedRow.{TimedRow}
use Rattle.typed_trees.specs.Nodes as node
use Rattle.typed_trees.specs.Nodes.{NodeTree, columns_of}

-- whether only one table flows into a node, or none
abbrev pub HasOneSide : NodeTree → Type 0
HasOneSide (node.Fetch info schema metric) = Unit {0}
HasOneSide (node.Filter info by input) = Unit {0}
HasOneSide (node.Align info by input) = Unit {0}
HasOneSide (node.GroupBy info by with input) = Unit {0}
HasOneSide (node.Value info items input) = Unit {0}
HasOneSide (node.Top info most column input) = Unit {0}
HasOneSide (node.Join info left right) = ⊥
HasOneSide (node.Union info left right) = ⊥

-- the pairs of a table with the rows of a right side
abbrev pub table_pairs : Table → NodeTree → List TimedRow → List TimedRow
table_pairs left right others = flat_map (pairs_of left.columns (columns_of right) others) left.rows

-- the pairs of a left side's rows with a right one's
abbrev pub side_pairs : NodeTree → NodeTree → List TimedRow → List TimedRow → List TimedRow
side_pairs left right rows others = flat_map (pairs_of (columns_of left) (columns_of right) others) rows
