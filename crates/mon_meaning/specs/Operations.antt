-- What an operation makes of the rows that flow into it, and what it asks of them.
use Rattle.std.specs.Prelude.{ℕ, List, ◌++◌, filter, length}
use Rattle.std.specs.List.{AllByRecursion, filter_map, flat_map}
use Rattle.mon_value.specs.Tables.{IsWhole, pairs_of}
use Rattle.mon_value.specs.Groups.{CanGroup, group_rows, top_rows}
use Rattle.mon_value.specs.declared.tables.TimedRow.{TimedRow}
use Rattle.mql_ast.specs.Rows.{CanCompute, HasShares, IsTypedSum, predicate_truth}
use Rattle.mql_ast.specs.Trees.{ItemTree}
use Rattle.typed_trees.specs.Meaning.{value_row}
use Rattle.typed_trees.specs.Nodes as node
use Rattle.typed_trees.specs.Nodes.{NodeTree, columns_of}

-- what an operation makes of the rows of its input, or of its left side and its right one; a source passes on what it
-- has
abbrev pub operation_rows : NodeTree → List TimedRow → List TimedRow → List TimedRow
operation_rows (node.Fetch info schema metric) rows others = rows
operation_rows (node.Filter info by input) rows others =
    filter (λ row. predicate_truth by info.columns row.cells) rows
operation_rows (node.Align info by input) rows others = rows
operation_rows (node.GroupBy info by with input) rows others = group_rows by with rows
operation_rows (node.Value info items input) rows others = filter_map (value_row (columns_of input) items) rows
operation_rows (node.Top info most column input) rows others = top_rows most column rows
operation_rows (node.Join info left right) rows others =
    flat_map (pairs_of (columns_of left) (columns_of right) others) rows
operation_rows (node.Union info left right) rows others = rows ++ others

-- the load of an operation alone: the pairs of a join
abbrev pub operation_load : NodeTree → List TimedRow → List TimedRow → ℕ
operation_load (node.Fetch info schema metric) rows others = 0
operation_load (node.Filter info by input) rows others = 0
operation_load (node.Align info by input) rows others = 0
operation_load (node.GroupBy info by with input) rows others = 0
operation_load (node.Value info items input) rows others = 0
operation_load (node.Top info most column input) rows others = 0
operation_load (node.Join info left right) rows others =
    length (operation_rows (node.Join info left right) rows others)
operation_load (node.Union info left right) rows others = 0

-- rows that an operation can be done on
abbrev pub CanOperate : NodeTree → List TimedRow → List TimedRow → Type 0
CanOperate (node.Fetch info schema metric) rows others = Unit {0}
CanOperate (node.Filter info by input) rows others = Unit {0}
CanOperate (node.Align info by input) rows others = Unit {0}
CanOperate (node.GroupBy info by with input) rows others = CanGroup (columns_of input) by with rows
CanOperate (node.Value info items input) rows others =
    AllByRecursion (λ (item : ItemTree). IsTypedSum item.sum (columns_of input) × HasShares item.sum) items
    × AllByRecursion (λ (row : TimedRow). CanCompute (columns_of input) row.cells) rows
CanOperate (node.Top info most column input) rows others = Unit {0}
CanOperate (node.Join info left right) rows others =
    IsWhole (record { columns = columns_of left; rows = rows })
    × IsWhole (record { columns = columns_of right; rows = others })
CanOperate (node.Union info left right) rows others = Unit {0}
