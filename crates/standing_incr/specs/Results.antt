-- What a query comes to, from the tables that are kept.
use Rattle.std.specs.Prelude.{◌≡◌, Option, Some, None, List, map}
use Rattle.mon_value.specs.declared.tables.Table.{Table}
use Rattle.mon_value.specs.declared.tables.TimedRow.{TimedRow}
use Rattle.mon_fold.specs.PartialGroups.{GroupsSoFar, row_finished}
use Rattle.typed_trees.specs.Nodes.{NodeTree, columns_of}
use Rattle.standing_incr.specs.Ways.{CanGoThrough, nodes_above, rows_through}
use Rattle.standing_incr.specs.declared.tables.Tables.{Tables}
use Rattle.standing_incr.specs.declared.ways.Stop.TheVariants as stop

abbrev pub rows_or : List TimedRow → Option GroupsSoFar → List TimedRow
rows_or rows (Some groups) = map row_finished groups.groups
rows_or rows None = rows

-- the rows of the groups, finished, or of the alignment where there are no groups
abbrev pub rows_kept : Tables → List TimedRow
rows_kept tables = rows_or tables.table.rows tables.parts

abbrev pub CanFinish : NodeTree → Tables → Type 0
CanFinish tree tables = CanGoThrough (nodes_above stop.Grouping tree) (rows_kept tables)

abbrev pub IsFinished : NodeTree → Tables → Table → Type 0
IsFinished tree tables table =
    table ≡ record { columns = columns_of tree; rows = rows_through (nodes_above stop.Grouping tree) (rows_kept tables) }
