-- What operations that work row by row make of one row.
use Rattle.std.specs.Prelude.{◌≡◌, Option, Some, None, List, [], ◌∷◌, slice_get, IfSome}
use Rattle.std.specs.List.{filter_map}
use Rattle.mon_value.specs.declared.tables.TimedRow.{TimedRow}
use Rattle.mon_meaning.specs.Operations.{CanOperate, operation_rows}
use Rattle.mon_meaning.specs.within.Sides.{HasOneSide}
use Rattle.typed_trees.specs.Nodes.{NodeTree}
use Rattle.kept_exchanges.specs.declared.exchanges.Exchange.{Exchange}

-- the first row that an operation makes of a row, if there is one
abbrev pub row_made : NodeTree → Option TimedRow → Option TimedRow
row_made tree None = None
row_made tree (Some row) = slice_get (operation_rows tree (row ∷ []) []) 0

-- what operations make of a row, the last one first
abbrev pub row_flowing : List NodeTree → Option TimedRow → Option TimedRow
row_flowing [] row = row
row_flowing (tree ∷ above) row = row_made tree (row_flowing above row)

-- each of them can be done on what reaches it of a row
abbrev pub CanFlow : List NodeTree → Option TimedRow → Type 0
CanFlow [] row = Unit {0}
CanFlow (tree ∷ above) row =
    IfSome (row_flowing above row) (λ one. HasOneSide tree × CanOperate tree (one ∷ []) []) × CanFlow above row

-- what they make of rows
abbrev pub rows_flowing : List NodeTree → List TimedRow → List TimedRow
rows_flowing above rows = filter_map (λ row. row_flowing above (Some row)) rows

-- a row that comes and the one that goes can flow
pub record CanFlowBoth (above : List NodeTree) (exchange : Exchange) : Type 0 where
  pub gone : CanFlow above exchange.gone
  pub come : CanFlow above (Some exchange.come)
