-- Which rows a standing result holds: those that can matter at its moment or at a later one.
use Rattle.std.specs.Prelude.{ℤ, Bool, true, false, ◌&&◌, List, []}
use Rattle.mon_value.specs.declared.aligners.Aligner.{Aligner}
use Rattle.mon_value.specs.declared.aligners.Aligner.TheVariants.{Delta, Increase, NextOlder}
use Rattle.mon_value.specs.declared.grids.Grid.{Grid}
use Rattle.mon_value.specs.declared.rows.Row.{Row}
use Rattle.typed_trees.specs.Meaning.{grid_of, meets}
use Rattle.typed_trees.specs.Nodes as node
use Rattle.typed_trees.specs.Nodes.{NodeTree, TypedTree}
use Rattle.mon_meaning.specs.within.Reach.{reach_start}
use Rattle.mon_meaning.specs.within.SeriesMeaning.{flows}
use Rattle.standing_incr.specs.NeededRows.{needed_rows}

-- whether an alignment takes what is added since the point before its window
abbrev pub looks_before : Aligner → Bool
looks_before (Delta seconds) = false
looks_before (Increase seconds) = true
looks_before (NextOlder seconds) = false

abbrev pub is_met : NodeTree → Row → Bool
is_met input row = meets input row.key

-- whether a row can be the one before a window: its totals flow into an alignment that takes increases
abbrev pub is_before : Aligner → NodeTree → Row → Bool
is_before by input row = looks_before by && (meets input row.key && flows input row.key row.point.value)

-- of some rows, those that matter by the alignment of a tree that neither joins nor unites
abbrev pub held_rows : Grid → NodeTree → List Row → List Row
held_rows grid (node.Fetch info schema metric) rows = []
held_rows grid (node.Filter info by input) rows = held_rows grid input rows
held_rows grid (node.Align info by input) rows =
    needed_rows (is_met input) (is_before by input) (reach_start grid by) rows
held_rows grid (node.GroupBy info by with input) rows = held_rows grid input rows
held_rows grid (node.Value info items input) rows = held_rows grid input rows
held_rows grid (node.Top info most column input) rows = held_rows grid input rows
held_rows grid (node.Join info left right) rows = []
held_rows grid (node.Union info left right) rows = []

-- what a result of a query holds of some rows at a moment
abbrev pub held_of : TypedTree → ℤ → List Row → List Row
held_of typed moment rows = held_rows (grid_of typed moment) typed.tree rows
