-- What an operation makes of what flows into it, in a tree over series.
use Rattle.std.proofs.Common.{◌≡◌, List, refl}
use Rattle.mon_value.specs.declared.grids.Grid.{Grid}
use Rattle.typed_trees.specs.Nodes as node
use Rattle.typed_trees.specs.Nodes.{NodeTree}
use Rattle.typed_trees.specs.Soundness.{IsWithinRows}
use Rattle.mon_meaning.specs.Operations.{CanOperate, operation_rows}
use Rattle.mon_meaning.specs.within.Paths.{first_input, other_load, other_rows}
use Rattle.mon_meaning.specs.within.Readiness.{IsNodeReady}
use Rattle.mon_meaning.specs.within.SeriesMeaning.{SeriesGroup, load_by_series, rows_by_series}

module _ (grid : Grid) (series : List SeriesGroup) where
  pub rows_made : (tree : NodeTree)
      → rows_by_series grid tree series ≡ operation_rows tree (rows_by_series grid (first_input tree) series)
      (other_rows grid tree series)
  rows_made (node.Fetch info schema metric) = refl
  rows_made (node.Filter info by input) = refl
  rows_made (node.Align info by input) = refl
  rows_made (node.GroupBy info by with input) = refl
  rows_made (node.Value info items input) = refl
  rows_made (node.Top info most column input) = refl
  rows_made (node.Join info left right) = refl
  rows_made (node.Union info left right) = refl

  pub can_operate : (tree : NodeTree) → IsNodeReady grid tree series
      → IsWithinRows (load_by_series grid (first_input tree)
      series)
      → IsWithinRows (other_load grid tree series)
      → CanOperate tree (rows_by_series grid (first_input tree) series) (other_rows grid tree series)
  can_operate (node.Fetch info schema metric) ready few others = tt
  can_operate (node.Filter info by input) ready few others = tt
  can_operate (node.Align info by input) ready few others = tt
  can_operate (node.GroupBy info by with input) ready few others = ready.0 few
  can_operate (node.Value info items input) ready few others = (ready.0, ready.1.0 few)
  can_operate (node.Top info most column input) ready few others = tt
  can_operate (node.Join info left right) ready few others = (ready.0 few, ready.1.0 others)
  can_operate (node.Union info left right) ready few others = tt
