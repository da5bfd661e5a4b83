-- The operations on the way from a table that is kept up to a query's result can be done, and make what they mean.
use Rattle.std.proofs.Common.{◌≡◌, ◌∙◌, true, Option, Some, None, List, map, refl, sym, ap, subst}
use Rattle.std.specs.Prelude.{IsPermutation}
use Rattle.std.proofs.lemmas.Bool.{false≢true}
use Rattle.mon_value.specs.declared.grids.Grid.{Grid}
use Rattle.mon_value.specs.declared.rows.Row.{Row}
use Rattle.mon_value.specs.declared.tables.TimedRow.{TimedRow}
use Rattle.mon_value.proofs.PermutationLemmas.{filter-permutation}
use Rattle.mql_ast.specs.Rows.{CanCompute, predicate_truth}
use Rattle.mon_fold.specs.PartialGroups.{GroupsSoFar, row_finished}
use Rattle.mon_fold.proofs.PartialGroupLemmas.{groups_finish}
use Rattle.typed_trees.specs.Meaning.{load_of, rows_meant, value_row}
use Rattle.typed_trees.specs.Nodes as node
use Rattle.typed_trees.specs.Nodes.{NodeTree, columns_of}
use Rattle.typed_trees.specs.Plans.{fetches}
use Rattle.typed_trees.specs.Soundness.{IsEvaluable, IsWithinRows}
use Rattle.mon_meaning.specs.Incremental.{is_one_path}
use Rattle.mon_meaning.proofs.FilterLemmas.{all-permutation, filter_map-permutation}
use Rattle.mon_meaning.proofs.OperationOrders.{CanGroup-permutation, group_rows-permutation, top_rows-permutation}
use Rattle.standing_incr.specs.KeptTables.{AreGroupsAt, CanGroupAt, aligned_part, flowing_rows, grouped_part, groups_at}
use Rattle.standing_incr.specs.Results.{rows_or}
use Rattle.standing_incr.specs.Ways.{CanGoThrough, nodes_above, part_at, rows_through}
use Rattle.standing_incr.specs.declared.ways.Stop.{Stop}
use Rattle.standing_incr.specs.declared.ways.Stop.TheVariants as stop

-- ---- what holds of a tree holds of its alignment

pub aligned_evaluable : (grid : Grid) (held : List Row) (tree : NodeTree) → is_one_path tree ≡ true
    → IsEvaluable grid tree held → IsEvaluable grid (aligned_part tree) held
aligned_evaluable grid held (node.Fetch info schema metric) path can = can
aligned_evaluable grid held (node.Filter info by input) path can = aligned_evaluable grid held input path can
aligned_evaluable grid held (node.Align info by input) path can = can
aligned_evaluable grid held (node.GroupBy info by with input) path can = aligned_evaluable grid held input path can.1
aligned_evaluable grid held (node.Value info items input) path can = aligned_evaluable grid held input path can.1.1
aligned_evaluable grid held (node.Top info most column input) path can = aligned_evaluable grid held input path can
aligned_evaluable grid held (node.Join info left right) path can = absurd (false≢true path)
aligned_evaluable grid held (node.Union info left right) path can = absurd (false≢true path)

pub aligned_fetches : (tree : NodeTree) → is_one_path tree ≡ true → fetches (aligned_part tree) ≡ fetches tree
aligned_fetches (node.Fetch info schema metric) path = refl
aligned_fetches (node.Filter info by input) path = aligned_fetches input path
aligned_fetches (node.Align info by input) path = refl
aligned_fetches (node.GroupBy info by with input) path = aligned_fetches input path
aligned_fetches (node.Value info items input) path = aligned_fetches input path
aligned_fetches (node.Top info most column input) path = aligned_fetches input path
aligned_fetches (node.Join info left right) path = absurd (false≢true path)
aligned_fetches (node.Union info left right) path = absurd (false≢true path)

pub aligned_load : (grid : Grid) (held : List Row) (tree : NodeTree) → is_one_path tree ≡ true
    → load_of grid (aligned_part tree) held ≡ load_of grid tree held
aligned_load grid held (node.Fetch info schema metric) path = refl
aligned_load grid held (node.Filter info by input) path = aligned_load grid held input path
aligned_load grid held (node.Align info by input) path = refl
aligned_load grid held (node.GroupBy info by with input) path = aligned_load grid held input path
aligned_load grid held (node.Value info items input) path = aligned_load grid held input path
aligned_load grid held (node.Top info most column input) path = aligned_load grid held input path
aligned_load grid held (node.Join info left right) path = absurd (false≢true path)
aligned_load grid held (node.Union info left right) path = absurd (false≢true path)

-- ---- up a way

module _ (grid : Grid) (held : List Row) where
  pub go_through : (tree : NodeTree) (to : Stop) → is_one_path tree ≡ true → IsEvaluable grid tree held
      → IsWithinRows (load_of grid tree held) → (rows : List TimedRow)
      → IsPermutation (rows_meant grid (part_at to tree) held) rows
      → CanGoThrough (nodes_above to tree) rows
      × IsPermutation (rows_meant grid tree held) (rows_through (nodes_above to tree) rows)
  go_through (node.Fetch info schema metric) to path can few rows same = (tt, same)
  go_through (node.Filter info by input) to path can few rows same =
      let rest = go_through input to path can few rows same in (
        ((tt, tt), rest.0),
        filter-permutation (λ (row : TimedRow). predicate_truth by info.columns row.cells) _ _ rest.1,
      )
  go_through (node.Align info by input) to path can few rows same = (tt, same)
  go_through (node.GroupBy info by with input) stop.Alignment path can few rows same =
      let rest = go_through input stop.Alignment path can.1 few rows same in (
        ((tt, CanGroup-permutation (columns_of input) by with _ _ rest.1 (can.0 few)), rest.0),
        group_rows-permutation by with _ _ rest.1,
      )
  go_through (node.GroupBy info by with input) stop.Grouping path can few rows same = (tt, same)
  go_through (node.Value info items input) to path can few rows same =
      let rest = go_through input to path can.1.1 few rows same in (
        (
          (
            tt,
            (
              can.0,
              all-permutation (λ (row : TimedRow). CanCompute (columns_of input) row.cells) _ _ rest.1 (can.1.0 few),
            ),
          ),
          rest.0,
        ),
        filter_map-permutation (value_row (columns_of input) items) _ _ rest.1,
      )
  go_through (node.Top info most column input) to path can few rows same =
      let rest = go_through input to path can few rows same in
      (((tt, tt), rest.0), top_rows-permutation most column _ _ rest.1)
  go_through (node.Join info left right) to path can few rows same = absurd (false≢true path)
  go_through (node.Union info left right) to path can few rows same = absurd (false≢true path)

  -- the groups of a table of the alignment are those of what flows into the grouping
  pub groups_stand : (tree : NodeTree) → is_one_path tree ≡ true → IsEvaluable grid tree held
      → IsWithinRows (load_of grid tree held) → (rows : List TimedRow)
      → IsPermutation (rows_meant grid (aligned_part tree) held) rows
      → CanGroupAt (grouped_part tree) rows
      × AreGroupsAt grid held (grouped_part tree) (groups_at (grouped_part tree) rows)
  groups_stand (node.Fetch info schema metric) path can few rows same = (tt, tt)
  groups_stand (node.Filter info by input) path can few rows same = groups_stand input path can few rows same
  groups_stand (node.Align info by input) path can few rows same = (tt, tt)
  groups_stand (node.GroupBy info by with input) path can few rows same =
      let rest = go_through input stop.Alignment path can.1 few rows same in (
        (rest.0, CanGroup-permutation (columns_of input) by with _ _ rest.1 (can.0 few)),
        record { taken = flowing_rows input rows; rows_are = rest.1; groups_are = refl },
      )
  groups_stand (node.Value info items input) path can few rows same = groups_stand input path can.1.1 few rows same
  groups_stand (node.Top info most column input) path can few rows same = groups_stand input path can few rows same
  groups_stand (node.Join info left right) path can few rows same = absurd (false≢true path)
  groups_stand (node.Union info left right) path can few rows same = absurd (false≢true path)

  -- the rows of what is kept are those of the part that groups
  abbrev StandsAt : NodeTree → List TimedRow → Option GroupsSoFar → Type 0
  StandsAt tree rows parts = IsPermutation (rows_meant grid (grouped_part tree) held) (rows_or rows parts)

  pub rows_stand : (tree : NodeTree) → is_one_path tree ≡ true → (rows : List TimedRow)
      → IsPermutation (rows_meant grid (aligned_part tree) held) rows → (parts : Option GroupsSoFar)
      → AreGroupsAt grid held (grouped_part tree) parts → StandsAt tree rows parts
  rows_stand (node.Fetch info schema metric) path rows same None are = same
  rows_stand (node.Fetch info schema metric) path rows same (Some groups) are = absurd are
  rows_stand (node.Filter info by input) path rows same parts are = rows_stand input path rows same parts are
  rows_stand (node.Align info by input) path rows same None are = same
  rows_stand (node.Align info by input) path rows same (Some groups) are = absurd are
  rows_stand (node.GroupBy info by with input) path rows same None are = absurd are
  rows_stand (node.GroupBy info by with input) path rows same (Some groups) are =
      subst (λ made. IsPermutation (rows_meant grid (node.GroupBy info by with input) held) made)
      (sym (ap (λ (g : GroupsSoFar). map row_finished g.groups) are.groups_are ∙ groups_finish with by are.taken))
      (group_rows-permutation by with _ _ are.rows_are)
  rows_stand (node.Value info items input) path rows same parts are = rows_stand input path rows same parts are
  rows_stand (node.Top info most column input) path rows same parts are = rows_stand input path rows same parts are
  rows_stand (node.Join info left right) path rows same parts are = absurd (false≢true path)
  rows_stand (node.Union info left right) path rows same parts are = absurd (false≢true path)
