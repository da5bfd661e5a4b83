-- Pieces of rows that stand in another order.
use Rattle.std.proofs.Common.{◌≡◌, ◌≤◌, ℕ, List, [], length, sym, ap, ◌∙◌, arith}
use Rattle.std.specs.Prelude.{IsPermutation}
use Rattle.std.proofs.lemmas.List.{length-map}
use Rattle.std.proofs.lemmas.List.Sorted.{IsPermutation-trans, length_permutation}
use Rattle.mon_value.specs.Groups.{group_keys, group_row, group_rows, rows_by_group, rows_in}
use Rattle.mon_value.specs.declared.aggregates.Aggregate.{Aggregate}
use Rattle.mon_value.specs.declared.columns.Column.{Column}
use Rattle.mon_value.specs.declared.grids.Grid.{Grid}
use Rattle.mon_value.specs.declared.rows.Row.{Row}
use Rattle.mon_value.specs.declared.tables.TimedRow.{TimedRow}
use Rattle.typed_rows.proofs.RowCounts.{rows_within_load}
use Rattle.typed_trees.specs.Meaning.{load_of, rows_meant}
use Rattle.typed_trees.specs.Nodes as node
use Rattle.typed_trees.specs.Nodes.{NodeTree, info_of}
use Rattle.typed_trees.specs.Levels as up
use Rattle.typed_trees.specs.Levels.{PartUse, sent_of}
use Rattle.mon_fold.specs.declared.answers.Piece.{Piece}
use Rattle.mon_fold.specs.declared.answers.Piece.TheVariants as piece
use Rattle.mon_fold.specs.PartialGroups.{PartialGroup, GroupsSoFar, partial_groups, parts_over}
use Rattle.mon_meaning.proofs.OperationOrders.{CanGroup-permutation, group_rows-permutation, top_rows-permutation}
use Rattle.mon_meaning.specs.Standing.{StandsFor}
use Rattle.mon_meaning.specs.GoingUp.{CanGoUp, items_sent}

pub up-permutation : (columns : List Column) (use_of : PartUse) (xs ys : List TimedRow) → IsPermutation xs ys
    → CanGoUp columns use_of xs → CanGoUp columns use_of ys
up-permutation columns up.AsRows xs ys same can = tt
up-permutation columns (up.ToGroup by with) xs ys same can = CanGroup-permutation columns by with xs ys same can
up-permutation columns (up.ToCut most column) xs ys same can = tt

pub stands-permutation : (columns : List Column) (use_of : PartUse) (xs ys : List TimedRow) (p : Piece)
    → IsPermutation xs ys
    → StandsFor columns (use_of, ys) p → StandsFor columns (use_of, xs) p
stands-permutation columns up.AsRows xs ys (piece.Table table) same stands = record {
  columns_are = stands.columns_are;
  rows_are = IsPermutation-trans _ _ _ same stands.rows_are;
}
stands-permutation columns up.AsRows xs ys (piece.Groups groups) same stands = absurd stands
stands-permutation columns (up.ToGroup by with) xs ys (piece.Table table) same stands = absurd stands
stands-permutation columns (up.ToGroup by with) xs ys (piece.Groups groups) same stands = record {
  taken = stands.taken;
  rows_are = IsPermutation-trans _ _ _ same stands.rows_are;
  groups_are = stands.groups_are;
}
stands-permutation columns (up.ToCut most column) xs ys (piece.Table table) same stands = record {
  columns_are = stands.columns_are;
  rows_are = IsPermutation-trans _ _ _ (top_rows-permutation most column xs ys same) stands.rows_are;
}
stands-permutation columns (up.ToCut most column) xs ys (piece.Groups groups) same stands = absurd stands

-- ---- how many rows or groups go up

keys_made : (by : List ℕ) (with : List Aggregate) (rows : List TimedRow) → length (group_rows by with rows)
    ≡ length (group_keys by rows)
keys_made by with rows =
    length-map (rows_by_group by rows) (group_row with)
    ∙ length-map {B = TimedRow × List TimedRow} (group_keys by rows) (λ key. (key, rows_in by key rows))

groups_made : (by : List ℕ) (with : List Aggregate) (rows : List TimedRow) → length (partial_groups by with rows)
    ≡ length (group_keys by rows)
groups_made by with rows =
    length-map {B = PartialGroup} (rows_by_group by rows) (λ group. (group.0, parts_over with group.1))
    ∙ length-map {B = TimedRow × List TimedRow} (group_keys by rows) (λ key. (key, rows_in by key rows))

keys-permutation : (by : List ℕ) (xs ys : List TimedRow) → IsPermutation xs ys → length (group_keys by xs)
    ≡ length (group_keys by ys)
keys-permutation by xs ys same =
    omega (
      arith,
      keys_made by [] xs,
      keys_made by [] ys,
      length_permutation _ _ (group_rows-permutation by [] xs ys
          same),
    )

pub sent_is : (columns : List Column) (use_of : PartUse) (rows : List TimedRow) (p : Piece) → StandsFor columns
    (use_of, rows) p
    → items_sent p ≡ sent_of use_of rows
sent_is columns up.AsRows rows (piece.Table table) stands = length_permutation _ _ stands.rows_are
sent_is columns up.AsRows rows (piece.Groups groups) stands = absurd stands
sent_is columns (up.ToGroup by with) rows (piece.Table table) stands = absurd stands
sent_is columns (up.ToGroup by with) rows (piece.Groups groups) stands =
    ap (λ (g : GroupsSoFar). length g.groups) stands.groups_are
    ∙ groups_made by with stands.taken
    ∙ sym (keys-permutation by rows stands.taken stands.rows_are)
sent_is columns (up.ToCut most column) rows (piece.Table table) stands = length_permutation _ _ stands.rows_are
sent_is columns (up.ToCut most column) rows (piece.Groups groups) stands = absurd stands

-- no more goes up of a part than its load
pub sent_within : (grid : Grid) (use_of : PartUse) (part : NodeTree) (source : List Row)
    → sent_of use_of (rows_meant grid part source) ≤ load_of grid part source
sent_within grid up.AsRows part source = rows_within_load grid part source
sent_within grid (up.ToGroup by with) part source =
    omega (
      arith,
      keys_made by with (rows_meant grid part source),
      rows_within_load grid (node.GroupBy (info_of part) by with part) source,
    )
sent_within grid (up.ToCut most column) part source =
    rows_within_load grid (node.Top (info_of part) most column part) source
