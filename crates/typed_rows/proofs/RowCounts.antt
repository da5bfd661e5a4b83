-- How many rows tables have.
use Rattle.std.proofs.Common.{◌≡◌, ◌∙◌, ◌≤◌, ℕ, ◌+◌, not, Option, Some, None, List, [], ◌∷◌, length, take, refl}
use Rattle.std.proofs.Common.{ap, sym, arith, length-append}
use Rattle.std.specs.List.{cons_option, flat_map, sum_by}
use Rattle.std.proofs.lemmas.List.{length-map, length-take}
use Rattle.std.proofs.lemmas.List.Sorted.{length_permutation}
use Rattle.std.proofs.lemmas.List.Sums.{sum_by-cons, sum_by-le-sum_by}
use Rattle.mon_value.specs.Groups.{group_key, group_keys, group_row, group_rows, rows_by_group, rows_in, rank_cmp}
use Rattle.mon_value.specs.Groups.{top_rows}
use Rattle.mon_value.specs.Same.{same_row}
use Rattle.mon_value.specs.Order.{sorted_list}
use Rattle.mon_value.specs.declared.aggregates.Aggregate.{Aggregate}
use Rattle.mon_value.specs.declared.grids.Grid.{Grid}
use Rattle.mon_value.specs.declared.rows.Row.{Row}
use Rattle.mon_value.specs.declared.tables.TimedRow.{TimedRow}
use Rattle.mon_value.proofs.SortingLemmas.{sorted_list-permutation}
use Rattle.mon_value.proofs.SameLemmas.{same_row-Decides}
use Rattle.mql_ast.specs.Rows.{predicate_truth}
use Rattle.typed_trees.specs.Meaning.{load_of, rows_meant, value_row}
use Rattle.typed_trees.specs.Nodes as node
use Rattle.typed_trees.specs.Nodes.{NodeTree, columns_of}
use Rattle.typed_rows.proofs.GroupSums.{group_sums_within}
use Rattle.mon_value.proofs.PlainLemmas.{filter_map-few, filter-few}

count_ones_lem : {A : Type 0} (xs : List A) → sum_by (λ x. 1) xs ≡ length xs
count_ones_lem [] = refl
count_ones_lem (x ∷ xs) = sum_by-cons (λ x. 1) x xs ∙ ap (λ n. 1 + n) (count_ones_lem xs) ∙ omega arith

pub length-flat_map : {A B : Type 0} (f : A → List B) (xs : List A)
    → length (flat_map f xs) ≡ sum_by (λ x. length (f x)) xs
length-flat_map f [] = refl
length-flat_map f (x ∷ xs) =
    length-append (f x) (flat_map f xs) ∙ ap (λ n. length (f x) + n) (length-flat_map f xs)
    ∙ sym (sum_by-cons (λ y. length (f y)) x xs)

-- the groups of rows have no more rows than there are
groups_within : (places : List ℕ) (rows : List TimedRow)
    → sum_by (λ (group : TimedRow × List TimedRow). length group.1) (rows_by_group places rows) ≤ length rows
groups_within places rows =
    let one : TimedRow → ℕ = λ row. 1 in
    let within : sum_by (λ (group : TimedRow × List TimedRow). sum_by one group.1) (rows_by_group places rows) ≤
    sum_by one rows =
    group_sums_within same_row same_row-Decides (group_key places) one rows in
    let counted : sum_by (λ (group : TimedRow × List TimedRow). length group.1) (rows_by_group places rows)
    ≤ sum_by (λ (group : TimedRow × List TimedRow). sum_by one group.1) (rows_by_group places rows) =
    sum_by-le-sum_by (λ (group : TimedRow × List TimedRow). length group.1) (λ group. sum_by one group.1)
    (rows_by_group places rows)
    (λ group. omega (arith, count_ones_lem group.1)) in
    omega (arith, within, counted, count_ones_lem rows)

keys_within : (by : List ℕ) (rows : List TimedRow) → length (group_keys by rows) ≤ length rows
keys_within by [] = omega arith
keys_within by (row ∷ rows) =
    omega (
      arith,
      filter-few (λ key. not (same_row (group_key by row) key)) (group_keys by rows),
      keys_within
          by rows,
    )

-- there are no more groups than rows
group_rows_within : (by : List ℕ) (with : List Aggregate) (rows : List TimedRow)
    → length (group_rows by with rows) ≤ length rows
group_rows_within by with rows =
    omega (
      arith,
      length-map (rows_by_group by rows) (group_row with),
      length-map {B = TimedRow × List TimedRow} (group_keys by rows) (λ key. (key, rows_in by key rows)),
      keys_within by rows,
    )

top_within : (n column : ℕ) (rows : List TimedRow)
    → length (take n (sorted_list (rank_cmp column) rows)) ≤ length rows
top_within n column rows =
    omega (
      arith,
      length-take n (sorted_list (rank_cmp column) rows),
      length_permutation rows (sorted_list (rank_cmp column) rows) (sorted_list-permutation (rank_cmp column) rows),
    )

top_rows_within : (n column : ℕ) (rows : List TimedRow) → length (top_rows n column rows) ≤ length rows
top_rows_within n column rows =
    let firsts : TimedRow × List TimedRow → List TimedRow = λ group. take n (sorted_list (rank_cmp column) group.1) in
    let fewer : sum_by (λ group. length (firsts group)) (rows_by_group [] rows)
    ≤ sum_by (λ (group : TimedRow × List TimedRow). length group.1) (rows_by_group [] rows) =
    sum_by-le-sum_by (λ group. length (firsts group)) (λ group. length group.1) (rows_by_group [] rows)
    (λ group. top_within n column group.1) in
    omega (arith, length-flat_map firsts (rows_by_group [] rows), fewer, groups_within [] rows)

-- a table has no more rows than the load of its part of a query
pub rows_within_load : (grid : Grid) (tree : NodeTree) (rows : List Row)
    → length (rows_meant grid tree rows) ≤ load_of grid tree rows
rows_within_load grid (node.Fetch info schema metric) rows = omega arith
rows_within_load grid (node.Filter info by input) rows =
    omega (
      arith,
      filter-few (λ (row : TimedRow). predicate_truth by info.columns row.cells)
          (rows_meant grid input rows),
      rows_within_load grid input rows,
    )
rows_within_load grid (node.Align info by input) rows = omega arith
rows_within_load grid (node.GroupBy info by with input) rows =
    omega (arith, group_rows_within by with (rows_meant grid input rows), rows_within_load grid input rows)
rows_within_load grid (node.Value info items input) rows =
    omega (
      arith,
      filter_map-few (value_row (columns_of input) items) (rows_meant grid input rows),
      rows_within_load grid input rows,
    )
rows_within_load grid (node.Top info most column input) rows =
    omega (arith, top_rows_within most column (rows_meant grid input rows), rows_within_load grid input rows)
rows_within_load grid (node.Join info left right) rows = omega arith
rows_within_load grid (node.Union info left right) rows =
    omega (
      arith,
      length-append (rows_meant grid left rows) (rows_meant grid right rows),
      rows_within_load grid left rows,
      rows_within_load grid right rows,
    )
