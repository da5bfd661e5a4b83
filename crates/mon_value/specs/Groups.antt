-- What a group's rows come to: each aggregate of a list of values, which no order of it changes, which tables can be
-- grouped, and the rows that come first at each time.
use Rattle.std.specs.Prelude.{◌≡◌, ◌≤◌, ◌≤ℤ◌, Bool, true, ◌&&◌, int_lt, ℕ, ◌+◌, ◌-◌, ◌*◌, ◌==◌, nat_le, ℤ, pos, List}
use Rattle.std.specs.Prelude.{[], ◌∷◌, length, sum, slice_index_or, min, Option, Some, None, if◌then◌else◌, ◌+ℤ◌, fold}
use Rattle.std.specs.Prelude.{◌++◌, map, slice_get, option_map, ◌<◌, filter, sum_by, take}
use Rattle.std.specs.List.{position_or_len, filter_map, AllByRecursion, flat_map}
use Rattle.std.specs.Int.{int_min, int_max, int_div_euclid}
use Rattle.std.specs.Option.{option_or}
use Rattle.std.specs.Ordering.{int_eq, ordering_then}
use Rattle.std.specs.Cmp.Lexicographic.{slice_cmp}
use Rattle.std.specs.declared.cmp.Ordering.{Ordering}
use Rattle.mon_value.specs.Same.{items_by_key, items_with, keys_of, same_row}
use Rattle.mon_value.specs.declared.aggregates.Aggregate.{Aggregate}
use Rattle.mon_value.specs.declared.aggregates.AggregateKind.{AggregateKind}
use Rattle.mon_value.specs.declared.aggregates.AggregateKind.TheVariants as kind
use Rattle.mon_value.specs.declared.tables.TimedRow.{TimedRow}
use Rattle.mon_value.specs.declared.values.Value.{Value}
use Rattle.mon_value.specs.declared.values.Value.TheVariants as value
use Rattle.mon_value.specs.Tables.{FitColumns}
use Rattle.mon_value.specs.Values.{greatest_sum, magnitude}
use Rattle.mon_value.specs.declared.columns.Column.{Column}
use Rattle.mon_value.specs.declared.values.ValueType.{ValueType}
use Rattle.mon_value.specs.declared.values.ValueType.TheVariants as type
use Rattle.mon_value.specs.Order.{row_cmp, value_cmp, sorted_list}

-- Distributions: a count for each bucket.

-- two distributions of one length, bucket by bucket; the empty list adds nothing
abbrev pub counts_added : List ℕ → List ℕ → List ℕ
counts_added [] others = others
counts_added (count ∷ counts) [] = count ∷ counts
counts_added (count ∷ counts) (other ∷ others) = (count + other) ∷ counts_added counts others

-- whether each bound is above the one before it
abbrev pub bounds_rise : List ℤ → Bool
bounds_rise [] = true
bounds_rise (bound ∷ []) = true
bounds_rise (bound ∷ next ∷ bounds) = int_lt bound next && bounds_rise (next ∷ bounds)

-- for each bucket, how many values it and those before it have, beside `before`
abbrev pub running_counts : ℕ → List ℕ → List ℕ
running_counts before [] = []
running_counts before (count ∷ counts) = (before + count) ∷ running_counts (before + count) counts

-- the first bucket whose running count times 100 is at least p times the total
abbrev pub percentile_bucket : List ℕ → ℕ → ℕ
percentile_bucket counts p =
    position_or_len (λ running. nat_le (p * sum counts) (running * 100)) (running_counts 0 counts)

-- the upper bound of a bucket; the last bucket has the last bound
abbrev pub upper_bound : List ℤ → ℕ → ℤ
upper_bound bounds bucket = slice_index_or bounds (min bucket (length bounds - 1)) (pos 0)

-- the value below which p of 100 values lie, or none where there are no values
abbrev pub percentile_of : List ℕ → List ℤ → ℕ → Option ℤ
percentile_of counts bounds p = if sum counts == 0 then None else Some (upper_bound bounds (percentile_bucket counts p))

-- a greater percentile of one distribution lies at no lesser bound
abbrev pub PercentilesRise : List ℕ → List ℤ → Type 0
PercentilesRise counts bounds =
    (p q : ℕ) (y z : ℤ) → p ≤ q
    → percentile_of counts bounds p ≡ Some y → percentile_of counts bounds q ≡ Some z → y ≤ℤ z

-- What the values of a group come to: functions of the list of the values that no order changes.

-- the value where there is an item, and else none
abbrev pub where_any : {A B : Type 0} → List A → B → Option B
where_any [] value = None
where_any (item ∷ items) value = Some value

-- the sum of the numbers
abbrev pub sum_of : List ℤ → ℤ
sum_of [] = pos 0
sum_of (x ∷ xs) = x +ℤ sum_of xs

-- the number of items
abbrev pub item_count : {A : Type 0} → List A → ℤ
item_count items = pos (length items)

-- the least of the numbers, and none where there is none
abbrev pub least_of : List ℤ → Option ℤ
least_of [] = None
least_of (x ∷ xs) = Some (fold int_min x xs)

-- the greatest of the numbers, and none where there is none
abbrev pub greatest_of : List ℤ → Option ℤ
greatest_of [] = None
greatest_of (x ∷ xs) = Some (fold int_max x xs)

-- the greatest whole number that is not above the sum divided by the number, also below zero
abbrev pub mean_of : List ℤ → Option ℤ
mean_of xs = where_any xs (int_div_euclid (sum_of xs) (item_count xs))

-- the counts of all the distributions, added bucket by bucket
abbrev pub counts_of : List (List ℕ) → List ℕ
counts_of [] = []
counts_of (counts ∷ rest) = counts_added counts (counts_of rest)

-- the distributions merged into one, and none where there is none
abbrev pub merged_of : List (List ℕ) → Option (List ℕ)
merged_of items = where_any items (counts_of items)

-- What the cells of a group's rows come to.

-- the number that a value is, if it is one
abbrev pub number_in : Value → Option ℤ
number_in (value.Int z) = Some z
number_in (value.Bool p) = None
number_in (value.Text s) = None
number_in (value.Dist counts) = None

-- the distribution that a value is, if it is one
abbrev pub counts_in : Value → Option (List ℕ)
counts_in (value.Int z) = None
counts_in (value.Bool p) = None
counts_in (value.Text s) = None
counts_in (value.Dist counts) = Some counts

abbrev pub numbers_in : List Value → List ℤ
numbers_in values = filter_map number_in values

abbrev pub distributions_in : List Value → List (List ℕ)
distributions_in values = filter_map counts_in values

-- the sum of the numbers among values, and none where there is none
abbrev pub sum_in : List Value → Option Value
sum_in values = option_map value.Int (where_any (numbers_in values) (sum_of (numbers_in values)))

-- the distributions among values, merged, and none where there is none
abbrev pub merge_in : List Value → Option Value
merge_in values = option_map value.Dist (merged_of (distributions_in values))

-- numbers summed, or else distributions merged
abbrev pub total_of : List Value → Option Value
total_of values = option_or (sum_in values) (merge_in values)

-- ---- rows by groups

-- the cells at places
abbrev pub cells_at : List ℕ → List Value → List Value
cells_at places cells = filter_map (slice_get cells) places

-- what tells a row's group: its time and its grouping cells
abbrev pub group_key : List ℕ → TimedRow → TimedRow
group_key by row = record { time = row.time; cells = cells_at by row.cells }

-- the groups that occur, in the order of their first rows
abbrev pub group_keys : List ℕ → List TimedRow → List TimedRow
group_keys by = keys_of same_row (group_key by)

-- the rows of a group, in their order
abbrev pub rows_in : List ℕ → TimedRow → List TimedRow → List TimedRow
rows_in by = items_with same_row (group_key by)

-- the groups with their rows
abbrev pub rows_by_group : List ℕ → List TimedRow → List (TimedRow × List TimedRow)
rows_by_group by = items_by_key same_row (group_key by)

-- the cells of a column
abbrev pub column_of : ℕ → List TimedRow → List Value
column_of column rows = filter_map (λ row. slice_get row.cells column) rows

-- what an aggregate makes of the rows of a group; a count looks at no column
abbrev pub aggregate_made : AggregateKind → ℕ → List TimedRow → Option Value
aggregate_made kind.Sum column rows = sum_in (column_of column rows)
aggregate_made kind.Count column rows = option_map value.Int (where_any rows (item_count rows))
aggregate_made kind.Min column rows = option_map value.Int (least_of (numbers_in (column_of column rows)))
aggregate_made kind.Max column rows = option_map value.Int (greatest_of (numbers_in (column_of column rows)))
aggregate_made kind.Mean column rows = option_map value.Int (mean_of (numbers_in (column_of column rows)))
aggregate_made kind.Merge column rows = merge_in (column_of column rows)

-- the row of a group: its grouping cells and what the aggregates make of its rows
abbrev pub group_row : List Aggregate → TimedRow × List TimedRow → TimedRow
group_row with group = record {
  time = group.0.time;
  cells = group.0.cells ++ filter_map (λ aggregate. aggregate_made aggregate.what aggregate.column group.1) with;
}

-- rows group_rows: one row for each time and list of grouping cells that occurs
abbrev pub group_rows : List ℕ → List Aggregate → List TimedRow → List TimedRow
group_rows by with rows = map (group_row with) (rows_by_group by rows)

-- Which tables can be grouped.

-- numbers are summed, compared and averaged, and distributions merged
abbrev pub TakesType : AggregateKind → ValueType → Type 0
TakesType kind.Merge (type.Dist bounds) = Unit {0}
TakesType kind.Merge of = ⊥
TakesType kind.Count of = Unit {0}
TakesType what type.Int = Unit {0}
TakesType what of = ⊥

-- an aggregate's column is there, and of a type that it takes; a count looks at no column
abbrev pub TakesColumn : AggregateKind → Option Column → Type 0
TakesColumn kind.Count column = Unit {0}
TakesColumn what None = ⊥
TakesColumn what (Some column) = TakesType what column.of

-- the rows at a time
abbrev pub rows_at : ℤ → List TimedRow → List TimedRow
rows_at time rows = filter (λ row. int_eq row.time time) rows

-- what an aggregate asks of its column: a count looks at none
abbrev pub UnlessCount : AggregateKind → Type 0 → Type 0
UnlessCount kind.Count asked = Unit {0}
UnlessCount what asked = asked

-- the magnitudes in a column sum to no more than the greatest sum at each time
abbrev pub SumsFit : List TimedRow → ℕ → Type 0
SumsFit rows column = (time : ℤ) → sum_by magnitude (column_of column (rows_at time rows)) ≤ greatest_sum

-- rows that can be grouped by the columns at some places, and aggregated
pub record CanGroup
    (columns : List Column) (by : List ℕ) (with : List Aggregate) (rows : List TimedRow) : Type 0 where
  pub shaped : AllByRecursion (λ row. FitColumns columns row.cells) rows
  pub listed : AllByRecursion (λ place. place < length columns) by
  pub taken : AllByRecursion (λ aggregate. TakesColumn aggregate.what (slice_get columns aggregate.column)) with
  pub sums : AllByRecursion (λ aggregate. UnlessCount aggregate.what (SumsFit rows aggregate.column)) with

-- The rows that come first at each time.

-- by a column from the greatest, and then by the rows' own order
abbrev pub rank_cmp : ℕ → TimedRow → TimedRow → Ordering
rank_cmp column a b = ordering_then
    (slice_cmp value_cmp (cells_at (column ∷ []) b.cells) (cells_at (column ∷ []) a.cells)) (row_cmp a b)

-- at each time, in the order of the times' first rows, the n rows that come first by rank
abbrev pub top_rows : ℕ → ℕ → List TimedRow → List TimedRow
top_rows n column rows =
    flat_map (λ group. take n (sorted_list (rank_cmp column) group.1)) (rows_by_group [] rows)
