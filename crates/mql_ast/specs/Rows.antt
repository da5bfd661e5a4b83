-- What a query's sums and predicates come to in a row.
use Rattle.std.specs.Prelude.{ℕ, List, slice_get, Option, ◌<◌, ◌≤◌, ◌+◌, ◌^◌, max, nat_le, [], ◌∷◌, length, Some, None}
use Rattle.std.specs.Prelude.{option_map, option_and_then, IsSome, IsSomeAnd, if◌then◌else◌, ℤ, ◌+ℤ◌, ◌-ℤ◌, Bool, false}
use Rattle.std.specs.Prelude.{◌==◌, ◌||◌, sum, not, ◌&&◌}
use Rattle.std.specs.List.{position_or_len, AllByRecursion}
use Rattle.std.specs.Option.{option_zip, option_map_or}
use Rattle.std.specs.Ordering.{is_eq, is_ne, is_lt, is_le, is_gt, is_ge}
use Rattle.std.specs.declared.cmp.Ordering.{Ordering}
use Rattle.mon_value.specs.Same.{same_text, is_match}
use Rattle.mon_value.specs.declared.columns.Column.{Column}
use Rattle.mon_value.specs.declared.values.Value.{Value}
use Rattle.mon_value.specs.Tables.{FitColumns}
use Rattle.mon_value.specs.declared.limits.TheConstants.{NUMBER_BITS, WIDEST_SUM}
use Rattle.mon_value.specs.Values.{magnitude}
use Rattle.mon_value.specs.declared.values.ValueType.{ValueType}
use Rattle.mon_value.specs.declared.values.ValueType.TheVariants as type
use Rattle.mon_value.specs.Groups.{percentile_of, number_in, counts_in}
use Rattle.mon_value.specs.declared.values.Value.TheVariants as value
use Rattle.mon_value.specs.Order.{value_cmp, field_as_value}
use Rattle.mon_value.specs.declared.values.FieldValue.{FieldValue}
use Rattle.mql_ast.specs.Trees as tree
use Rattle.mql_ast.specs.Trees.{SumTree, PredicateTree}
use Rattle.mql_ast.specs.declared.predicates.Comparison.{Comparison}
use Rattle.mql_ast.specs.declared.predicates.Comparison.TheVariants as comparison

-- Columns by their names.

-- where the first column of a name stands; behind all columns where none has it
abbrev pub place_of : List ℕ → List Column → ℕ
place_of name columns = position_or_len (λ column. same_text name column.name) columns

-- the column of a name
abbrev pub column_named : List ℕ → List Column → Option Column
column_named name columns = slice_get columns (place_of name columns)

-- what stands in the column of a name
abbrev pub cell_named : List ℕ → List Column → List Value → Option Value
cell_named name columns cells = slice_get cells (place_of name columns)

-- How wide the numbers of a sum are, and in which rows it can be computed.

-- the widest cell of which every percentile is computed: a hundred times its total is still a number
abbrev pub widest_percentile : ℕ
widest_percentile = 119

-- the width in bits of a column of numbers
abbrev pub column_bits : ValueType → ℕ → Option ℕ
column_bits type.Int bits = Some bits
column_bits type.Bool bits = None
column_bits type.Text bits = None
column_bits (type.Dist bounds) bits = None

-- the width in bits of a percentile of a column of distributions that are not too wide
abbrev pub percentile_width : ValueType → ℕ → Option ℕ
percentile_width (type.Dist bounds) bits = if nat_le bits widest_percentile then Some NUMBER_BITS else None
percentile_width type.Int bits = None
percentile_width type.Bool bits = None
percentile_width type.Text bits = None

-- one bit more than the wider of two numbers
abbrev pub bits_together : Option ℕ → Option ℕ → Option ℕ
bits_together left right = option_map (λ both. max both.0 both.1 + 1) (option_zip left right)

-- the width in bits of the number that a sum comes to, if it comes to a number
abbrev pub sum_bits : SumTree → List Column → Option ℕ
sum_bits (tree.Column name) columns =
    option_and_then (λ column. column_bits column.of column.cell_bits) (column_named name.text columns)
sum_bits (tree.Number at z) columns = Some NUMBER_BITS
sum_bits (tree.Plus left right) columns = bits_together (sum_bits left columns) (sum_bits right columns)
sum_bits (tree.Minus left right) columns = bits_together (sum_bits left columns) (sum_bits right columns)
sum_bits (tree.Percentile at name p) columns =
    option_and_then (λ column. percentile_width column.of column.cell_bits) (column_named name.text columns)

-- a sum that is a column of any type, or a number that is not too wide
abbrev pub IsTypedSum : SumTree → List Column → Type 0
IsTypedSum (tree.Column name) columns = IsSome (column_named name.text columns)
IsTypedSum sum columns = IsSomeAnd (sum_bits sum columns) (λ bits. bits ≤ WIDEST_SUM)

-- each percentile is one from 1 to 100
abbrev pub HasShares : SumTree → Type 0
HasShares (tree.Column name) = Unit {0}
HasShares (tree.Number at z) = Unit {0}
HasShares (tree.Plus left right) = HasShares left × HasShares right
HasShares (tree.Minus left right) = HasShares left × HasShares right
HasShares (tree.Percentile at name p) = (1 ≤ p) × (p ≤ 100)

-- a distribution's type has at least one bound
abbrev pub HasBound : ValueType → Type 0
HasBound (type.Dist bounds) = 0 < length bounds
HasBound of = Unit {0}

-- each cell's magnitude is within the width of its column
abbrev pub FitWidths : List Column → List Value → Type 0
FitWidths [] cells = Unit {0}
FitWidths (column ∷ columns) [] = Unit {0}
FitWidths (column ∷ columns) (cell ∷ cells) = (magnitude cell ≤ 2 ^ column.cell_bits) × FitWidths columns cells

-- a row of which typed sums over its columns can be computed
pub record CanCompute (columns : List Column) (cells : List Value) : Type 0 where
  pub bounded : AllByRecursion (λ column. HasBound column.of) columns
  pub shaped : FitColumns columns cells
  pub widths : FitWidths columns cells

-- What a sum comes to in a row.

-- two numbers put together, where both are there
abbrev pub put_together : (ℤ → ℤ → ℤ) → Option Value → Option Value → Option Value
put_together with left right = option_and_then
    (λ y. option_map (λ z. value.Int (with y z)) (option_and_then number_in right)) (option_and_then number_in left)

-- the bounds of the buckets of a column of distributions
abbrev pub bucket_bounds : ValueType → List ℤ
bucket_bounds (type.Dist bounds) = bounds
bucket_bounds type.Int = []
bucket_bounds type.Bool = []
bucket_bounds type.Text = []

-- those of the column of a name
abbrev pub bounds_named : List ℕ → List Column → List ℤ
bounds_named name columns = option_map_or (λ column. bucket_bounds column.of) (column_named name columns) []

-- a percentile of what stands in a column, and none of a distribution without values
abbrev pub percentile_in : ℕ → List ℤ → Option Value → Option Value
percentile_in p bounds cell = option_and_then
    (λ counts. option_map value.Int (percentile_of counts bounds p)) (option_and_then counts_in cell)

-- what a sum comes to in the row with these cells in these columns, if to anything
abbrev pub sum_value : SumTree → List Column → List Value → Option Value
sum_value (tree.Column name) columns cells = cell_named name.text columns cells
sum_value (tree.Number at z) columns cells = Some (value.Int z)
sum_value (tree.Plus left right) columns cells =
    put_together ◌+ℤ◌ (sum_value left columns cells) (sum_value right columns cells)
sum_value (tree.Minus left right) columns cells =
    put_together ◌-ℤ◌ (sum_value left columns cells) (sum_value right columns cells)
sum_value (tree.Percentile at name p) columns cells =
    percentile_in p (bounds_named name.text columns) (cell_named name.text columns cells)

-- whether a cell is a distribution without values
abbrev pub is_without_values : Value → Bool
is_without_values cell = option_map_or (λ counts. sum counts == 0) (counts_in cell) false

-- whether a percentile in the sum meets a distribution without values
abbrev pub meets_no_values : SumTree → List Column → List Value → Bool
meets_no_values (tree.Column name) columns cells = false
meets_no_values (tree.Number at z) columns cells = false
meets_no_values (tree.Plus left right) columns cells = meets_no_values left columns cells || meets_no_values right
    columns cells
meets_no_values (tree.Minus left right) columns cells = meets_no_values left columns cells || meets_no_values right
    columns cells
meets_no_values (tree.Percentile at name p) columns cells =
    option_map_or is_without_values (cell_named name.text columns cells) false

-- Whether a predicate holds of a row.

-- whether two values that stand in this order are as the comparison asks
abbrev pub is_met : Comparison → Ordering → Bool
is_met comparison.Equal order = is_eq order
is_met comparison.NotEqual order = is_ne order
is_met comparison.Less order = is_lt order
is_met comparison.AtMost order = is_le order
is_met comparison.Greater order = is_gt order
is_met comparison.AtLeast order = is_ge order

-- whether a cell compares with a literal as asked: numbers by size, texts by their bytes, false before true
abbrev pub is_compared : Comparison → FieldValue → Value → Bool
is_compared how literal cell = is_met how (value_cmp cell (field_as_value literal))

-- whether a cell is a text that the pattern matches
abbrev pub is_like : List (List ℕ) → Value → Bool
is_like pieces (value.Text text) = is_match pieces text
is_like pieces (value.Int z) = false
is_like pieces (value.Bool p) = false
is_like pieces (value.Dist counts) = false

-- whether a test holds of what stands in a column; it doesn't where there is no such column
abbrev pub is_passed : (Value → Bool) → Option Value → Bool
is_passed test cell = option_map_or test cell false

-- whether a predicate holds of the row with these cells in these columns
abbrev pub predicate_truth : PredicateTree → List Column → List Value → Bool
predicate_truth (tree.Compare name how literal) columns cells =
    is_passed (is_compared how literal.value) (cell_named name.text columns cells)
predicate_truth (tree.Like name pattern) columns cells =
    is_passed (is_like pattern.pieces) (cell_named name.text columns cells)
predicate_truth (tree.Not p) columns cells = not (predicate_truth p columns cells)
predicate_truth (tree.And p q) columns cells = predicate_truth p columns cells && predicate_truth q columns cells
predicate_truth (tree.Or p q) columns cells = predicate_truth p columns cells || predicate_truth q columns cells
