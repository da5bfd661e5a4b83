-- Groups whose aggregates are kept as parts.
use Rattle.std.specs.Prelude.{◌≡◌, ◌≤◌, ℕ, pos, ◌+ℤ◌, int_lt, false, List, [], ◌∷◌, ◌++◌, length, map, filter, not}
use Rattle.std.specs.Prelude.{is_some, All, codes, slice_get, Option, Some, None, option_map, IfSome, if◌then◌else◌}
use Rattle.std.specs.Int.{int_div_euclid, int_min, int_max}
use Rattle.std.specs.List.{filter_map}
use Rattle.std.specs.Map.{lookup}
use Rattle.mon_value.specs.Groups.{where_any, sum_of, item_count, least_of, greatest_of, merged_of, counts_added}
use Rattle.mon_value.specs.Groups.{column_of, numbers_in, distributions_in, rows_by_group}
use Rattle.mon_value.specs.Values.{greatest_sum}
use Rattle.mon_value.specs.Parts.{combined_numbers, IsWithin}
use Rattle.mon_value.specs.Same.{same_row}
use Rattle.mon_value.specs.declared.aggregates.Aggregate.{Aggregate}
use Rattle.mon_value.specs.declared.aggregates.AggregateKind.{AggregateKind}
use Rattle.mon_value.specs.declared.aggregates.AggregateKind.TheVariants as kind
use Rattle.mon_value.specs.declared.columns.Column.{Column}
use Rattle.mon_value.specs.declared.limits.TheConstants.{ROW_BITS}
use Rattle.mon_value.specs.declared.tables.TimedRow.{TimedRow}
use Rattle.mon_value.specs.declared.values.Value.{Value}
use Rattle.mon_value.specs.declared.values.Value.TheVariants as value
use Rattle.mon_value.specs.declared.values.ValueType.TheVariants as type
use Rattle.mon_fold.specs.declared.aggregate_parts.AggregatePart.{AggregatePart}
use Rattle.mon_fold.specs.declared.aggregate_parts.AggregatePart.TheVariants as part

-- ---- one aggregate

-- the part that stands for rows
abbrev pub part_over : AggregateKind → ℕ → List TimedRow → AggregatePart
part_over kind.Sum column rows =
    let numbers = numbers_in (column_of column rows) in
    part.Sum (record { sum = where_any numbers (sum_of numbers) })
part_over kind.Count column rows = part.Count (record { number = item_count rows })
part_over kind.Min column rows = part.Min (record { least = least_of (numbers_in (column_of column rows)) })
part_over kind.Max column rows = part.Max (record { greatest = greatest_of (numbers_in (column_of column rows)) })
part_over kind.Mean column rows =
    let numbers = numbers_in (column_of column rows) in
    part.Mean (record { sum = sum_of numbers; number = item_count numbers })
part_over kind.Merge column rows = part.Merge (merged_of (distributions_in (column_of column rows)))

-- distributions merged, of which one or both may be absent
abbrev pub combined_counts : Option (List ℕ) → Option (List ℕ) → Option (List ℕ)
combined_counts None b = b
combined_counts (Some counts) None = Some counts
combined_counts (Some counts) (Some others) = Some (counts_added counts others)

-- two parts of one aggregate together
abbrev pub merged_part : AggregatePart → AggregatePart → AggregatePart
merged_part (part.Sum a) (part.Sum b) = part.Sum (record { sum = combined_numbers ◌+ℤ◌ a.sum b.sum })
merged_part (part.Sum a) other = part.Sum a
merged_part (part.Count a) (part.Count b) = part.Count (record { number = a.number +ℤ b.number })
merged_part (part.Count a) other = part.Count a
merged_part (part.Min a) (part.Min b) = part.Min (record { least = combined_numbers int_min a.least b.least })
merged_part (part.Min a) other = part.Min a
merged_part (part.Max a) (part.Max b) = part.Max (record { greatest = combined_numbers int_max a.greatest b.greatest })
merged_part (part.Max a) other = part.Max a
merged_part (part.Mean a) (part.Mean b) = part.Mean (record { sum = a.sum +ℤ b.sum; number = a.number +ℤ b.number })
merged_part (part.Mean a) other = part.Mean a
merged_part (part.Merge a) (part.Merge b) = part.Merge (combined_counts a b)
merged_part (part.Merge a) other = part.Merge a

-- distributions that can be merged in place: of one length, with counts within bounds
abbrev pub CanMergeCounts : Option (List ℕ) → Option (List ℕ) → Type 0
CanMergeCounts a None = Unit {0}
CanMergeCounts None (Some others) = ⊥
CanMergeCounts (Some counts) (Some others) =
    (length counts ≡ length others) × All (λ count. count ≤ greatest_sum) (counts_added counts others)

-- two parts of one aggregate that can be merged: what comes out is within bounds
abbrev pub CanMergePart : AggregatePart → AggregatePart → Type 0
CanMergePart (part.Sum a) (part.Sum b) = IfSome (combined_numbers ◌+ℤ◌ a.sum b.sum) IsWithin
CanMergePart (part.Sum a) other = Unit {0}
CanMergePart (part.Count a) (part.Count b) = IsWithin (a.number +ℤ b.number)
CanMergePart (part.Count a) other = Unit {0}
CanMergePart (part.Min a) other = Unit {0}
CanMergePart (part.Max a) other = Unit {0}
CanMergePart (part.Mean a) (part.Mean b) = IsWithin (a.sum +ℤ b.sum) × IsWithin (a.number +ℤ b.number)
CanMergePart (part.Mean a) other = Unit {0}
CanMergePart (part.Merge a) (part.Merge b) = CanMergeCounts a b
CanMergePart (part.Merge a) other = Unit {0}

-- what a part finishes to
abbrev pub part_finished : AggregatePart → Option Value
part_finished (part.Sum a) = option_map value.Int a.sum
part_finished (part.Count a) = option_map value.Int (if int_lt (pos 0) a.number then Some a.number else None)
part_finished (part.Min a) = option_map value.Int a.least
part_finished (part.Max a) = option_map value.Int a.greatest
part_finished (part.Mean a) =
    option_map value.Int (if int_lt (pos 0) a.number then Some (int_div_euclid a.sum a.number) else None)
part_finished (part.Merge a) = option_map value.Dist a

-- ---- groups

-- a group: its time and grouping cells, and the part of each aggregate
abbrev pub PartialGroup : Type 0
PartialGroup = TimedRow × List AggregatePart

abbrev pub parts_over : List Aggregate → List TimedRow → List AggregatePart
parts_over with rows = map (λ aggregate. part_over aggregate.what aggregate.column rows) with

-- the groups of rows, each with the parts that stand for its rows, in the order of their first rows
abbrev pub partial_groups : List ℕ → List Aggregate → List TimedRow → List PartialGroup
partial_groups by with rows = map (λ group. (group.0, parts_over with group.1)) (rows_by_group by rows)

-- parts merged one by one
abbrev pub merged_parts : List AggregatePart → List AggregatePart → List AggregatePart
merged_parts [] others = []
merged_parts (part ∷ parts) [] = part ∷ parts
merged_parts (part ∷ parts) (other ∷ others) = merged_part part other ∷ merged_parts parts others

abbrev pub CanMergeParts : List AggregatePart → List AggregatePart → Type 0
CanMergeParts [] [] = Unit {0}
CanMergeParts [] (other ∷ others) = ⊥
CanMergeParts (part ∷ parts) [] = ⊥
CanMergeParts (part ∷ parts) (other ∷ others) = CanMergePart part other × CanMergeParts parts others

-- groups with a group more: merged into the one of its time and cells, or put at the end
abbrev pub with_group : List PartialGroup → PartialGroup → List PartialGroup
with_group [] new = new ∷ []
with_group (group ∷ groups) new =
    if same_row new.0 group.0 then (group.0, merged_parts group.1 new.1) ∷ groups else group ∷ with_group groups new

-- where there is a group of its time and cells, the two can be merged
abbrev pub CanTakeGroup : List PartialGroup → PartialGroup → Type 0
CanTakeGroup groups new = IfSome (lookup (same_row new.0) groups) (λ parts. CanMergeParts parts new.1)

-- groups with all of the others
abbrev pub merged_groups : List PartialGroup → List PartialGroup → List PartialGroup
merged_groups groups [] = groups
merged_groups groups (new ∷ more) = merged_groups (with_group groups new) more

-- each two groups that are merged can be
abbrev pub CanMergeGroups : List PartialGroup → List PartialGroup → Type 0
CanMergeGroups groups [] = Unit {0}
CanMergeGroups groups (new ∷ more) = CanTakeGroup groups new × CanMergeGroups (with_group groups new) more

-- those of the others that no group has the key of
abbrev pub new_to : List PartialGroup → List PartialGroup → List PartialGroup
new_to groups others = filter (λ other. not (is_some (lookup (same_row other.0) groups))) others

-- the row that a group finishes to
abbrev pub row_finished : PartialGroup → TimedRow
row_finished group = record { time = group.0.time; cells = group.0.cells ++ filter_map part_finished group.1 }

-- ---- columns

-- the column of a count
abbrev pub count_column : Column
count_column = record {
  name = codes "count";
  of = type.Int;
  key = false;
  anchor = None;
  cell_bits = ROW_BITS;
  total_bits = ROW_BITS;
}

-- the column of an aggregate: that which it looks at, but for a count
abbrev pub column_made : List Column → ℕ → AggregateKind → Option Column
column_made columns place kind.Sum = slice_get columns place
column_made columns place kind.Count = Some count_column
column_made columns place kind.Min = slice_get columns place
column_made columns place kind.Max = slice_get columns place
column_made columns place kind.Mean = slice_get columns place
column_made columns place kind.Merge = slice_get columns place

-- the columns of aggregates
abbrev pub columns_made : List Column → List Aggregate → List Column
columns_made columns with = filter_map (λ aggregate. column_made columns aggregate.column aggregate.what) with

-- the columns of finished groups: the grouping columns, and then one for each aggregate
abbrev pub group_columns : List Column → List ℕ → List Aggregate → List Column
group_columns columns by with = filter_map (slice_get columns) by ++ columns_made columns with

-- partial groups: the columns that they finish to, the aggregates' kinds, and the groups
pub record GroupsSoFar : Type 0 where
  pub columns : List Column
  pub kinds : List AggregateKind
  pub groups : List PartialGroup

-- the partial groups that stand for rows, which are to be grouped
abbrev pub parts_of : List Column → List ℕ → List Aggregate → List TimedRow → GroupsSoFar
parts_of columns by with rows = record {
  columns = group_columns columns by with;
  kinds = map (λ aggregate. aggregate.what) with;
  groups = partial_groups by with rows;
}
