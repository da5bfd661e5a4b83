-- Groups of rows, and what the parts of one come to where a row takes the place of another.
use Rattle.std.specs.Prelude.{◌≡◌, ◌≤◌, ◌-◌, ℕ, ℤ, ◌+ℤ◌, ◌-ℤ◌, ◌≤ℤ◌, ◌<ℤ◌, ◌⊎◌, List, [], ◌∷◌, length, get_or, slice_get, sum_by, All, Option, Some, None}
use Rattle.std.specs.Int.{int_max, int_min}
use Rattle.std.specs.List.{AllByRecursion}
use Rattle.std.specs.List.Sorted.{IsPermutation}
use Rattle.mon_value.specs.Groups.{TakesColumn, UnlessCount, column_of, counts_added, distributions_in, group_key}
use Rattle.mon_value.specs.Groups.{numbers_in, rows_in}
use Rattle.mon_value.specs.Parts.{IsWithin, combined_numbers}
use Rattle.mon_value.specs.Tables.{FitColumns}
use Rattle.mon_value.specs.Values.{greatest_sum, magnitude}
use Rattle.mon_value.specs.declared.aggregates.Aggregate.{Aggregate}
use Rattle.mon_value.specs.declared.columns.Column.{Column}
use Rattle.mon_value.specs.declared.tables.TimedRow.{TimedRow}
use Rattle.mon_fold.specs.PartialGroups.{PartialGroup, partial_groups, parts_over}
use Rattle.mon_fold.specs.declared.aggregate_parts.AggregatePart.{AggregatePart}
use Rattle.mon_fold.specs.declared.aggregate_parts.AggregatePart.TheVariants as part

-- the groups of rows, taken in some order
pub record AreGroupsOver (by : List ℕ) (with : List Aggregate) (rows : List TimedRow) (groups : List PartialGroup) : Type 0 where
  pub taken : List TimedRow
  pub rows_are : IsPermutation rows taken
  pub groups_are : groups ≡ partial_groups by with taken

-- ---- one aggregate

-- the number that a row holds in a column
abbrev pub number_held : ℕ → TimedRow → Option ℤ
number_held column row = slice_get (numbers_in (column_of column (row ∷ []))) 0

-- the distribution that a row holds in a column
abbrev pub counts_held : ℕ → TimedRow → Option (List ℕ)
counts_held column row = slice_get (distributions_in (column_of column (row ∷ []))) 0

-- a sum with one number in the place of another
abbrev pub traded_total : ℤ → Option ℤ → Option ℤ → ℤ
traded_total sum None more = sum
traded_total sum (Some less) None = sum
traded_total sum (Some less) (Some more) = (sum -ℤ less) +ℤ more

abbrev pub CanTradeTotal : ℤ → Option ℤ → Option ℤ → Type 0
CanTradeTotal sum None more = Unit {0}
CanTradeTotal sum (Some less) None = Unit {0}
CanTradeTotal sum (Some less) (Some more) = IsWithin (sum -ℤ less) × IsWithin ((sum -ℤ less) +ℤ more)

abbrev pub traded_sum : Option ℤ → Option ℤ → Option ℤ → Option ℤ
traded_sum None less more = None
traded_sum (Some sum) less more = Some (traded_total sum less more)

abbrev pub CanTradeSum : Option ℤ → Option ℤ → Option ℤ → Type 0
CanTradeSum None less more = Unit {0}
CanTradeSum (Some sum) less more = CanTradeTotal sum less more

-- what is left of counts where others are taken off
abbrev pub counts_less : List ℕ → List ℕ → List ℕ
counts_less [] others = []
counts_less (count ∷ counts) [] = count ∷ counts
counts_less (count ∷ counts) (other ∷ others) = (count - other) ∷ counts_less counts others

-- merged distributions with one in the place of another
abbrev pub traded_counts : Option (List ℕ) → Option (List ℕ) → Option (List ℕ) → Option (List ℕ)
traded_counts None less more = None
traded_counts (Some counts) None more = Some counts
traded_counts (Some counts) (Some less) None = Some counts
traded_counts (Some counts) (Some less) (Some more) = Some (counts_added (counts_less counts less) more)

abbrev pub CanTradeCounts : Option (List ℕ) → Option (List ℕ) → Option (List ℕ) → Type 0
CanTradeCounts None less more = Unit {0}
CanTradeCounts (Some counts) None more = Unit {0}
CanTradeCounts (Some counts) (Some less) None = Unit {0}
CanTradeCounts (Some counts) (Some less) (Some more) =
    (length less ≡ length counts) × ((bucket : ℕ) → get_or less bucket 0 ≤ get_or counts bucket 0)
    × (length more ≤ length counts) × All (λ count. count ≤ greatest_sum) (counts_added (counts_less counts less) more)

-- a part of an aggregate over a column, with one row in the place of another
abbrev pub traded_part : ℕ → TimedRow → TimedRow → AggregatePart → AggregatePart
traded_part column gone come (part.Sum a) =
    part.Sum (record { sum = traded_sum a.sum (number_held column gone) (number_held column come) })
traded_part column gone come (part.Count a) = part.Count a
traded_part column gone come (part.Min a) =
    part.Min (record { least = combined_numbers int_min a.least (number_held column come) })
traded_part column gone come (part.Max a) =
    part.Max (record { greatest = combined_numbers int_max a.greatest (number_held column come) })
traded_part column gone come (part.Mean a) = part.Mean (record {
  sum = traded_total a.sum (number_held column gone) (number_held column come);
  number = a.number;
})
traded_part column gone come (part.Merge a) =
    part.Merge (traded_counts a (counts_held column gone) (counts_held column come))

abbrev pub CanTradePart : ℕ → TimedRow → TimedRow → AggregatePart → Type 0
CanTradePart column gone come (part.Sum a) = CanTradeSum a.sum (number_held column gone) (number_held column come)
CanTradePart column gone come (part.Count a) = Unit {0}
CanTradePart column gone come (part.Min a) = Unit {0}
CanTradePart column gone come (part.Max a) = Unit {0}
CanTradePart column gone come (part.Mean a) = CanTradeTotal a.sum (number_held column gone) (number_held column come)
CanTradePart column gone come (part.Merge a) = CanTradeCounts a (counts_held column gone) (counts_held column come)

-- a least number that another leaves, or none greater takes its place
abbrev pub IsLeastTold : Option ℤ → Option ℤ → Option ℤ → Type 0
IsLeastTold None less more = ⊥
IsLeastTold (Some least) None more = ⊥
IsLeastTold (Some least) (Some less) None = ⊥
IsLeastTold (Some least) (Some less) (Some more) = (least <ℤ less) ⊎ (more ≤ℤ least)

-- a greatest number that another leaves, or none lesser takes its place
abbrev pub IsGreatestTold : Option ℤ → Option ℤ → Option ℤ → Type 0
IsGreatestTold None less more = ⊥
IsGreatestTold (Some greatest) None more = ⊥
IsGreatestTold (Some greatest) (Some less) None = ⊥
IsGreatestTold (Some greatest) (Some less) (Some more) = (less <ℤ greatest) ⊎ (greatest ≤ℤ more)

-- a part tells by itself what it is with one row in the place of another
abbrev pub IsTold : ℕ → TimedRow → TimedRow → AggregatePart → Type 0
IsTold column gone come (part.Sum a) = Unit {0}
IsTold column gone come (part.Count a) = Unit {0}
IsTold column gone come (part.Min a) = IsLeastTold a.least (number_held column gone) (number_held column come)
IsTold column gone come (part.Max a) = IsGreatestTold a.greatest (number_held column gone) (number_held column come)
IsTold column gone come (part.Mean a) = Unit {0}
IsTold column gone come (part.Merge a) = Unit {0}

-- ---- the aggregates of a group

abbrev pub traded_parts : List Aggregate → TimedRow → TimedRow → List AggregatePart → List AggregatePart
traded_parts [] gone come parts = parts
traded_parts (aggregate ∷ with) gone come [] = []
traded_parts (aggregate ∷ with) gone come (part ∷ parts) =
    traded_part aggregate.column gone come part ∷ traded_parts with gone come parts

abbrev pub CanTradeParts : List Aggregate → TimedRow → TimedRow → List AggregatePart → Type 0
CanTradeParts [] gone come parts = Unit {0}
CanTradeParts (aggregate ∷ with) gone come [] = ⊥
CanTradeParts (aggregate ∷ with) gone come (part ∷ parts) =
    CanTradePart aggregate.column gone come part × CanTradeParts with gone come parts

-- each part tells by itself what it is with one row in the place of another
abbrev pub AreTold : List Aggregate → TimedRow → TimedRow → List AggregatePart → Type 0
AreTold [] gone come parts = Unit {0}
AreTold (aggregate ∷ with) gone come [] = ⊥
AreTold (aggregate ∷ with) gone come (part ∷ parts) =
    IsTold aggregate.column gone come part × AreTold with gone come parts

-- ---- groups

-- groups of rows in which one row can take the place of another of the group with the key
pub record CanTrade (columns : List Column) (by : List ℕ) (with : List Aggregate) (rest : List TimedRow)
    (groups : List PartialGroup) (key gone come : TimedRow) : Type 0 where
  pub told : AreTold with gone come (parts_over with (gone ∷ rows_in by key rest))
  pub gone_key : group_key by gone ≡ key
  pub come_key : group_key by come ≡ key
  pub are : AreGroupsOver by with (gone ∷ rest) groups
  pub shaped : AllByRecursion (λ row. FitColumns columns row.cells) (gone ∷ come ∷ rest)
  pub taken : AllByRecursion (λ aggregate. TakesColumn aggregate.what (slice_get columns aggregate.column)) with
  pub sums : AllByRecursion (λ aggregate. UnlessCount aggregate.what
      (sum_by magnitude (column_of aggregate.column (come ∷ rows_in by key rest)) ≤ greatest_sum)) with
