-- How the series of a metric are kept: their numbers under the metric.
use Rattle.std.specs.Prelude.{◌≡◌, ◌≤◌, ℕ, zero, suc, true, false, List, [], ◌∷◌, ◌++◌, slice_get, Option, Some, None}
use Rattle.std.specs.Prelude.{if◌then◌else◌}
use Rattle.std.specs.Map.{lookup}
use Rattle.indexmap.specs.Layout.{set_value_at}
use Rattle.mon_value.specs.Rooms.{RoomList}
use Rattle.mon_value.specs.Same.{same_text}
use Rattle.mon_value.specs.LeafHistories.{series_of}
use Rattle.mon_value.specs.declared.rows.Row.{Row}
use Rattle.mon_value.specs.declared.rows.SeriesKey.{SeriesKey}
use Rattle.mon_series.specs.MetricNumbers.{numbers_from}

-- metrics with their numbers
abbrev pub Index : Type 0
Index = List (List ℕ × RoomList ℕ)

abbrev pub listed_numbers : Option (RoomList ℕ) → List ℕ
listed_numbers None = []
listed_numbers (Some numbers) = numbers.items

-- the numbers under a metric
abbrev pub numbers_held : Index → List ℕ → List ℕ
numbers_held index metric = listed_numbers (lookup (same_text metric) index)

abbrev pub SameNumbers : Index → Index → Type 0
SameNumbers old new = (metric : List ℕ) → numbers_held new metric ≡ numbers_held old metric

-- each metric has the numbers of its keys, among keys that are numbered from 0
abbrev pub NumbersKeys : Index → List SeriesKey → Type 0
NumbersKeys index keys = (metric : List ℕ) → numbers_held index metric ≡ numbers_from 0 metric keys

-- each metric has the numbers of its series
abbrev pub HasSeriesNumbers : Index → List Row → Type 0
HasSeriesNumbers index rows = NumbersKeys index (series_of rows)

-- a place is the first of a metric
abbrev pub IsPlace : List ℕ → Index → ℕ → Type 0
IsPlace metric [] at = ⊥
IsPlace metric (entry ∷ index) zero = same_text metric entry.0 ≡ true
IsPlace metric (entry ∷ index) (suc at) = (same_text metric entry.0 ≡ false) × IsPlace metric index at

-- a metric's place has room for a number more
abbrev pub HasRoom : Index → List ℕ → ℕ → Type 0
HasRoom index metric at = IsPlace metric index at × (key : List ℕ) × (numbers : RoomList ℕ)
    × (slice_get index at ≡ Some (key, numbers)) × (1 ≤ numbers.spare)

-- the numbers at a place are as before, with more room or less
abbrev pub MoreRoom : Index → Index → ℕ → Type 0
MoreRoom old new at = (numbers : RoomList ℕ) × (new ≡ set_value_at old at numbers)
    × ((key : List ℕ) → (before : RoomList ℕ) → slice_get old at ≡ Some (key, before) → numbers.items ≡ before.items)

-- a metric has a number more, and the others have theirs
abbrev pub TakesNumber : Index → Index → List ℕ → ℕ → Type 0
TakesNumber old new metric number = (other : List ℕ) → numbers_held new other
    ≡ numbers_held old other ++ (if same_text other metric then number ∷ [] else [])
