-- The places of rows, in runs of rows that follow one another in one way.
use Rattle.std.specs.Prelude.{◌≡◌, ℕ, zero, suc, ◌+◌, ◌-◌, ◌<◌, ◌≤◌, ◌^◌, List, [], ◌∷◌, ◌++◌}
use Rattle.std.specs.List.{AllByRecursion}
use Rattle.mon_series.specs.declared.order.Run.{Run}
use Rattle.mon_series.specs.declared.order.Way.{Way}
use Rattle.mon_series.specs.declared.order.Way.TheVariants as way
use Rattle.mon_series.specs.declared.placing.Place.{Place}
use Rattle.mon_series.specs.within.Places.{place_at}

-- the place that is so many rows behind another one
abbrev pub place_behind : Way → ℕ → ℕ → ℕ → Place
place_behind way.NextSeries series point rows = place_at (series + rows) point
place_behind way.NextPoint series point rows = place_at series (point + rows)

-- the place of a run's row of a number, counted from its first row
abbrev pub place_in : Run → ℕ → Place
place_in run number = place_behind run.way run.series run.point number

-- the places of a run's first so many rows
abbrev pub first_places : Run → ℕ → List Place
first_places run zero = []
first_places run (suc count) = first_places run count ++ place_in run count ∷ []

-- the number of the first row of some runs and of a last one behind them
abbrev pub first_number : List Run → Run → ℕ
first_number [] last = last.first
first_number (run ∷ runs) last = run.first

-- the places of some runs and of a last one behind them, which ends in front of the row of a number
abbrev pub places_of : List Run → Run → ℕ → List Place
places_of [] last end = first_places last (end - last.first)
places_of (run ∷ runs) last end = first_places run (first_number runs last - run.first) ++ places_of runs last end

-- no run begins in front of an earlier one
abbrev pub BeginInOrder : List Run → Run → Type 0
BeginInOrder [] last = Unit {0}
BeginInOrder (run ∷ runs) last = (run.first ≤ first_number runs last) × BeginInOrder runs last

-- the numbers of a place have 32 bits each
abbrev pub IsShortPlace : Place → Type 0
IsShortPlace place = (place.series < 2 ^ 32) × (place.point < 2 ^ 32)

-- runs that begin with the row 0, one where the other ends, and so many rows in all
pub record AreRuns (runs : List Run) (last : Run) (count : ℕ) : Type 0 where
  pub begins : first_number runs last ≡ 0
  pub ordered : BeginInOrder runs last
  pub ends : last.first ≤ count
  pub few : count < 2 ^ 32
  pub short : AllByRecursion IsShortPlace (places_of runs last count)
