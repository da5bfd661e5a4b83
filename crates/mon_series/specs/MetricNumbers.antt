-- The series of a metric.
use Rattle.std.specs.Prelude.{ℕ, suc, List, [], ◌∷◌, if◌then◌else◌}
use Rattle.mon_value.specs.Same.{same_text}
use Rattle.mon_value.specs.LeafHistories.{series_of}
use Rattle.mon_value.specs.declared.rows.Row.{Row}
use Rattle.mon_value.specs.declared.rows.SeriesKey.{SeriesKey}

-- the numbers of the keys of a metric, which are numbered on from n
abbrev pub numbers_from : ℕ → List ℕ → List SeriesKey → List ℕ
numbers_from n metric [] = []
numbers_from n metric (key ∷ keys) =
    if same_text metric key.metric then n ∷ numbers_from (suc n) metric keys else numbers_from (suc n) metric keys

-- the numbers, rising, of the series of a metric, in the order of the series' first rows
abbrev pub metric_numbers : List ℕ → List Row → List ℕ
metric_numbers metric rows = numbers_from 0 metric (series_of rows)
