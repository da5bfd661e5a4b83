-- The series that meet a fetch and have points in its reach.
use Rattle.std.specs.Prelude.{ℕ, ◌&&◌, Bool, not, ◌==◌, List, map, length, if◌then◌else◌}
use Rattle.mon_value.specs.Grids.{CanAlign}
use Rattle.mon_value.specs.declared.aligners.Aligner.{Aligner}
use Rattle.mon_value.specs.declared.grids.Grid.{Grid}
use Rattle.mon_meaning.specs.declared.alignments.Met.{Met}
use Rattle.mon_meaning.specs.within.FetchViews.{FetchView, is_fetch_met, points_kept}
use Rattle.mon_meaning.specs.within.Reach.{points_within_reach}
use Rattle.mon_meaning.specs.within.SeriesMeaning.{SeriesGroup}

-- a series that is met and has points in reach
abbrev pub is_counted : Grid → Aligner → FetchView → SeriesGroup → Bool
is_counted grid by fetch series = is_fetch_met fetch series.0
    && not (length (points_within_reach grid by series.1) == 0)

-- how many points in reach a series has, if it is met
abbrev pub met_count : Grid → Aligner → FetchView → SeriesGroup → ℕ
met_count grid by fetch series = if is_fetch_met fetch series.0 then length (points_within_reach grid by series.1)
    else 0

-- the series that references point to
abbrev pub series_met : List Met → List SeriesGroup
series_met met = map (λ one. (one.key.now, one.series.now.points)) met

-- a series whose kept points can be aligned
abbrev pub CanAlignMet : Grid → Aligner → FetchView → SeriesGroup → Type 0
CanAlignMet grid by fetch series = CanAlign by grid (points_kept fetch series)
