-- How rows are kept: by their series, in their order, and the series by metric.
use Rattle.std.specs.Prelude.{List}
use Rattle.std.specs.List.{AllByRecursion}
use Rattle.mon_value.specs.Grids.{EndsRise}
use Rattle.mon_series.specs.declared.placing.Place.{Place}
use Rattle.mon_series.specs.within.Metrics.{HasSeriesNumbers, Index}
use Rattle.mon_series.specs.within.Places.{Group, AreGroupsKept, rows_at_places}

-- each place has its row, the ends of each series rise, and each metric has the numbers of its series
pub record AreRowsKept (groups : List Group) (places : List Place) (index : Index) : Type 0 where
  pub placed : AreGroupsKept groups places
  pub rising : AllByRecursion (λ group. EndsRise group.1) groups
  pub numbered : HasSeriesNumbers index (rows_at_places groups places)
