-- Rows as they are kept: the points of each series, and the places of the points in the order in which they came.
use Rattle.std.specs.Prelude.{◌≡◌, ℕ, zero, suc, ◌<◌, ◌<ℤ◌, ◌^◌, true, List, [], ◌∷◌, ◌++◌, length, is_some, slice_get}
use Rattle.std.specs.Prelude.{Option, Some, None, option_map, IfSome}
use Rattle.std.specs.List.{AllByRecursion}
use Rattle.mon_value.specs.LeafHistories.{last_end, points_by_series}
use Rattle.mon_value.specs.declared.rows.Point.{Point}
use Rattle.mon_value.specs.declared.rows.Row.{Row}
use Rattle.mon_value.specs.declared.rows.SeriesKey.{SeriesKey}
use Rattle.mon_series.specs.declared.placing.Place.{Place}

-- a series and its points
abbrev pub Group : Type 0
Group = SeriesKey × List Point

abbrev pub row_of_parts : SeriesKey → Point → Row
row_of_parts key point = record { key = key; point = point }

-- the row at a place
abbrev pub row_at : List Group → ℕ → ℕ → Option Row
row_at [] series point = None
row_at (group ∷ groups) zero point = option_map (row_of_parts group.0) (slice_get group.1 point)
row_at (group ∷ groups) (suc series) point = row_at groups series point

-- a row in front of others, if there is one
abbrev pub with_found_row : Option Row → List Row → List Row
with_found_row None rows = rows
with_found_row (Some row) rows = row ∷ rows

-- the rows at places
abbrev pub rows_at_places : List Group → List Place → List Row
rows_at_places groups [] = []
rows_at_places groups (place ∷ places) = with_found_row (row_at groups place.series place.point)
    (rows_at_places groups places)

-- each place has a row
abbrev pub HaveRows : List Group → List Place → Type 0
HaveRows groups places = AllByRecursion (λ place. is_some (row_at groups place.series place.point) ≡ true) places

-- the points of each series are those of its rows, each place has a row, and 32 bits number the series
pub record AreGroupsKept (groups : List Group) (places : List Place) : Type 0 where
  pub grouped : groups ≡ points_by_series (rows_at_places groups places)
  pub there : HaveRows groups places
  pub few : length groups < 2 ^ 32

-- groups with a point more at the end of one of them
abbrev pub with_point_at : List Group → ℕ → Point → List Group
with_point_at [] at point = []
with_point_at (group ∷ groups) zero point = (group.0, group.1 ++ point ∷ []) ∷ groups
with_point_at (group ∷ groups) (suc at) point = group ∷ with_point_at groups at point

-- how many points a group has
abbrev pub count_at : List Group → ℕ → ℕ
count_at [] at = 0
count_at (group ∷ groups) zero = length group.1
count_at (group ∷ groups) (suc at) = count_at groups at

abbrev pub place_at : ℕ → ℕ → Place
place_at series point = record { series = series; point = point }

-- a group that is a row's, and whose points end before it
abbrev pub TakesRow : Option Group → Row → Type 0
TakesRow None row = ⊥
TakesRow (Some group) row = (group.0 ≡ row.key) × IfSome (last_end group.1) (λ last. last <ℤ row.point.end)
