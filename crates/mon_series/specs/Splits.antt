-- The points of a series on both sides of a time.
use Rattle.std.specs.Prelude.{ℤ, int_le, int_lt, List}
use Rattle.std.specs.List.{filter}
use Rattle.mon_value.specs.declared.rows.Point.{Point}

-- the points that end at a time or before
abbrev pub points_until : ℤ → List Point → List Point
points_until time points = filter (λ point. int_le point.end time) points

-- the points that end after a time
abbrev pub points_after : ℤ → List Point → List Point
points_after time points = filter (λ point. int_lt time point.end) points
