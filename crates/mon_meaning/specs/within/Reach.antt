-- The points of a series that an alignment may see.
use Rattle.std.specs.Prelude.{ℤ, ◌-ℤ◌, List, [], ◌++◌}
use Rattle.std.specs.List.{filter}
use Rattle.std.specs.Option.{option_to_list}
use Rattle.mon_value.specs.Grids.{ended_by, least_time, newest_point, seconds_of}
use Rattle.mon_value.specs.declared.aligners.Aligner.{Aligner}
use Rattle.mon_value.specs.declared.aligners.Aligner.TheVariants.{Delta, Increase, NextOlder}
use Rattle.mon_value.specs.declared.grids.Grid.{Grid}
use Rattle.mon_value.specs.declared.rows.Point.{Point}
use Rattle.typed_trees.specs.Meaning.{is_in_reach}

abbrev pub points_within_reach : Grid → Aligner → List Point → List Point
points_within_reach grid by points = filter (is_in_reach grid by) points

-- the end at and below which no point is in reach
abbrev pub reach_start : Grid → Aligner → ℤ
reach_start grid by = least_time grid -ℤ seconds_of by

-- which of the points that end before its reach an alignment wants: increases are those over the newest of them
abbrev pub earlier_wanted : Aligner → List Point → List Point
earlier_wanted (Delta seconds) earlier = []
earlier_wanted (Increase seconds) earlier = option_to_list (newest_point earlier)
earlier_wanted (NextOlder seconds) earlier = []

-- the points that an alignment wants of a series
abbrev pub points_wanted : Grid → Aligner → List Point → List Point
points_wanted grid by points =
    earlier_wanted by (ended_by (reach_start grid by) points) ++ points_within_reach grid by points
