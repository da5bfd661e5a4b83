-- What one point more changes of a series that is brought to the times of a grid.
use Rattle.std.specs.Prelude.{ℤ, ◌+ℤ◌, Bool, Option, Some, None, List}
use Rattle.mon_value.specs.Grids.{ends_within, newest_point, seconds_of}
use Rattle.mon_value.specs.Groups.{counts_added}
use Rattle.mon_value.specs.Increases.{increase}
use Rattle.mon_value.specs.declared.aligners.Aligner.{Aligner}
use Rattle.mon_value.specs.declared.aligners.Aligner.TheVariants.{Delta, Increase, NextOlder}
use Rattle.mon_value.specs.declared.rows.Point.{Point}
use Rattle.mon_value.specs.declared.values.Value.{Value}
use Rattle.mon_value.specs.declared.values.Value.TheVariants as value

-- whether an aligner sees a point at a time: the time is not before the end, and less than its seconds behind it
abbrev pub touches : Aligner → Point → ℤ → Bool
touches by point time = ends_within time (seconds_of by) point

-- what an aligner sees of a point behind the others of its series: of a total what it adds to the newest of them
abbrev pub seen_value : Aligner → List Point → Point → Value
seen_value (Delta seconds) points point = point.value
seen_value (Increase seconds) points point = increase (newest_point points) point
seen_value (NextOlder seconds) points point = point.value

-- a value with one more added to it
abbrev pub sum_with : Value → Value → Value
sum_with (value.Int x) (value.Int y) = value.Int (x +ℤ y)
sum_with (value.Dist counts) (value.Dist others) = value.Dist (counts_added counts others)
sum_with before more = before

-- what a series has at a time once a point more is seen there
abbrev pub value_with : Aligner → Option Value → Value → Value
value_with (NextOlder seconds) before more = more
value_with (Delta seconds) None more = more
value_with (Delta seconds) (Some before) more = sum_with before more
value_with (Increase seconds) None more = more
value_with (Increase seconds) (Some before) more = sum_with before more
