-- Points that carry a total since their start, as what each adds to the one before it.
use Rattle.std.specs.Prelude.{◌-ℤ◌, List, [], ◌∷◌, Option, Some, None, if◌then◌else◌}
use Rattle.std.specs.Ordering.{int_eq}
use Rattle.mon_value.specs.declared.rows.Point.{Point}
use Rattle.mon_value.specs.declared.values.Value.{Value}
use Rattle.mon_value.specs.declared.values.Value.TheVariants as value

-- a number less another one; what is no number stays
abbrev pub less : Value → Value → Value
less (value.Int x) (value.Int y) = value.Int (x -ℤ y)
less other before = other

-- what a point adds to the one before it: where both count from one start, its value less that of the one before, and
-- else its value, since the count began anew
abbrev pub increase : Option Point → Point → Value
increase None point = point.value
increase (Some before) point = if int_eq before.start point.start then less point.value before.value else point.value

-- the points of a series with their increases as values, behind the point that stands before them
abbrev pub increases : Option Point → List Point → List Point
increases before [] = []
increases before (point ∷ points) = record point { value = increase before point } ∷ increases (Some point) points
