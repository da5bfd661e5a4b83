-- How a point is kept.
use Rattle.std.specs.Prelude.{◌^◌, ◌-ℤ◌, ◌≤ℤ◌, neg_ℤ, pos}
use Rattle.mon_value.specs.declared.rows.Point.{Point}
use Rattle.mon_value.specs.declared.values.Value.TheVariants as value
use Rattle.mon_series.specs.declared.kept_point.Form.{Form}
use Rattle.mon_series.specs.declared.kept_point.Form.TheVariants as form

-- the point that is kept
abbrev pub point_of : Form → Point
point_of (form.Number seconds end number) = record { start = end -ℤ pos seconds; end = end; value = value.Int number }
point_of (form.Truth seconds end truth) = record { start = end -ℤ pos seconds; end = end; value = value.Bool truth }
point_of (form.Boxed point) = point.value

-- the start of the point is a number of 64 bits
abbrev pub StartFits : Form → Type 0
StartFits (form.Number seconds end number) = neg_ℤ (pos (2 ^ 63)) ≤ℤ (end -ℤ pos seconds)
StartFits (form.Truth seconds end truth) = neg_ℤ (pos (2 ^ 63)) ≤ℤ (end -ℤ pos seconds)
StartFits (form.Boxed point) = Unit {0}
