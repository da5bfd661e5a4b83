-- The points of a window.
use Rattle.std.proofs.Common.{◌≡◌, ℤ, ◌-ℤ◌, List}
use Rattle.std.specs.Prelude.{int_le, int_lt}
use Rattle.mon_value.specs.declared.rows.Point.{Point}
use Rattle.mon_value.specs.Grids.{window_of}
use Rattle.mon_series.proofs.SplitLemmas.{filter_both}
use Rattle.mon_series.specs.Splits.{points_after, points_until}

-- the points that end by a moment, without those that end w before it or earlier
pub window_from : (ps : List Point) (t w after until : ℤ) → after ≡ t -ℤ w → until ≡ t → points_after after
    (points_until until ps) ≡ window_of t w ps
window_from ps t w after until e f = rw (e, f) (filter_both (λ p. int_le p.end t) (λ p. int_lt (t -ℤ w) p.end) ps)
