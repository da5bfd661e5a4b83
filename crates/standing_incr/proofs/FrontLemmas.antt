-- The points that a standing result keeps of a series whose points carry totals: all from one point on.
use Rattle.std.proofs.Common.{◌≡◌, ◌∙◌, ℤ, ◌<ℤ◌, Bool, true, false, cond, List, [], ◌∷◌, ◌++◌, refl, ap}
use Rattle.std.proofs.Common.{arith}
use Rattle.std.specs.Prelude.{int_le, int_lt}
use Rattle.std.specs.List.{AllByRecursion, filter}
use Rattle.std.specs.Option.{option_to_list}
use Rattle.std.proofs.lemmas.Int.{ints}
use Rattle.mon_value.specs.Grids.{EndsRise, ended_by, newest_point, with_earlier}
use Rattle.mon_value.specs.declared.rows.Point.{Point}
use Rattle.mon_value.proofs.IncreaseLemmas.{none_ended, after_all}

abbrev late : ℤ → Point → Bool
late start point = int_lt start point.end

-- the points from the last one on that ends at a time or before it
abbrev pub front : ℤ → List Point → List Point
front start [] = []
front start (p ∷ []) = p ∷ []
front start (p ∷ q ∷ points) = cond (int_le q.end start) (front start (q ∷ points)) (p ∷ q ∷ points)

all_late : (start : ℤ) (points : List Point) → AllByRecursion (λ (p : Point). start <ℤ p.end) points
    → filter (late start) points ≡ points
all_late start [] all = refl
all_late start (p ∷ points) all =
    let here : late start p ≡ true = grind (arith, ints, all.0) in
    ap (λ c. cond c (p ∷ filter (late start) points) (filter (late start) points)) here
    ∙ ap (λ rest. p ∷ rest) (all_late start points all.1)

-- ---- what is kept is such a front

one_kept : (start : ℤ) (p : Point) (b c : Bool) → int_le p.end start ≡ b → int_lt start p.end ≡ c
    → option_to_list (newest_point (cond b (p ∷ []) [])) ++ cond c (p ∷ []) [] ≡ p ∷ []
one_kept start p true true e f = absurd (grind (arith, ints))
one_kept start p false false e f = absurd (grind (arith, ints))
one_kept start p true false e f = refl
one_kept start p false true e f = refl

abbrev kept_by : ℤ → Point → Bool → Bool → List Point → List Point → List Point
kept_by start p b c early points = option_to_list (newest_point (cond b (p ∷ early) early)) ++ cond c (p ∷ points) points

two_kept : (start : ℤ) (p q : Point) (points : List Point) (b c d e : Bool) → int_le p.end start ≡ b
    → int_lt start p.end ≡ c → int_le q.end start ≡ d → int_lt start q.end ≡ e → EndsRise (p ∷ q ∷ points)
    → kept_by start q d e (ended_by start points) (filter (late start) points) ≡ front start (q ∷ points)
    → kept_by start p b c (cond d (q ∷ ended_by start points) (ended_by start points))
    (cond e (q ∷ filter (late start) points) (filter (late start) points))
    ≡ cond d (front start (q ∷ points)) (p ∷ q ∷ points)
two_kept start p q points b c true true f g h i rise rest = absurd (grind (arith, ints))
two_kept start p q points b c false false f g h i rise rest = absurd (grind (arith, ints))
two_kept start p q points false c true false f g h i rise rest =
    let less = rise.0.0 in
    absurd (grind (arith, ints))
two_kept start p q points true true true false f g h i rise rest = absurd (grind (arith, ints))
two_kept start p q points true false true false f g h i rise rest = rest
two_kept start p q points true true false true f g h i rise rest = absurd (grind (arith, ints))
two_kept start p q points false false false true f g h i rise rest = absurd (grind (arith, ints))
two_kept start p q points true false false true f g h i rise rest =
    let above = after_all start q.end points rise.1.0 (grind (arith, ints)) in
    ap (λ some. option_to_list (newest_point (p ∷ some)) ++ (q ∷ filter (late start) points))
    (none_ended start points above)
    ∙ ap (λ more. p ∷ q ∷ more) (all_late start points above)
two_kept start p q points false true false true f g h i rise rest =
    let above = after_all start q.end points rise.1.0 (grind (arith, ints)) in
    ap (λ some. option_to_list (newest_point some) ++ (p ∷ q ∷ filter (late start) points))
    (none_ended start points above)
    ∙ ap (λ more. p ∷ q ∷ more) (all_late start points above)

pub is_front : (start : ℤ) (points : List Point) → EndsRise points → with_earlier start points ≡ front start points
is_front start [] rise = refl
is_front start (p ∷ []) rise = one_kept start p (int_le p.end start) (int_lt start p.end) refl refl
is_front start (p ∷ q ∷ points) rise =
    two_kept start p q points (int_le p.end start) (int_lt start p.end) (int_le q.end start) (int_lt start q.end) refl
    refl refl refl rise (is_front start (q ∷ points) rise.1)
