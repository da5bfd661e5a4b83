-- Points that an alignment wants of a series with filters: from which place on they stand in it.
use Rattle.std.proofs.Common.{◌≡◌, ◌∙◌, ◌<◌, ◌≤◌, ◌+◌, ◌-◌, ◌≤ℤ◌, ℕ, ℤ, Bool, true, false, cond, Some}
use Rattle.std.proofs.Common.{List, [], ◌∷◌, ◌++◌, length, take, drop, get_or, refl, sym, ap, subst, arith}
use Rattle.std.specs.Prelude.{int_le}
use Rattle.std.specs.List.{filter}
use Rattle.std.specs.Option.{option_to_list}
use Rattle.std.proofs.lemmas.Int.{ints}
use Rattle.std.proofs.lemmas.List.{drop_more, length-drop, take-append-drop}
use Rattle.std.proofs.lemmas.List.Elements.{filter-append}
use Rattle.std.proofs.Math.Seq.{drop-length, take-length}
use Rattle.mon_series.specs.Splits.{points_until}
use Rattle.mon_value.specs.Grids.{EndsRise, IsDuration, IsLawfulGrid, newest_point, seconds_of}
use Rattle.mon_value.specs.declared.aligners.Aligner.{Aligner}
use Rattle.mon_value.specs.declared.grids.Grid.{Grid}
use Rattle.mon_value.specs.declared.rows.Point.{Point}
use Rattle.typed_trees.specs.Meaning.{is_in_reach}
use Rattle.mon_meaning.specs.within.Reach.{earlier_wanted, points_wanted, points_within_reach, reach_start}
use Rattle.mon_meaning.proofs.FilterLemmas.{filter_swap}
use Rattle.mon_meaning.proofs.WindowLemmas.{EndsRise-drop, EndsRise-filter, behind_place, least_bounds, until_more}

-- ---- the newest point that passes a test

newest_last : (points : List Point) (p : Point) → newest_point (points ++ p ∷ []) ≡ Some p
newest_last [] p = refl
newest_last (q ∷ []) p = refl
newest_last (q ∷ r ∷ points) p = newest_last (r ∷ points) p

drop_none : (points : List Point) → drop 0 points ≡ points
drop_none [] = refl
drop_none (p ∷ points) = refl

module _ (test : Point → Bool) (points : List Point) where
  from_place : (place : ℕ) (p : Point) (b : Bool) → p ≡ get_or points place p → place < length points → b ≡ test p
      → filter test (drop (place + 1) points) ≡ []
      → filter test (drop place points) ≡ cond b (p ∷ []) []
  from_place place p b is below e none =
      ap (filter test) (drop_more points place p below ∙ ap (λ q. q ∷ drop (place + 1) points) (sym is))
      ∙ ap (λ c. cond c (p ∷ filter test (drop (place + 1) points)) (filter test (drop (place + 1) points))) (sym e)
      ∙ ap (λ rest. cond b (p ∷ rest) rest) none

  -- a point that doesn't pass
  pub one_passed_by : (place : ℕ) (p : Point) (b : Bool) → p ≡ get_or points place p → place < length points
      → b ≡ test p → b ≡ false → filter test (drop (place + 1) points) ≡ [] → filter test (drop place points) ≡ []
  one_passed_by place p b is below e fails none =
      from_place place p b is below e none ∙ ap (λ c. cond c (p ∷ []) []) fails

  -- the newest that does
  pub newest_found : (place : ℕ) (p : Point) (b : Bool) → p ≡ get_or points place p → place < length points
      → b ≡ test p → b ≡ true → filter test (drop (place + 1) points) ≡ []
      → filter test (drop place points) ≡ option_to_list (newest_point (filter test points))
  newest_found place p b is below e passes none =
      let last : filter test (drop place points) ≡ p ∷ [] =
      from_place place p b is below e none ∙ ap (λ c. cond c (p ∷ []) []) passes in
      let all : filter test points ≡ filter test (take place points) ++ p ∷ [] =
      ap (filter test) (sym (take-append-drop place points))
      ∙ filter-append test (take place points) (drop place points)
      ∙ ap (λ rest. filter test (take place points) ++ rest) last in
      last ∙ sym (ap (λ ps. option_to_list (newest_point ps)) all
      ∙ ap option_to_list (newest_last (filter test (take place points)) p))

  -- or no point does
  pub none_found : (place : ℕ) → place ≡ 0 → filter test (drop place points) ≡ []
      → filter test (drop (length points) points) ≡ option_to_list (newest_point (filter test points))
  none_found place first none =
      let all : filter test points ≡ [] =
      ap (filter test) (sym (drop_none points) ∙ ap (λ n. drop n points) (sym first)) ∙ none in
      ap (filter test) (drop-length points) ∙ sym (ap (λ ps. option_to_list (newest_point ps)) all)

-- ---- from the place on

-- the points that end by a time, which is told in another way
pub ended_at : (told time : ℤ) (points ended : List Point) → ended ≡ points_until told points → told ≡ time
    → ended ≡ points_until time points
ended_at told time points ended is same = is ∙ ap (λ t. points_until t points) same

-- a part of a list that goes to its end
part_whole : (n : ℕ) (ps : List Point) → take (length ps - n) (drop n ps) ≡ drop n ps
part_whole n ps =
    ap (λ k. take k (drop n ps)) (sym (length-drop n ps)) ∙ take-length (drop n ps)

-- the points from a place on, among those that end by a moment
module _ (low high : ℤ) (points earlier ended : List Point) (first : ℕ) (rise : EndsRise points) (order : low ≤ℤ high)
    (early : earlier ≡ points_until low points) (late : ended ≡ points_until high points)
    (within : first ≤ length earlier) where
  pub first_within : first ≤ length ended
  first_within = omega (arith, ap length early, ap length late, within, until_more low high points order)

  pub part_is : take (length ended - first) (drop first ended) ≡ drop first (points_until high points)
  part_is = part_whole first ended ∙ ap (drop first) late

  pub part_rises : EndsRise (take (length ended - first) (drop first ended))
  part_rises =
      subst EndsRise (sym part_is)
      (EndsRise-drop first (points_until high points) (EndsRise-filter (λ (p : Point). int_le p.end high) points rise))

pub reach_order : (grid : Grid) (by : Aligner) → IsLawfulGrid grid → IsDuration (seconds_of by)
    → reach_start grid by ≤ℤ grid.moment
reach_order grid by lawful long =
    let bounds = least_bounds grid lawful in
    let some = long.0 in
    omega (arith, ints, bounds.1)

pub wanted_kept : (grid : Grid) (by : Aligner) (test : Point → Bool) (points : List Point) (first : ℕ) → EndsRise points
    → IsLawfulGrid grid → IsDuration (seconds_of by) → first ≤ length (points_until (reach_start grid by) points)
    → filter test (drop first (points_until (reach_start grid by) points))
    ≡ earlier_wanted by (filter test (points_until (reach_start grid by) points))
    → filter test (drop first (points_until grid.moment points)) ≡ points_wanted grid by (filter test points)
wanted_kept grid by test points first rise lawful long within wanted =
    let start = reach_start grid by in
    ap (filter test) (behind_place start grid.moment first points rise (reach_order grid by lawful long) within)
    ∙ filter-append test (drop first (points_until start points)) (points_within_reach grid by points)
    ∙ (λ i. (wanted ∙ ap (earlier_wanted by) (filter_swap test (λ (p : Point). int_le p.end start) points)) i
    ++ filter_swap test (is_in_reach grid by) points i)
