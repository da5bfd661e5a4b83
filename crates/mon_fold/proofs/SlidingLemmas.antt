-- Windows that slide: what the points between two places add up to, from another window.
use Rattle.std.proofs.Common.{◌≡◌, ℕ, zero, suc, ◌+◌, ◌-◌, ◌<◌, ◌≤◌, ℤ, pos, ◌+ℤ◌, ◌-ℤ◌, List, [], ◌∷◌, ◌++◌, length}
use Rattle.std.proofs.Common.{get_or, take, drop, sum_by, unsigned_abs, sum, Option, Some, None, refl, sym, ap, subst}
use Rattle.std.proofs.Common.{◌∙◌, arith}
use Rattle.std.specs.List.{AllByRecursion}
use Rattle.std.proofs.Math.Seq.{drop-nil, take-add}
use Rattle.std.proofs.lemmas.Int.{ints}
use Rattle.std.proofs.lemmas.List.{map-append, ext_get_or, length-take-le, length-drop, take-append-drop}
use Rattle.std.proofs.lemmas.List.Elements.{filter_map-append}
use Rattle.std.proofs.lemmas.List.Sums.{sum_by-append}
use Rattle.mon_value.specs.Groups.{sum_of, counts_added, counts_of, number_in, counts_in, numbers_in, distributions_in}
use Rattle.mon_value.specs.Groups.{total_of}
use Rattle.mon_value.specs.Grids.{CanAdd, CanAddAll, values_of}
use Rattle.mon_value.specs.Values.{magnitude}
use Rattle.mon_value.specs.declared.rows.Point.{Point}
use Rattle.mon_value.specs.declared.values.Value.{Value}
use Rattle.mon_value.specs.declared.values.Value.TheVariants as value
use Rattle.mon_value.proofs.AggregateLemmas.{sum_of-append, sum_of-magnitude}
use Rattle.mon_value.proofs.CountsLemmas.{sum-counts_of, counts_added-comm, counts_of-append, get_or-counts_added}
use Rattle.mon_value.proofs.CountsLemmas.{length-counts_added}
use Rattle.mon_fold.specs.SlidingWindows.{points_between}
use Rattle.mon_fold.proofs.AlignmentLemmas.{all_alike, all_between, counts_more}
use Rattle.mon_fold.proofs.AlignmentLemmas.{total-distributions}
use Rattle.mon_value.proofs.GroupLemmas.{numbers-magnitude, distributions-magnitude}

-- ---- the points between two places

dropped_twice : {X : Type 0} (n m : ℕ) (xs : List X) → drop n (drop m xs) ≡ drop (m + n) xs
dropped_twice n zero xs = let e : zero + n ≡ n = omega arith in rw e
dropped_twice n (suc m) [] = let e : suc m + n ≡ suc (m + n) = omega arith in rw e (drop-nil n)
dropped_twice n (suc m) (x ∷ xs) = let e : suc m + n ≡ suc (m + n) = omega arith in rw e (dropped_twice n m xs)

pub between_both : (start middle end : ℕ) (points : List Point) → start ≤ middle → middle ≤ end
    → points_between start end points ≡ points_between start middle points ++ points_between middle end points
between_both start middle end points h k =
    let count : end - start ≡ (middle - start) + (end - middle) = omega arith in
    let place : start + (middle - start) ≡ middle = omega arith in
    ap (λ n. take n (drop start points)) count
    ∙ take-add (middle - start) (end - middle) (drop start points)
    ∙ ap (λ rest. take (middle - start) (drop start points) ++ take (end - middle) rest)
    (dropped_twice (middle - start) start points ∙ ap (λ n. drop n points) place)

values_of_both : (xs ys : List Point) → values_of (xs ++ ys) ≡ values_of xs ++ values_of ys
values_of_both xs ys = map-append (λ (p : Point). p.value) xs ys

all_dropped : (P : Value → Type 0) (n : ℕ) (points : List Point) → AllByRecursion P (values_of points)
    → AllByRecursion P (values_of (drop n points))
all_dropped P zero points all = all
all_dropped P (suc n) [] all = tt
all_dropped P (suc n) (p ∷ points) all = all_dropped P n points all.1

all_taken : (P : Value → Type 0) (n : ℕ) (points : List Point) → AllByRecursion P (values_of points) → AllByRecursion P
    (values_of (take n points))
all_taken P zero points all = tt
all_taken P (suc n) [] all = tt
all_taken P (suc n) (p ∷ points) all = (all.0, all_taken P n points all.1)

pub all_among : (P : Value → Type 0) (start end : ℕ) (points : List Point) → AllByRecursion P (values_of points)
    → AllByRecursion P (values_of (points_between start end points))
all_among P start end points all = all_taken P (end - start) (drop start points) (all_dropped P start points all)

pub alike_among : (start end : ℕ) (points : List Point) → CanAddAll (values_of points)
    → CanAddAll (values_of (points_between start end points))
alike_among start end [] alike = all_alike (value.Int (pos 0)) _ (all_among (CanAdd (value.Int (pos 0))) start end []
    tt)
alike_among start end (p ∷ points) alike = all_alike p.value _ (all_among (CanAdd p.value) start end (p ∷ points) alike)

-- ---- numbers

pub total-numbers : (x : ℤ) (points : List Point) → 0 < length points → AllByRecursion (CanAdd (value.Int x))
    (values_of points)
    → total_of (values_of points) ≡ Some (value.Int (sum_of (numbers_in (values_of points))))
total-numbers x [] some all = absurd (omega arith)
total-numbers x (p ∷ points) some all = total-number x p.value (values_of points) all.0
  where
    total-number : (x : ℤ) (v : Value) (values : List Value) → CanAdd (value.Int x) v → total_of (v ∷ values)
        ≡ Some (value.Int (sum_of (numbers_in (v ∷ values))))
    total-number x (value.Int z) values h = refl
    total-number x (value.Bool p) values h = absurd h
    total-number x (value.Text s) values h = absurd h
    total-number x (value.Dist counts) values h = absurd h

pub numbers_of_both : (xs ys : List Point) → sum_of (numbers_in (values_of (xs ++ ys)))
    ≡ sum_of (numbers_in (values_of xs)) +ℤ sum_of (numbers_in (values_of ys))
numbers_of_both xs ys =
    ap (λ values. sum_of (numbers_in values)) (values_of_both xs ys)
    ∙ ap sum_of (filter_map-append number_in (values_of xs) (values_of ys))
    ∙ sum_of-append (numbers_in (values_of xs)) (numbers_in (values_of ys))

-- ---- distributions

pub total-counts : (counts : List ℕ) (points : List Point) → 0 < length points
    → AllByRecursion (CanAdd (value.Dist counts)) (values_of points)
    → total_of (values_of points) ≡ Some (value.Dist (counts_of (distributions_in (values_of points))))
total-counts counts [] some all = absurd (omega arith)
total-counts counts (p ∷ points) some all = total-count counts p.value (values_of points) all.0 all.1
  where
    total-count : (counts : List ℕ) (v : Value) (values : List Value) → CanAdd (value.Dist counts) v
        → AllByRecursion (CanAdd (value.Dist counts)) values
        → total_of (v ∷ values) ≡ Some (value.Dist (counts_of (distributions_in (v ∷ values))))
    total-count counts (value.Int z) values h all = absurd h
    total-count counts (value.Bool p) values h all = absurd h
    total-count counts (value.Text s) values h all = absurd h
    total-count counts (value.Dist more) values h all = total-distributions more values
        (all_between (value.Dist counts) (value.Dist more) values h all)

pub counts_of_both : (xs ys : List Point)
    → counts_of (distributions_in (values_of (xs ++ ys))) ≡ counts_added (counts_of (distributions_in (values_of xs)))
    (counts_of (distributions_in (values_of ys)))
counts_of_both xs ys =
    ap (λ values. counts_of (distributions_in values)) (values_of_both xs ys)
    ∙ ap counts_of (filter_map-append counts_in (values_of xs) (values_of ys))
    ∙ counts_of-append (distributions_in (values_of xs)) (distributions_in (values_of ys))

-- distributions of one length come to counts of that length
pub counts-long : (counts : List ℕ) (points : List Point) → 0 < length points
    → AllByRecursion (CanAdd (value.Dist counts)) (values_of points)
    → length (counts_of (distributions_in (values_of points))) ≡ length counts
counts-long counts [] some all = absurd (omega arith)
counts-long counts (p ∷ points) some all = long counts p.value points all.0 all.1
  where
    no_longer : (counts : List ℕ) (values : List Value) → AllByRecursion (CanAdd (value.Dist counts)) values
        → length (counts_of (distributions_in values)) ≤ length counts
    no_longer counts [] all = omega arith
    no_longer counts (value.Int z ∷ values) all = absurd all.0
    no_longer counts (value.Bool p ∷ values) all = absurd all.0
    no_longer counts (value.Text s ∷ values) all = absurd all.0
    no_longer counts (value.Dist more ∷ values) all =
        let same : length more ≡ length counts = all.0 in
        omega (arith, no_longer counts values all.1, length-counts_added more (counts_of (distributions_in values)))

    long : (counts : List ℕ) (v : Value) (points : List Point) → CanAdd (value.Dist counts) v
        → AllByRecursion (CanAdd (value.Dist counts)) (values_of points)
        → length (counts_of (distributions_in (v ∷ values_of points))) ≡ length counts
    long counts (value.Int z) points h all = absurd h
    long counts (value.Bool p) points h all = absurd h
    long counts (value.Text s) points h all = absurd h
    long counts (value.Dist more) points h all =
        let same : length more ≡ length counts = h in
        omega (
          arith,
          no_longer counts (values_of points) all,
          length-counts_added more (counts_of (distributions_in (values_of points))),
        )

-- the counts of one point more, bucket by bucket
pub count_more : (points : List Point) (i : ℕ) (p : Point) (more : List ℕ) → p ≡ get_or points i p → p.value
    ≡ value.Dist more → i < length points → (k : ℕ)
    → get_or (counts_of (distributions_in (values_of (take (i + 1) points)))) k 0
    ≡ get_or (counts_of (distributions_in (values_of (take i points)))) k 0 + get_or more k 0
count_more points i p more is kind h k =
    let some = counts_of (distributions_in (values_of (take i points))) in
    let both : counts_of (distributions_in (values_of (take (i + 1) points))) ≡ counts_added some more = counts_more []
    points i p more is kind h in
    ap (λ counts. get_or counts k 0) both ∙ get_or-counts_added some more k

-- the first points count no more than all
pub count_within : (points : List Point) (i k : ℕ)
    → get_or (counts_of (distributions_in (values_of (take i points)))) k 0
    ≤ get_or (counts_of (distributions_in (values_of points))) k 0
count_within points i k =
    let some = counts_of (distributions_in (values_of (take i points))) in
    let rest = counts_of (distributions_in (values_of (drop i points))) in
    let joined : counts_of (distributions_in (values_of points)) ≡ counts_added some rest =
    ap (λ ps. counts_of (distributions_in (values_of ps))) (sym (take-append-drop i points))
    ∙ counts_of_both (take i points) (drop i points) in
    omega (arith, ap (λ counts. get_or counts k 0) joined, get_or-counts_added some rest k)

-- ---- a window from a later one

pub between_long : (start end : ℕ) (points : List Point) → end ≤ length points → length (points_between start end points)
    ≡ end - start
between_long start end points h =
    let rest = length-drop start points in
    length-take-le (end - start) (drop start points) (omega arith)

abbrev number_in_total : Option Value → ℤ
number_in_total (Some (value.Int z)) = z
number_in_total other = pos 0

abbrev bucket_counts_of : Option Value → List ℕ
bucket_counts_of (Some (value.Dist counts)) = counts
bucket_counts_of other = []

abbrev is_number : Option Value → Type 0
is_number (Some (value.Int z)) = Unit {0}
is_number other = ⊥

abbrev has_value : Option Value → Type 0
has_value None = ⊥
has_value (Some v) = Unit {0}

pub none_or_some : (total : Option Value) (v : Value) → total ≡ None → total ≡ Some v → ⊥
none_or_some total v none some = subst has_value (sym some ∙ none) tt

pub sum-magnitude : (points : List Point) → unsigned_abs (sum_of (numbers_in (values_of points))) ≤ sum_by magnitude
    (values_of points)
sum-magnitude points =
    omega (arith, sum_of-magnitude (numbers_in (values_of points)), numbers-magnitude (values_of points))

-- points that come to a number are all numbers, and points that come to a distribution are all
-- distributions of as many buckets
module _ (all : List Point) (start end : ℕ) (some : 0 < length (points_between start end all)) where
  of_number : (v : Value) (z : ℤ) → CanAdd v v → AllByRecursion (CanAdd v) (values_of all)
      → total_of (values_of (points_between start end all)) ≡ Some (value.Int z)
      → AllByRecursion (CanAdd (value.Int z)) (values_of all)
  of_number (value.Int x) z self alike total = all_between (value.Int x) (value.Int z) (values_of all) tt alike
  of_number (value.Bool p) z self alike total = absurd self
  of_number (value.Text s) z self alike total = absurd self
  of_number (value.Dist counts) z self alike total =
      let merged = total-counts counts (points_between start end all) some (all_among (CanAdd (value.Dist counts))
      start end all alike) in
      absurd (subst is_number (sym total ∙ merged) tt)

  of_counts : (v : Value) (counts : List ℕ) → CanAdd v v → AllByRecursion (CanAdd v) (values_of all)
      → total_of (values_of (points_between start end all)) ≡ Some (value.Dist counts)
      → AllByRecursion (CanAdd (value.Dist counts)) (values_of all)
  of_counts (value.Int x) counts self alike total =
      let summed = total-numbers x (points_between start end all) some (all_among (CanAdd (value.Int x)) start end all
      alike) in
      absurd (subst is_number (sym summed ∙ total) tt)
  of_counts (value.Bool p) counts self alike total = absurd self
  of_counts (value.Text s) counts self alike total = absurd self
  of_counts (value.Dist first) counts self alike total =
      let among = all_among (CanAdd (value.Dist first)) start end all alike in
      let same = ap bucket_counts_of (sym total ∙ total-counts first (points_between start end all) some among) in
      all_between (value.Dist first) (value.Dist counts) (values_of all) (ap length same ∙ counts-long first
      (points_between start end all) some among) alike

  of_neither : (v : Value) → CanAdd v v → AllByRecursion (CanAdd v) (values_of all)
      → ((z : ℤ) → total_of (values_of (points_between start end all)) ≡ Some (value.Int z) → ⊥)
      → ((counts : List ℕ) → total_of (values_of (points_between start end all)) ≡ Some (value.Dist counts) → ⊥) → ⊥
  of_neither (value.Int x) self alike no_number no_counts =
      no_number _ (total-numbers x (points_between start end all) some (all_among (CanAdd (value.Int x)) start end all
      alike))
  of_neither (value.Bool p) self alike no_number no_counts = self
  of_neither (value.Text s) self alike no_number no_counts = self
  of_neither (value.Dist counts) self alike no_number no_counts =
      no_counts _ (total-counts counts (points_between start end all) some (all_among (CanAdd (value.Dist counts))
      start end all alike))

numbers_alone : (all : List Point) (start end : ℕ) → 0 < length (points_between start end all) → (z : ℤ)
    → CanAddAll (values_of all)
    → total_of (values_of (points_between start end all)) ≡ Some (value.Int z) → AllByRecursion (CanAdd (value.Int z))
    (values_of all)
numbers_alone [] start end some z alike total = tt
numbers_alone (p ∷ all) start end some z alike total = of_number (p ∷ all) start end some p.value z alike.0 alike total

pub counts_alone : (all : List Point) (start end : ℕ) → 0 < length (points_between start end all) → (counts : List ℕ)
    → CanAddAll (values_of all)
    → total_of (values_of (points_between start end all)) ≡ Some (value.Dist counts)
    → AllByRecursion (CanAdd (value.Dist counts)) (values_of all)
counts_alone [] start end some counts alike total = tt
counts_alone (p ∷ all) start end some counts alike total = of_counts (p ∷ all) start end some p.value counts alike.0
    alike total

pub neither_alone : (all : List Point) (start end : ℕ) → 0 < length (points_between start end all) → end ≤ length all
    → CanAddAll (values_of all)
    → ((z : ℤ) → total_of (values_of (points_between start end all)) ≡ Some (value.Int z) → ⊥)
    → ((counts : List ℕ) → total_of (values_of (points_between start end all)) ≡ Some (value.Dist counts) → ⊥) → ⊥
neither_alone [] start end some within alike no_number no_counts = omega (arith, between_long start end [] within)
neither_alone (p ∷ all) start end some within alike no_number no_counts = of_neither (p ∷ all) start end some p.value
    alike.0 alike no_number no_counts

pub magnitude_joined : (xs ys : List Point) → sum_by magnitude (values_of (xs ++ ys)) ≡ sum_by magnitude (values_of xs)
    + sum_by magnitude (values_of ys)
magnitude_joined xs ys = ap (sum_by magnitude) (values_of_both xs ys) ∙ sum_by-append magnitude (values_of xs)
    (values_of ys)

-- a window from `start` to `end`, from one that is later and shares points with it
module _ (all : List Point) (start middle end last : ℕ) (alike : CanAddAll (values_of all)) (earlier : start ≤ middle)
    (shared : middle < end)
    (no_later : end ≤ last) (within : last ≤ length all) where
  magnitudes : (sum_by magnitude (values_of (points_between start end all)) ≡ sum_by magnitude
      (values_of (points_between start middle all)) + sum_by magnitude (values_of (points_between middle end all)))
      × (sum_by magnitude (values_of (points_between middle last all)) ≡ sum_by magnitude
      (values_of (points_between middle end all)) + sum_by magnitude (values_of (points_between end last all)))
  magnitudes = (
    ap (λ ps. sum_by magnitude (values_of ps)) (between_both start middle end all earlier (omega arith))
        ∙ magnitude_joined (points_between start middle all) (points_between middle end all),
    ap (λ ps. sum_by magnitude (values_of ps)) (between_both middle end last all (omega arith) no_later)
        ∙ magnitude_joined (points_between middle end all) (points_between end last all),
  )

  pub new-magnitude : sum_by magnitude (values_of (points_between start middle all)) ≤ sum_by magnitude
      (values_of (points_between start end all))
  new-magnitude = omega (arith, magnitudes.0)

  pub gone-magnitude : sum_by magnitude (values_of (points_between end last all)) ≤ sum_by magnitude
      (values_of (points_between middle last all))
  gone-magnitude = omega (arith, magnitudes.1)

  pub some_last : 0 < length (points_between middle last all)
  some_last = omega (arith, between_long middle last all within)

  some_shared : 0 < length (points_between middle end all)
  some_shared = omega (arith, between_long middle end all (omega arith))

  some_now : 0 < length (points_between start end all)
  some_now = omega (arith, between_long start end all (omega arith))

  pub slid-number : (z : ℤ) → total_of (values_of (points_between middle last all)) ≡ Some (value.Int z)
      → z ≡ sum_of (numbers_in (values_of (points_between middle last all)))
  slid-number z total =
      let numbers = numbers_alone all middle last some_last z alike total in
      ap number_in_total (sym total ∙ total-numbers z (points_between middle last all) some_last
      (all_among (CanAdd (value.Int z)) middle last all numbers))

  pub slid-bound : (z : ℤ) → total_of (values_of (points_between middle last all)) ≡ Some (value.Int z)
      → unsigned_abs z ≤ sum_by magnitude (values_of (points_between middle last all))
  slid-bound z total =
      let values = values_of (points_between middle last all) in
      omega (
        arith,
        ap unsigned_abs (slid-number z total),
        sum_of-magnitude (numbers_in values),
        numbers-magnitude values,
      )

  pub slid-sum : (z : ℤ) → total_of (values_of (points_between middle last all)) ≡ Some (value.Int z)
      → total_of (values_of (points_between start end all))
      ≡ Some (value.Int ((z -ℤ sum_of (numbers_in (values_of (points_between end last all)))) +ℤ sum_of
      (numbers_in (values_of (points_between start middle all)))))
  slid-sum z total =
      let numbers = numbers_alone all middle last some_last z alike total in
      let sum_among = λ (ps : List Point). sum_of (numbers_in (values_of ps)) in
      let before = ap sum_among (between_both middle end last all (omega arith) no_later) ∙ numbers_of_both
      (points_between middle end all) (points_between end last all) in
      let now = ap sum_among (between_both start middle end all earlier (omega arith)) ∙ numbers_of_both
      (points_between start middle all) (points_between middle end all) in
      let same = slid-number z total in
      total-numbers z (points_between start end all) some_now (all_among (CanAdd (value.Int z)) start end all numbers)
      ∙ ap (λ n. Some (value.Int n)) (omega (arith, ints))

  pub counts-among : (counts : List ℕ) → total_of (values_of (points_between middle last all))
      ≡ Some (value.Dist counts) → (from until : ℕ)
      → AllByRecursion (CanAdd (value.Dist counts)) (values_of (points_between from until all))
  counts-among counts total from until = all_among (CanAdd (value.Dist counts)) from until all
      (counts_alone all middle last some_last counts alike total)

  counts-joined : (counts : List ℕ) → total_of (values_of (points_between middle last all)) ≡ Some (value.Dist counts)
      → (k : ℕ)
      → get_or counts k 0 ≡ get_or (counts_of (distributions_in (values_of (points_between middle end all)))) k 0
      + get_or (counts_of (distributions_in (values_of (points_between end last all)))) k 0
  counts-joined counts total k =
      let kept = counts_of (distributions_in (values_of (points_between middle end all))) in
      let gone = counts_of (distributions_in (values_of (points_between end last all))) in
      let merged = ap bucket_counts_of (sym total ∙ total-counts counts (points_between middle last all) some_last
      (counts-among counts total middle last)) in
      let joined = ap (λ ps. counts_of (distributions_in (values_of ps))) (between_both middle end last all
      (omega arith) no_later) ∙ counts_of_both (points_between middle end all) (points_between end last all) in
      ap (λ all_counts. get_or all_counts k 0) (merged ∙ joined) ∙ get_or-counts_added kept gone k

  pub gone-held : (counts : List ℕ) → total_of (values_of (points_between middle last all)) ≡ Some (value.Dist counts)
      → (k : ℕ)
      → get_or (counts_of (distributions_in (values_of (points_between end last all)))) k 0 ≤ get_or counts k 0
  gone-held counts total k = omega (arith, counts-joined counts total k)

  -- what is left of the counts when those of the points that are gone are taken off
  module _ (counts left : List ℕ) (total : total_of (values_of (points_between middle last all))
      ≡ Some (value.Dist counts)) (long : length left ≡ length counts)
      (taken : (k : ℕ) → get_or left k 0
      + get_or (counts_of (distributions_in (values_of (points_between end last all)))) k 0 ≡ get_or counts k 0)
    where
      left-kept : left ≡ counts_of (distributions_in (values_of (points_between middle end all)))
      left-kept =
          let kept = counts_of (distributions_in (values_of (points_between middle end all))) in
          let kept_long = counts-long counts (points_between middle end all) some_shared
          (counts-among counts total middle end) in
          ext_get_or 0 left kept (omega arith) (λ k h. omega (arith, taken k, counts-joined counts total k))

      pub left-alike : AllByRecursion (CanAdd (value.Dist left)) (values_of (points_between start middle all))
      left-alike = all_between (value.Dist counts) (value.Dist left) (values_of (points_between start middle all)) long
          (counts-among counts total start middle)

      pub left-within : sum left + sum_by magnitude (values_of (points_between start middle all)) ≤ sum_by magnitude
          (values_of (points_between start end all))
      left-within =
          let kept = values_of (points_between middle end all) in
          omega (
            arith,
            magnitudes.0,
            ap sum left-kept,
            sum-counts_of (distributions_in kept),
            distributions-magnitude kept,
          )

      pub slid-merged : total_of (values_of (points_between start end all))
          ≡ Some (value.Dist (counts_added left
          (counts_of (distributions_in (values_of (points_between start middle all))))))
      slid-merged =
          let new = counts_of (distributions_in (values_of (points_between start middle all))) in
          let joined = ap (λ ps. counts_of (distributions_in (values_of ps))) (between_both start middle end all earlier
          (omega arith)) ∙ counts_of_both (points_between start middle all) (points_between middle end all) in
          total-counts counts (points_between start end all) some_now (counts-among counts total start end)
          ∙ ap (λ n. Some (value.Dist n)) (joined ∙ counts_added-comm new _ ∙ ap (λ kept. counts_added kept new)
          (sym left-kept))
