-- Points on both sides of a time, and places of items in a list.
use Rattle.std.proofs.Common.{◌≡◌, ◌∙◌, inl, inr, ℕ, zero, suc, ◌+◌, ◌-◌, ◌≤◌, ℤ, ◌≤ℤ◌, ◌<ℤ◌, ◌-ℤ◌, pos, Bool}
use Rattle.std.proofs.Common.{true, false, ◌&&◌, List, [], ◌∷◌, ◌++◌, length, take, drop, filter, refl, sym, ap, arith}
use Rattle.std.specs.List.{AllByRecursion, AllWithin}
use Rattle.std.specs.Prelude.{int_le, int_lt}
use Rattle.std.proofs.Math.Seq.{take-nil, drop-nil, take-append_seam, drop-append_seam}
use Rattle.std.proofs.lemmas.List.{drop-take}
use Rattle.std.proofs.lemmas.List.Elements.{filter_agree}
use Rattle.std.proofs.lemmas.Bool.{cases_Bool, cond-true, cond-false}
use Rattle.std.proofs.lemmas.Int.{ints}
use Rattle.mon_value.specs.declared.rows.Point.{Point}
use Rattle.mon_series.specs.Splits.{points_after, points_until}
use Rattle.mon_value.proofs.PlainLemmas.{and_implied}

-- the first points of a list, which pass a test that the others fail
pub filter_first : {X : Type 0} (test : X → Bool) (xs : List X) (i : ℕ) → AllWithin (λ x. test x ≡ true) xs 0 i
    → AllWithin (λ x. test x ≡ false) xs i (length xs) → i ≤ length xs → take i xs ≡ filter test xs
filter_first test [] i passing failing l = take-nil i
filter_first test (x ∷ xs) zero passing failing l =
    filter_first test xs zero (λ m d a b. absurd (omega arith)) (λ m d a b. failing (suc m) d (omega arith)
    (omega arith)) (omega arith)
    ∙ sym (cond-false (test x) _ _ (failing zero x (omega arith) (omega arith)))
filter_first test (x ∷ xs) (suc i) passing failing l =
    ap (λ ys. x ∷ ys) (filter_first test xs i (λ m d a b. passing (suc m) d (omega arith) (omega arith))
    (λ m d a b. failing (suc m) d (omega arith) (omega arith)) (omega arith))
    ∙ sym (cond-true (test x) _ _ (passing zero x (omega arith) (omega arith)))

-- the last points of a list, which pass a test that the others fail
pub filter_last : {X : Type 0} (test : X → Bool) (xs : List X) (i : ℕ) → AllWithin (λ x. test x ≡ false) xs 0 i
    → AllWithin (λ x. test x ≡ true) xs i (length xs) → i ≤ length xs → drop i xs ≡ filter test xs
filter_last test [] i failing passing l = drop-nil i
filter_last test (x ∷ xs) zero failing passing l =
    ap (λ ys. x ∷ ys) (filter_last test xs zero (λ m d a b. absurd (omega arith))
    (λ m d a b. passing (suc m) d (omega arith) (omega arith)) (omega arith))
    ∙ sym (cond-true (test x) _ _ (passing zero x (omega arith) (omega arith)))
filter_last test (x ∷ xs) (suc i) failing passing l =
    filter_last test xs i (λ m d a b. failing (suc m) d (omega arith) (omega arith))
    (λ m d a b. passing (suc m) d (omega arith) (omega arith)) (omega arith)
    ∙ sym (cond-false (test x) _ _ (failing zero x (omega arith) (omega arith)))

-- two filters are one
pub filter_both : {X : Type 0} (first second : X → Bool) (xs : List X) → filter second (filter first xs)
    ≡ filter (λ x. second x && first x) xs
filter_both first second [] = refl
filter_both first second (x ∷ xs) =
    let rest = filter_both first second xs in
    elim (cases_Bool (first x)) [
      | inl e ↦ elim (cases_Bool (second x)) [ inl f ↦ rw (e, f) (ap (λ ys. x ∷ ys) rest) | inr f ↦ rw (e, f) rest ]
      | inr e ↦ elim (cases_Bool (second x)) [ inl f ↦ rw (e, f) rest | inr f ↦ rw (e, f) rest ]
    ]

-- among the points that end by a time, those that end before its window
pub points_until-before : (ps : List Point) (t w before until : ℤ) → before ≡ t -ℤ w → until ≡ t → pos 1 ≤ℤ w
    → points_until before (points_until until ps) ≡ points_until (t -ℤ w) ps
points_until-before ps t w before until e f h =
    filter_both (λ p. int_le p.end until) (λ p. int_le p.end before) ps
    ∙ filter_agree _ _ (λ p. and_implied (int_le p.end before) (int_le p.end until) (λ g. grind (arith, ints))) ps
    ∙ ap (λ time. points_until time ps) e

-- a list's first items, and those behind them
pub first_items : {X : Type 0} (xs first rest : List X) → xs ≡ first ++ rest → take (length first) xs ≡ first
first_items xs first rest joined = ap (take (length first)) joined ∙ take-append_seam first rest

pub items_behind : {X : Type 0} (xs first rest : List X) → xs ≡ first ++ rest → drop (length first) xs ≡ rest
items_behind xs first rest joined = ap (drop (length first)) joined ∙ drop-append_seam first rest

-- the items from a place up to another
pub items_between : {X : Type 0} (start end : ℕ) (xs : List X) → start ≤ end → take (end - start) (drop start xs)
    ≡ drop start (take end xs)
items_between start end xs h =
    let sum : start + (end - start) ≡ end = omega arith in
    sym (drop-take start (end - start) xs) ∙ ap (λ n. drop start (take n xs)) sum

-- where all points end by a time, none ends after it
pub until_all : (time until : ℤ) (ps : List Point) → until ≡ time → AllByRecursion (λ (p : Point). p.end ≤ℤ until) ps
    → (points_until time ps ≡ ps) × (points_after time ps ≡ [])
until_all time until [] same all = (refl, refl)
until_all time until (p ∷ ps) same all =
    let rest = until_all time until ps same all.1 in
    let end = all.0 in
    let ended : int_le p.end time ≡ true = grind (arith, ints) in
    let later : int_lt time p.end ≡ false = grind (arith, ints) in (
      cond-true (int_le p.end time) _ _ ended ∙ ap (λ qs. p ∷ qs) rest.0,
      cond-false (int_lt time p.end) _ _ later ∙ rest.1,
    )

-- where all points end after a time, none ends by it
pub after_all : (time after : ℤ) (ps : List Point) → after ≡ time → AllByRecursion (λ (p : Point). after <ℤ p.end) ps
    → (points_until time ps ≡ []) × (points_after time ps ≡ ps)
after_all time after [] same all = (refl, refl)
after_all time after (p ∷ ps) same all =
    let rest = after_all time after ps same all.1 in
    let end = all.0 in
    let ended : int_le p.end time ≡ false = grind (arith, ints) in
    let later : int_lt time p.end ≡ true = grind (arith, ints) in (
      cond-false (int_le p.end time) _ _ ended ∙ rest.0,
      cond-true (int_lt time p.end) _ _ later ∙ ap (λ qs. p ∷ qs) rest.1,
    )
