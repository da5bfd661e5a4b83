-- What stands where the lines ran is theirs.
use Rattle.std.proofs.Common.{◌≡◌, ℕ, zero, suc, ◌<◌, ◌≤◌, nat_eq, Bool, true, false, ◌||◌, List, [], ◌∷◌}
use Rattle.std.proofs.Common.{◌++◌, slice_get, Some, refl, ap, subst, arith, inl, inr}
use Rattle.std.proofs.lemmas.Bool.{cases_lt, or_left, or_right, eqb-true}
use mathlib.Core.Logic.{◌⊎◌}
use Rattle.std.specs.List.{AllByRecursion, list_any}
use Rattle.std.proofs.lemmas.Bool.{false≢true}
use Rattle.run_theory.specs.InPlace.{AreTheirs}
use Rattle.run_theory.specs.Parts.{EachRan, PartRan, PartsRan, between, Part, all_lines, lines_of}

or_more : (a b c : Bool) → (a || b) ≡ true → (b ≡ true → c ≡ true) → (a || c) ≡ true
or_more true b c is more = refl
or_more false b c is more = more is

one_or_others : (same one others : Bool) (rest : Bool) → (same || rest) ≡ true → (same ≡ true → one ≡ true)
    → (rest ≡ true → others ≡ true) → (one || others) ≡ true
one_or_others true one others rest is here there = or_left one others (here refl)
one_or_others false one others rest is here there = or_right one others (there is)

module _ {X : Type 0} where
  any_left : (test : X → Bool) (xs ys : List X) → list_any test xs ≡ true → list_any test (xs ++ ys) ≡ true
  any_left test [] ys is = absurd (false≢true is)
  any_left test (x ∷ xs) ys is =
      or_more (test x) (list_any test xs) (list_any test (xs ++ ys)) is (any_left test xs ys)

  any_right : (test : X → Bool) (xs ys : List X) → list_any test ys ≡ true → list_any test (xs ++ ys) ≡ true
  any_right test [] ys is = is
  any_right test (x ∷ xs) ys is = or_right (test x) (list_any test (xs ++ ys)) (any_right test xs ys is)

  -- what holds of all between two lengths holds of what stands there
  pub all_between : (P : X → Type 0) (from to : ℕ) (xs : List X) (k : ℕ) (x : X)
      → AllByRecursion P (between from to xs) → slice_get xs k ≡ Some x → from ≤ k → k < to → P x
  all_between P from zero xs k x all there low high = absurd (omega arith)
  all_between P from (suc to) [] k x all there low high = absurd cc
  all_between P zero (suc to) (y ∷ xs) zero x all there low high =
      let same : y ≡ x = cc in subst P same all.0
  all_between P zero (suc to) (y ∷ xs) (suc k) x all there low high =
      all_between P zero to xs k x all.1 there (omega arith) (omega arith)
  all_between P (suc from) (suc to) (y ∷ xs) zero x all there low high = absurd (omega arith)
  all_between P (suc from) (suc to) (y ∷ xs) (suc k) x all there low high =
      all_between P from to xs k x all there (omega arith) (omega arith)

module _ {W H E R : Type 0} (content : W → H → List E) (under : E → ℕ)
    (Makes : ℕ → R → (H → List E) → Type 0) (Finds : W → (H → ℕ) → (H → ℕ) → ℕ → R → Type 0)
    (is_of : R → H → ℕ → E → Bool) (whole : W)
    (theirs : AreTheirs content under Makes Finds is_of whole) where
  -- what stands under one of the numbers is of the line of that number
  of_one : (from to : H → ℕ) (numbers : List ℕ) (lines : List R) (h : H) (k : ℕ) (e : E)
      → EachRan content under Makes Finds whole from to numbers lines → list_any (nat_eq (under e)) numbers ≡ true
      → slice_get (content whole h) k ≡ Some e → from h ≤ k → k < to h
      → list_any (λ line. is_of line h k e) lines ≡ true
  of_one from to [] lines h k e each has there low high = absurd (false≢true has)
  of_one from to (number ∷ numbers) [] h k e each has there low high = absurd each
  of_one from to (number ∷ numbers) (line ∷ lines) h k e each has there low high =
      one_or_others (nat_eq (under e) number) (is_of line h k e) (list_any (λ line. is_of line h k e) lines)
      (list_any (nat_eq (under e)) numbers) has
      (λ is. theirs from to number line h k e each.0 there low high (eqb-true (under e) number is))
      (λ rest. of_one from to numbers lines h k e each.1 rest there low high)

  of_part : (from to : H → ℕ) (part : Part R) (h : H) (k : ℕ) (e : E)
      → PartRan content under Makes Finds whole from to part
      → slice_get (content whole h) k ≡ Some e → from h ≤ k → k < to h
      → list_any (λ line. is_of line h k e) (lines_of part) ≡ true
  of_part from to part h k e ran there low high = of_one from to ran.numbers (lines_of part) h k e ran.each
      (all_between (λ x. list_any (nat_eq (under x)) ran.numbers ≡ true) (from h) (to h) (content whole h) k e
      (ran.theirs h)
      there low high)
      there low high

  of_either : (k middle : ℕ) (one others : List R) (test : R → Bool) → (k < middle) ⊎ (middle ≤ k)
      → (k < middle → list_any test one ≡ true) → (middle ≤ k → list_any test others ≡ true)
      → list_any test (one ++ others) ≡ true
  of_either k middle one others test (inl less) here there = any_left test one others (here less)
  of_either k middle one others test (inr more) here there = any_right test one others (there more)

  -- each entry from before the first line to behind the last one is of some line
  pub of_some : (from to : H → ℕ) (parts : List (Part R)) (h : H) (k : ℕ) (e : E)
      → PartsRan content under Makes Finds whole from to parts → slice_get (content whole h) k ≡ Some e → from h ≤ k
      → k < to h
      → list_any (λ line. is_of line h k e) (all_lines parts) ≡ true
  of_some from to [] h k e ran there low high =
      let same : from h ≡ to h = ap (λ f. f h) ran in absurd (omega arith)
  of_some from to (part ∷ parts) h k e ran there low high =
      of_either k (ran.0 h) (lines_of part) (all_lines parts) (λ line. is_of line h k e) (cases_lt k (ran.0 h))
      (λ less. of_part from ran.0 part h k e ran.2 there low less)
      (λ more. of_some ran.0 to parts h k e ran.3 there more high)
