-- Lists: what holds of all that they contain, tests that some item passes, and numbers one after another.
use Rattle.std.proofs.lemmas.Bool.{or_left, or_right, or_from}
use Rattle.std.proofs.Common.{◌≡◌, ℕ, zero, suc, ◌+◌, ◌<◌, nat_eq, Bool, true, false, List, [], ◌∷◌}
use Rattle.std.proofs.Common.{length, map, get_or, refl, sym, subst, arith}
use Rattle.std.specs.List.{AllByRecursion, Contains, list_any}
use Rattle.std.proofs.lemmas.Bool.Decides.{nat_tests}
use Rattle.history_book.specs.Histories.{numbers_on}
use Rattle.run_theory.specs.Parts.{AreApart}

module _ {X : Type 0} where
  pub first_of : (x : X) (xs : List X) → Contains (x ∷ xs) x
  first_of x xs = (0, omega arith, refl)

  pub later_of : (y : X) (xs : List X) (x : X) → Contains xs x → Contains (y ∷ xs) x
  later_of y xs x has = (suc has.0, (let l = has.1 in omega arith), has.2)

  pub all_from : (P : X → Type 0) (xs : List X) → ((x : X) → Contains xs x → P x) → AllByRecursion P xs
  all_from P [] each = tt
  all_from P (x ∷ xs) each = (each x (first_of x xs), all_from P xs (λ y has. each y (later_of x xs y has)))

  pub all_mapped : {Y : Type 0} (P : Y → Type 0) (f : X → Y) (xs : List X) → ((x : X) → Contains xs x → P (f x))
      → AllByRecursion P (map f xs)
  all_mapped P f [] each = tt
  all_mapped P f (x ∷ xs) each =
      (each x (first_of x xs), all_mapped P f xs (λ y has. each y (later_of x xs y has)))

  some_at : {Y : Type 0} (test : Y → Bool) (f : X → Y) (xs : List X) (k : ℕ) (d : X) → k < length xs
      → test (f (get_or xs k d)) ≡ true → list_any test (map f xs) ≡ true
  some_at test f [] k d less is = absurd (omega arith)
  some_at test f (x ∷ xs) zero d less is = or_left (test (f x)) (list_any test (map f xs)) is
  some_at test f (x ∷ xs) (suc k) d less is = or_right (test (f x)) (list_any test (map f xs))
      (some_at test f xs k d (omega arith) is)

  -- some item passes a test, where one that is contained does
  pub some_passes : {Y : Type 0} (test : Y → Bool) (f : X → Y) (xs : List X) (x : X) → Contains xs x
      → test (f x) ≡ true → list_any test (map f xs) ≡ true
  some_passes test f xs x has is =
      some_at test f xs has.0 x has.1 (subst (λ y. test (f y) ≡ true) (sym has.2) is)

below_all : (n m count : ℕ) → n < m → list_any (nat_eq n) (numbers_on m count) ≡ false
below_all n m zero less = refl
below_all n m (suc count) less =
    or_from (nat_eq n m) (list_any (nat_eq n) (numbers_on (m + 1) count)) (other n m less)
    (below_all n (m + 1) count (omega arith))
  where
    other : (n m : ℕ) → n < m → nat_eq n m ≡ false
    other n m less = grind (arith, nat_tests)

-- numbers one after another are apart
pub on_apart : (n count : ℕ) → AreApart (numbers_on n count)
on_apart n zero = tt
on_apart n (suc count) = (below_all n (n + 1) count (omega arith), on_apart (n + 1) count)
