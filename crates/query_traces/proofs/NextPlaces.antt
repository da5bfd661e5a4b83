-- The next of some places that pass a test.
use Rattle.std.proofs.Common.{◌≡◌, ◌∙◌, ◌≤◌, ◌+◌, ◌⊎◌, inl, inr, ℕ, zero, suc, Bool, true, false, cond, [], ◌∷◌}
use Rattle.std.proofs.Common.{filter, refl, ap, arith}
use Rattle.std.specs.List.{range_with_len}

pub record IsNextPlace (test : ℕ → Bool) (from count place : ℕ) : Type 0 where
  pub later : from ≤ place
  pub rest : ℕ
  pub all : place + 1 + rest ≡ from + count
  pub is : filter test (range_with_len from count) ≡ place ∷ filter test (range_with_len (place + 1) rest)

place_here : (test : ℕ → Bool) (from count : ℕ) → test from ≡ true → IsNextPlace test from (suc count) from
place_here test from count e = record {
  later = omega arith;
  rest = count;
  all = omega arith;
  is = ap (λ b. cond b (from ∷ filter test (range_with_len (from + 1) count))
      (filter test (range_with_len (from + 1) count))) e;
}

past_here : (test : ℕ → Bool) (from count : ℕ) → test from ≡ false
    → filter test (range_with_len from (suc count)) ≡ filter test (range_with_len (from + 1) count)
past_here test from count e =
    ap (λ b. cond b (from ∷ filter test (range_with_len (from + 1) count))
    (filter test (range_with_len (from + 1) count))) e

place_later : (test : ℕ → Bool) (from count place : ℕ) → test from ≡ false → IsNextPlace test (from + 1) count place
    → IsNextPlace test from (suc count) place
place_later test from count place e next = record {
  later = omega (arith, next.later);
  rest = next.rest;
  all = omega (arith, next.all);
  is = past_here test from count e ∙ next.is;
}

abbrev pub MaybePlace : (ℕ → Bool) → ℕ → ℕ → Type 0
MaybePlace test from count =
    (filter test (range_with_len from count) ≡ []) ⊎ ((place : ℕ) × IsNextPlace test from count place)

later_by : (test : ℕ → Bool) (from count : ℕ) → test from ≡ false → MaybePlace test (from + 1) count
    → MaybePlace test from (suc count)
later_by test from count e (inl none) = inl (past_here test from count e ∙ none)
later_by test from count e (inr some) = inr (some.0, place_later test from count some.0 e some.1)

place_by : (test : ℕ → Bool) (from count : ℕ) (b : Bool) → test from ≡ b → MaybePlace test (from + 1) count
    → MaybePlace test from (suc count)
place_by test from count true e rest = inr (from, place_here test from count e)
place_by test from count false e rest = later_by test from count e rest

pub next_place : (test : ℕ → Bool) (from count : ℕ) → MaybePlace test from count
next_place test from zero = inl refl
next_place test from (suc count) = place_by test from count (test from) refl (next_place test (from + 1) count)
