-- What is known of a place that was found in a list.
use Rattle.std.proofs.Common.{◌≡◌, ◌∙◌, ℕ, suc, ◌+◌, ◌<◌, Bool, true, false, ◌||◌, List, [], ◌∷◌, Some, cond, get_or}
use Rattle.std.proofs.Common.{length, refl, ap, sym, arith}
use Rattle.std.specs.List.{list_any, position_from}

-- the place p of a list that is numbered on from n, where an element passes a test
pub record IsPosition {X : Type 0} (test : X → Bool) (n : ℕ) (xs : List X) (p : ℕ) : Type 0 where
  pub place : ℕ
  pub is : p ≡ n + place
  pub there : place < length xs
  pub passes : (d : X) → test (get_or xs place d) ≡ true

one_on : {X : Type 0} (test : X → Bool) (n : ℕ) (x : X) (xs : List X) (p : ℕ)
    → IsPosition test (n + 1) xs p → IsPosition test n (x ∷ xs) p
one_on test n x xs p found =
    record {
      place = suc found.place;
      is = omega (arith, found.is);
      there = omega (arith, found.there);
      passes =
          found.passes;
    }

pub some_is : (a b : ℕ) → Some a ≡ Some b → a ≡ b
some_is a b e = cc

one_of : {X : Type 0} (test : X → Bool) (n : ℕ) (x : X) (xs : List X) (p : ℕ)
    → (position_from test (n + 1) xs ≡ Some p → IsPosition test (n + 1) xs p) → (b : Bool) → test x ≡ b
    → cond b (Some n) (position_from test (n + 1) xs) ≡ Some p → IsPosition test n (x ∷ xs) p
one_of test n x xs p later true is e =
    record { place = 0; is = omega (arith, some_is n p e); there = omega arith; passes = λ d. is }
one_of test n x xs p later false is e = one_on test n x xs p (later e)

pub position_found : {X : Type 0} (test : X → Bool) (n : ℕ) (xs : List X) (p : ℕ)
    → position_from test n xs ≡ Some p → IsPosition test n xs p
position_found test n [] p e = absurd (cc)
position_found test n (x ∷ xs) p e = one_of test n x xs p (position_found test (n + 1) xs p) (test x) refl e

-- what is found is within the list
pub found_within : {X : Type 0} (test : X → Bool) (xs : List X) (p : ℕ) → Some p ≡ position_from test 0 xs
    → p < length xs
found_within test xs p e =
    let found = position_found test 0 xs p (sym e) in
    omega (arith, found.is, found.there)

-- the first element that passes a test, of a list that is numbered on from n
pub record IsFirst {X : Type 0} (test : X → Bool) (n : ℕ) (xs : List X) : Type 0 where
  pub place : ℕ
  pub there : place < length xs
  pub found : position_from test n xs ≡ Some (n + place)

first_of : {X : Type 0} (test : X → Bool) (n : ℕ) (x : X) (xs : List X)
    → (list_any test xs ≡ true → IsFirst test (n + 1) xs) → (b : Bool) → test x ≡ b → (b || list_any test xs) ≡ true
    → IsFirst test n (x ∷ xs)
first_of test n x xs later true is e =
    record {
      place = 0;
      there = omega arith;
      found = ap (λ c. cond c (Some n) (position_from test (n + 1) xs)) is ∙ ap Some (omega arith);
    }
first_of test n x xs later false is e =
    let rest = later e in
    record {
      place = suc rest.place;
      there = omega (arith, rest.there);
      found =
          ap (λ c. cond c (Some n) (position_from test (n + 1) xs)) is ∙ rest.found ∙ ap Some (omega arith);
    }

-- an element that passes is found
pub position_there : {X : Type 0} (test : X → Bool) (n : ℕ) (xs : List X) → list_any test xs ≡ true → IsFirst test n xs
position_there test n [] e = absurd (cc)
position_there test n (x ∷ xs) e =
    first_of test n x xs (position_there test (n + 1) xs) (test x) refl e
