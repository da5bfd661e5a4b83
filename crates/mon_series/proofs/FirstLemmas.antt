-- The first entry whose key passes a test: where a look-up finds it, and what a value put there changes.
use Rattle.std.proofs.lemmas.Option.{same_Some}
use Rattle.std.proofs.Common.{◌≡◌, ◌∙◌, Result, Ok, Err, OnErr, ◌<◌, ◌+◌, nat_lt, not, position, arith, ℕ, zero, suc}
use Rattle.std.proofs.Common.{Bool, true, false, cond, Some, None, List, [], ◌∷◌, map, length, refl, sym, ap}
use Rattle.std.proofs.Common.{slice_get}
use Rattle.std.specs.List.{position_or_len}
use Rattle.std.specs.Map.{keys_of, lookup}
use Rattle.std.proofs.lemmas.Bool.Decides.{nat_tests}
use Rattle.std.proofs.lemmas.List.{length-map}
use Rattle.indexmap.specs.Layout.{set_value_at}

pub position_by : (n m at : ℕ) (b : Bool) → nat_lt n m ≡ b → cond b (Some n) None ≡ Some at → (n ≡ at) × (at < m)
position_by n m at true less is = let same : n ≡ at = cc in (same, grind (arith, nat_tests))
position_by n m at false less is = absurd cc

module _ {K V : Type 0} where
  -- the value that is there changes nothing
  pub set_same : (entries : List (K × V)) (n : ℕ) (value : V) → Some value ≡ slice_get (map (λ e. e.1) entries) n
      → set_value_at entries n value ≡ entries
  set_same [] n value e = refl
  set_same (entry ∷ entries) zero value e = ap (λ v. (entry.0, v) ∷ entries) (same_Some value entry.1 e)
  set_same (entry ∷ entries) (suc n) value e = ap (λ more. entry ∷ more) (set_same entries n value e)

  pub get_there : (entries : List (K × V)) (n : ℕ) (value : V) → Some value ≡ slice_get (map (λ e. e.1) entries) n
      → (key : K) × (slice_get entries n ≡ Some (key, value))
  get_there [] n value e = absurd cc
  get_there (entry ∷ entries) zero value e = (entry.0, ap (λ v. Some (entry.0, v)) (sym (same_Some value entry.1 e)))
  get_there (entry ∷ entries) (suc n) value e = get_there entries n value e

module _ {K V : Type 0} (test : K → Bool) where
  abbrev pub IsFirst : List (K × V) → ℕ → Type 0
  IsFirst [] n = ⊥
  IsFirst (entry ∷ entries) zero = test entry.0 ≡ true
  IsFirst (entry ∷ entries) (suc n) = (test entry.0 ≡ false) × IsFirst entries n

  first_by : (entry : K × V) (entries : List (K × V)) (n : ℕ) (b : Bool) → test entry.0 ≡ b
      → cond (not b) (1 + position_or_len test (keys_of entries)) 0 ≡ n → n < suc (length entries)
      → ((m : ℕ) → position_or_len test (keys_of entries) ≡ m → m < length entries → IsFirst entries m)
      → IsFirst (entry ∷ entries) n
  first_by entry entries zero true is at within rest = is
  first_by entry entries zero false is at within rest = absurd (omega arith)
  first_by entry entries (suc n) true is at within rest = absurd (omega arith)
  first_by entry entries (suc n) false is at within rest = (is, rest n (omega arith) (omega arith))

  first_at : (entries : List (K × V)) (n : ℕ) → position_or_len test (keys_of entries) ≡ n → n < length entries
      → IsFirst entries n
  first_at [] n at within = absurd (omega arith)
  first_at (entry ∷ entries) n at within = first_by entry entries n (test entry.0) refl at within (first_at entries)

  pub first_position : (entries : List (K × V)) (n : ℕ) → position test (keys_of entries) ≡ Some n → IsFirst entries n
  first_position entries n is =
      let keys = keys_of entries in
      let there = position_by (position_or_len test keys) (length keys) n (nat_lt (position_or_len test keys)
      (length keys)) refl is in
      let count = length-map entries (λ entry. entry.0) in
      first_at entries n there.0 (omega arith)

  -- its key passes the test, and a look-up finds its value
  pub first_found : (entries : List (K × V)) (n : ℕ) (key : K) (value : V) → IsFirst entries n → slice_get entries n
      ≡ Some (key, value)
      → (test key ≡ true) × (lookup test entries ≡ Some value)
  first_found [] n key value first there = absurd first
  first_found (entry ∷ entries) zero key value first there =
      let same : entry ≡ (key, value) = cc in (
        ap test (sym (ap (λ (e : K × V). e.0) same)) ∙ first,
        ap (λ b. cond b (Some entry.1) (lookup test entries)) first ∙ ap (λ (e : K × V). Some e.1) same,
      )
  first_found (entry ∷ entries) (suc n) key value first there =
      let rest = first_found entries n key value first.1 there in
      (rest.0, ap (λ b. cond b (Some entry.1) (lookup test entries)) first.0 ∙ rest.1)

-- what holds holds also where a call failed
pub on_err : {V E : Type 0} (r : Result V E) (P : Type 0) → P → OnErr r P
on_err (Ok value) P holds = tt
on_err (Err error) P holds = holds
