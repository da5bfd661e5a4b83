-- Counts that are added bucket by bucket.
use Rattle.std.proofs.Common.{◌≡◌, ℕ, zero, suc, ◌+◌, ◌<◌, ◌≤◌, max, List, [], ◌∷◌, ◌++◌, length, get_or, set, take}
use Rattle.std.proofs.Common.{sum, sum_by, IsPermutation, refl, sym, ap, ◌∙◌, add-one, arith}
use Rattle.std.proofs.lemmas.List.Sums.{sum_by-cons}
use Rattle.mon_value.specs.Groups.{counts_added, counts_of, merged_of}
use Rattle.mon_value.proofs.AggregateLemmas.{where_any-permutation}
use Rattle.mon_value.proofs.PermutationLemmas.{along_permutation}

-- ---- two distributions

pub counts_added-nil : (xs : List ℕ) → counts_added xs [] ≡ xs
counts_added-nil [] = refl
counts_added-nil (x ∷ xs) = refl

pub counts_added-comm : (xs ys : List ℕ) → counts_added xs ys ≡ counts_added ys xs
counts_added-comm [] ys = sym (counts_added-nil ys)
counts_added-comm (x ∷ xs) [] = refl
counts_added-comm (x ∷ xs) (y ∷ ys) =
    let head : x + y ≡ y + x = omega arith in
    rw (head, counts_added-comm xs ys)

pub counts_added-assoc : (xs ys zs : List ℕ) → counts_added (counts_added xs ys) zs ≡ counts_added xs
    (counts_added ys zs)
counts_added-assoc [] ys zs = refl
counts_added-assoc (x ∷ xs) [] zs = refl
counts_added-assoc (x ∷ xs) (y ∷ ys) [] = refl
counts_added-assoc (x ∷ xs) (y ∷ ys) (z ∷ zs) =
    let head : (x + y) + z ≡ x + (y + z) = omega arith in
    rw (head, counts_added-assoc xs ys zs)

pub length-counts_added : (xs ys : List ℕ) → length (counts_added xs ys) ≡ max (length xs) (length ys)
length-counts_added [] ys = omega arith
length-counts_added (x ∷ xs) [] = omega arith
length-counts_added (x ∷ xs) (y ∷ ys) = omega (arith, length-counts_added xs ys)

pub sum-cons : (x : ℕ) (xs : List ℕ) → sum (x ∷ xs) ≡ x + sum xs
sum-cons x xs = sum_by-cons (λ (n : ℕ). n) x xs

pub sum-counts_added : (xs ys : List ℕ) → sum (counts_added xs ys) ≡ sum xs + sum ys
sum-counts_added [] ys = omega arith
sum-counts_added (x ∷ xs) [] = omega arith
sum-counts_added (x ∷ xs) (y ∷ ys) =
    omega (
      arith,
      sum-counts_added xs ys,
      sum_by-cons (λ n. n) (x + y) (counts_added xs ys),
      sum_by-cons (λ n. n) x xs,
      sum_by-cons (λ n. n) y ys,
    )

pub get_or-counts_added : (xs ys : List ℕ) (i : ℕ) → get_or (counts_added xs ys) i 0 ≡ get_or xs i 0 + get_or ys i 0
get_or-counts_added [] ys i = omega arith
get_or-counts_added (x ∷ xs) [] i = omega arith
get_or-counts_added (x ∷ xs) (y ∷ ys) zero = refl
get_or-counts_added (x ∷ xs) (y ∷ ys) (suc i) = get_or-counts_added xs ys i

-- one bucket more is added
pub counts_added-take_more : (xs ys : List ℕ) (i : ℕ) → i < length ys → length ys ≤ length xs
    → counts_added xs (take (i + 1) ys) ≡ set (counts_added xs (take i ys)) i (get_or (counts_added xs (take i ys)) i 0
    + get_or ys i 0)
counts_added-take_more [] ys i h le = absurd (omega arith)
counts_added-take_more (x ∷ xs) [] i h le = absurd (omega arith)
counts_added-take_more (x ∷ xs) (y ∷ ys) zero h le = ap (λ rest. (x + y) ∷ rest) (counts_added-nil xs)
counts_added-take_more (x ∷ xs) (y ∷ ys) (suc i) h le =
    let rest = counts_added-take_more xs ys i (omega arith) (omega arith) in
    rw add-one (ap (λ rest. (x + y) ∷ rest) (rw add-one at rest))

get_or-take_at : (ys : List ℕ) (i : ℕ) → get_or (take i ys) i 0 ≡ 0
get_or-take_at [] zero = refl
get_or-take_at [] (suc i) = refl
get_or-take_at (y ∷ ys) zero = refl
get_or-take_at (y ∷ ys) (suc i) = get_or-take_at ys i

-- the next bucket, to which nothing was added yet
pub counts_added-take_at : (xs ys : List ℕ) (i : ℕ) → get_or (counts_added xs (take i ys)) i 0 + get_or ys i 0
    ≡ get_or (counts_added xs ys) i 0
counts_added-take_at xs ys i =
    omega (arith, get_or-counts_added xs (take i ys) i, get_or-take_at ys i, get_or-counts_added xs ys i)

-- ---- many distributions

pub counts_of-append : (xs ys : List (List ℕ)) → counts_of (xs ++ ys) ≡ counts_added (counts_of xs) (counts_of ys)
counts_of-append [] ys = refl
counts_of-append (x ∷ xs) ys = rw (counts_of-append xs ys) (sym (counts_added-assoc x (counts_of xs) (counts_of ys)))

pub counts_of-permutation : (xs ys : List (List ℕ)) → IsPermutation xs ys → counts_of xs ≡ counts_of ys
counts_of-permutation =
    along_permutation (λ xs ys. counts_of xs ≡ counts_of ys) (λ xs. refl) (λ x xs ys h. ap (counts_added x) h)
    (λ x y xs. sym (counts_added-assoc x y (counts_of xs)) ∙ ap (λ both. counts_added both (counts_of xs))
    (counts_added-comm x y) ∙ counts_added-assoc y x (counts_of xs))
    (λ xs ys zs p q. p ∙ q)

pub merged_of-permutation : (xs ys : List (List ℕ)) → IsPermutation xs ys → merged_of xs ≡ merged_of ys
merged_of-permutation xs ys same = where_any-permutation xs ys (counts_of xs) (counts_of ys) same
    (counts_of-permutation xs ys same)

pub sum-counts_of : (items : List (List ℕ)) → sum (counts_of items) ≡ sum_by sum items
sum-counts_of [] = refl
sum-counts_of (x ∷ xs) = omega (arith, sum-counts_added x (counts_of xs), sum-counts_of xs, sum_by-cons sum x xs)
