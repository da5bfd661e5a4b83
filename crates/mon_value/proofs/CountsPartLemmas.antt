-- Parts of distributions that are merged: counts that begin with counts of 0.
use Rattle.std.proofs.Common.{◌≡◌, ℕ, zero, suc, ◌≤◌, Bool, true, false, ◌||◌, cond, List, [], ◌∷◌, ◌++◌, length}
use Rattle.std.proofs.Common.{replicate, sum, sum_by, All, Some, None, IsPermutation, refl, sym, ap, subst, ◌∙◌}
use Rattle.std.proofs.Common.{zero-add, length-append, arith}
use Rattle.std.proofs.lemmas.List.{get_or_append_left}
use Rattle.std.proofs.lemmas.List.Elements.{All-head, All-tail}
use Rattle.std.proofs.lemmas.List.Sorted.{All-permutation, IsPermutation-sym, IsPermutation-append_comm}
use Rattle.std.proofs.lemmas.List.Sums.{sum_by-append, sum_by-cons, get_or-le-sum_by}
use Rattle.mon_value.specs.Groups.{where_any, counts_added, counts_of}
use Rattle.mon_value.proofs.CountsLemmas.{counts_added-nil, counts_added-comm, counts_added-assoc, length-counts_added}
use Rattle.mon_value.proofs.CountsLemmas.{sum-counts_added, counts_of-append, sum-counts_of}
use Rattle.mon_value.specs.Parts.{IsZero, is_any}

-- ---- whether there is an item

pub is_any-append : {A : Type 0} (xs ys : List A) → is_any (xs ++ ys) ≡ (is_any xs || is_any ys)
is_any-append [] ys = refl
is_any-append (x ∷ xs) ys = refl

pub or-comm : (a b : Bool) → (a || b) ≡ (b || a)
or-comm true true = refl
or-comm true false = refl
or-comm false true = refl
or-comm false false = refl

-- ---- counts of 0

zeros_added : (n : ℕ) (counts : List ℕ) → n ≤ length counts → counts_added (replicate n 0) counts ≡ counts
zeros_added zero counts h = refl
zeros_added (suc n) [] h = absurd (omega arith)
zeros_added (suc n) (count ∷ counts) h = rw (zero-add, zeros_added n counts (omega arith))

zero_added : (z counts : List ℕ) → IsZero z → length z ≤ length counts → counts_added z counts ≡ counts
zero_added z counts zeros h = rw zeros (zeros_added (length z) counts h)

sum-zeros : (n : ℕ) → sum (replicate n 0) ≡ 0
sum-zeros zero = refl
sum-zeros (suc n) = omega (arith, sum-zeros n, sum_by-cons (λ n. n) 0 (replicate n 0))

-- ---- distributions of one length

pub All-front : {A : Type 0} (P : A → Type 0) (xs ys : List A) → All P (xs ++ ys) → All P xs
All-front P xs ys all k d lt = subst P (get_or_append_left xs ys d k lt) (all k d (omega (arith, length-append xs ys)))

pub All-back : {A : Type 0} (P : A → Type 0) (xs ys : List A) → All P (xs ++ ys) → All P ys
All-back P xs ys all = All-front P ys xs (All-permutation P (xs ++ ys) (ys ++ xs) (IsPermutation-append_comm xs ys) all)

pub lengths-chosen : (n : ℕ) (xs ys zs : List (List ℕ)) → IsPermutation (xs ++ ys) zs
    → All (λ counts. length counts ≡ n) zs → All (λ counts. length counts ≡ n) xs
lengths-chosen n xs ys zs same all =
    All-front (λ counts. length counts ≡ n) xs ys (All-permutation (λ counts. length counts ≡ n) zs (xs ++ ys)
    (IsPermutation-sym (xs ++ ys) zs same) all)

-- ---- parts that begin with counts of 0

module _ (z : List ℕ) (zeros : IsZero z) where
  pub counts-append : (xs ys : List (List ℕ)) → counts_added (counts_added z (counts_of xs))
      (counts_added z (counts_of ys)) ≡ counts_added z (counts_of (xs ++ ys))
  counts-append xs ys =
      let a = counts_of xs in
      let b = counts_of ys in
      let once : counts_added z z ≡ z = zero_added z z zeros (omega arith) in
      let turned : counts_added a (counts_added z b) ≡ counts_added z (counts_added a b) =
      sym (counts_added-assoc a z b) ∙ ap (λ left. counts_added left b) (counts_added-comm a z) ∙ counts_added-assoc z
      a b in
      counts_added-assoc z a (counts_added z b) ∙ ap (counts_added z) turned
      ∙ sym (counts_added-assoc z z (counts_added a b)) ∙ ap (λ left. counts_added left (counts_added a b)) once
      ∙ ap (counts_added z) (sym (counts_of-append xs ys))

  -- a part and one distribution more
  pub counts_added_one : (counts item : List ℕ) → length counts ≡ length (counts_added z (counts_added item []))
      → counts_added counts (counts_added z (counts_added item [])) ≡ counts_added counts item
  counts_added_one counts item same =
      let long : length z ≤ length counts = omega (arith, length-counts_added z (counts_added item [])) in
      rw (counts_added-nil item)
      (sym (counts_added-assoc counts z item) ∙ ap (λ left. counts_added left item) (counts_added-comm counts z
      ∙ zero_added z counts zeros long))

  length-counts_of : (items : List (List ℕ)) → All (λ counts. length counts ≡ length z) items
      → length (counts_of items) ≤ length z
  length-counts_of [] same = omega arith
  length-counts_of (x ∷ xs) same =
      omega (
        arith,
        length-counts_added x (counts_of xs),
        length-counts_of xs (All-tail (λ counts. length counts ≡ length z) x xs same),
        All-head (λ counts. length counts ≡ length z) x xs same,
      )

  length-part : (items : List (List ℕ)) → All (λ counts. length counts ≡ length z) items
      → length (counts_added z (counts_of items)) ≡ length z
  length-part items same = omega (arith, length-counts_added z (counts_of items), length-counts_of items same)

  sum-part : (items : List (List ℕ)) → sum (counts_added z (counts_of items)) ≡ sum_by sum items
  sum-part items =
      let none : sum z ≡ 0 = rw zeros (sum-zeros (length z)) in
      omega (arith, sum-counts_added z (counts_of items), sum-counts_of items)

  pub merged_finishes : (items : List (List ℕ)) → All (λ counts. length counts ≡ length z) items
      → cond (is_any items) (Some (counts_added z (counts_of items))) None ≡ where_any items (counts_of items)
  merged_finishes [] same = refl
  merged_finishes (x ∷ xs) same =
      let long = All-head (λ counts. length counts ≡ length z) x xs same in
      ap Some (zero_added z (counts_added x (counts_of xs)) zeros (omega (arith, length-counts_added x (counts_of xs))))

  pub counts_within : (xs ys : List (List ℕ)) (most : ℕ) → All (λ counts. length counts ≡ length z) (xs ++ ys)
      → sum_by sum (xs ++ ys) ≤ most
      → (length (counts_added z (counts_of xs)) ≡ length (counts_added z (counts_of ys)))
      × All (λ count. count ≤ most) (counts_added (counts_added z (counts_of xs)) (counts_added z (counts_of ys)))
  counts_within xs ys most same fits =
      let left = All-front (λ counts. length counts ≡ length z) xs ys same in
      let right = All-back (λ counts. length counts ≡ length z) xs ys same in
      let a = counts_added z (counts_of xs) in
      let b = counts_added z (counts_of ys) in (
        omega (arith, length-part xs left, length-part ys right),
        λ k d lt. omega (
          arith,
          get_or-le-sum_by (λ n. n) (counts_added a b) k d lt,
          sum-counts_added a b,
          sum-part xs,
          sum-part ys,
          sum_by-append sum xs ys,
        ),
      )
