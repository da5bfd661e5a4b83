-- What holds of a list and of the list in another order.
use Rattle.std.proofs.Common.{ℕ, zero, suc, ◌<◌, Bool, true, false, cond, List, [], ◌∷◌, ◌++◌, length, get_or, set}
use Rattle.std.proofs.Common.{swap, IsPermutation, subst, append_assoc, arith}
use Rattle.std.specs.List.{filter, flat_map}
use Rattle.std.proofs.lemmas.List.Sorted.{IsPermutation-refl, IsPermutation-cons, IsPermutation-trans}
use Rattle.std.proofs.lemmas.List.Sorted.{IsPermutation-append, IsPermutation-append_left, IsPermutation-append_right}
use Rattle.std.proofs.lemmas.List.Sorted.{IsPermutation-append_comm, IsPermutation-keeps}

-- A relation leads from a list to each of its orders if it leads from a list to itself, past a first
-- item, over an exchange of the first two items, and from order to order.
module _ {A : Type 0} (R : List A → List A → Type 0) (same : (xs : List A) → R xs xs)
    (past : (x : A) (xs ys : List A) → R xs ys → R (x ∷ xs) (x ∷ ys))
    (exchange : (x y : A) (xs : List A) → R (x ∷ y ∷ xs) (y ∷ x ∷ xs))
    (onward : (xs ys zs : List A) → R xs ys → R ys zs → R xs zs) where
  -- the first item and a later one change places
  first_exchanged : (x : A) (xs : List A) (j : ℕ) (d : A) → j < length xs → R (x ∷ xs) (get_or xs j d ∷ set xs j x)
  first_exchanged x [] j d h = absurd (omega arith)
  first_exchanged x (y ∷ xs) zero d h = exchange x y xs
  first_exchanged x (y ∷ xs) (suc j) d h =
      onward _ _ _ (exchange x y xs) (onward _ _ _ (past y _ _ (first_exchanged x xs j d (omega arith)))
      (exchange y (get_or xs j d) (set xs j x)))

  exchanged : (xs : List A) (i j : ℕ) (d : A) → i < length xs → j < length xs
      → R xs (set (set xs i (get_or xs j d)) j (get_or xs i d))
  exchanged [] i j d p q = absurd (omega arith)
  exchanged (x ∷ xs) zero zero d p q = same (x ∷ xs)
  exchanged (x ∷ xs) zero (suc j) d p q = first_exchanged x xs j d (omega arith)
  exchanged (x ∷ xs) (suc i) zero d p q = first_exchanged x xs i d (omega arith)
  exchanged (x ∷ xs) (suc i) (suc j) d p q = past x _ _ (exchanged xs i j d (omega arith) (omega arith))

  swapped : (xs : List A) (i j : ℕ) → i < length xs → j < length xs → R xs (swap xs i j)
  swapped [] i j p q = same []
  swapped (x ∷ xs) i j p q = exchanged (x ∷ xs) i j x p q

  pub along_permutation : (xs ys : List A) → IsPermutation xs ys → R xs ys
  along_permutation xs = IsPermutation-keeps xs (R xs) (same xs) (λ ys i j p q h. onward xs ys _ h (swapped ys i j p q))

-- ---- lists made of lists

pub front_exchanged : {A : Type 0} (xs ys rest : List A) → IsPermutation (xs ++ (ys ++ rest)) (ys ++ (xs ++ rest))
front_exchanged xs ys rest =
    subst (λ l. IsPermutation l (ys ++ (xs ++ rest))) (append_assoc xs ys rest)
    (subst (λ l. IsPermutation ((xs ++ ys) ++ rest) l) (append_assoc ys xs rest) (IsPermutation-append_left rest
    (xs ++ ys) (ys ++ xs) (IsPermutation-append_comm xs ys)))

-- a list in another order makes the same pieces in another order
pub flat_map-permutation : {A B : Type 0} (f : A → List B) (xs ys : List A) → IsPermutation xs ys
    → IsPermutation (flat_map f xs) (flat_map f ys)
flat_map-permutation f =
    along_permutation (λ xs ys. IsPermutation (flat_map f xs) (flat_map f ys))
    (λ xs. IsPermutation-refl (flat_map f xs))
    (λ x xs ys h. IsPermutation-append_right (f x) _ _ h)
    (λ x y xs. front_exchanged (f x) (f y) (flat_map f xs))
    (λ xs ys zs h g. IsPermutation-trans _ _ _ h g)

module _ {A : Type 0} (p : A → Bool) where
  abbrev Passes : List A → List A → Type 0
  Passes xs ys = IsPermutation (filter p xs) (filter p ys)

  past_by : (b : Bool) (x : A) (xs ys : List A) → IsPermutation xs ys → IsPermutation (cond b (x ∷ xs) xs)
      (cond b (x ∷ ys) ys)
  past_by true x xs ys h = IsPermutation-cons x xs ys h
  past_by false x xs ys h = h

  exchange_by : (b c : Bool) (x y : A) (xs : List A) → IsPermutation (cond b (x ∷ cond c (y ∷ xs) xs)
      (cond c (y ∷ xs) xs)) (cond c (y ∷ cond b (x ∷ xs) xs) (cond b (x ∷ xs) xs))
  exchange_by true true x y xs = front_exchanged (x ∷ []) (y ∷ []) xs
  exchange_by true false x y xs = IsPermutation-refl (x ∷ xs)
  exchange_by false true x y xs = IsPermutation-refl (y ∷ xs)
  exchange_by false false x y xs = IsPermutation-refl xs

  pub filter-permutation : (xs ys : List A) → IsPermutation xs ys → IsPermutation (filter p xs) (filter p ys)
  filter-permutation =
      along_permutation Passes (λ xs. IsPermutation-refl (filter p xs)) (λ x xs ys h. past_by (p x) x (filter p xs)
      (filter p ys) h)
      (λ x y xs. exchange_by (p x) (p y) x y (filter p xs)) (λ xs ys zs h g. IsPermutation-trans _ _ _ h g)

-- pieces of which each is in another order
pub flat_map-alike : {A B : Type 0} (f g : A → List B) → ((x : A) → IsPermutation (f x) (g x)) → (xs : List A)
    → IsPermutation (flat_map f xs) (flat_map g xs)
flat_map-alike f g same [] = IsPermutation-refl []
flat_map-alike f g same (x ∷ xs) = IsPermutation-append (f x) (g x) (flat_map f xs) (flat_map g xs) (same x)
    (flat_map-alike f g same xs)
