-- Filters of lists: two of them, and in another order.
use Rattle.std.proofs.Common.{◌≡◌, ◌&&◌, Bool, true, false, cond, Option, Some, None, List, [], ◌∷◌, map, refl, sym}
use Rattle.std.proofs.Common.{ap, ◌∙◌}
use Rattle.std.specs.Prelude.{IsPermutation}
use Rattle.std.specs.List.{AllByRecursion, cons_option, filter, filter_map, flat_map}
use Rattle.std.proofs.lemmas.List.Sorted.{IsPermutation-refl, IsPermutation-cons, IsPermutation-trans}
use Rattle.mon_value.proofs.PermutationLemmas.{along_permutation, front_exchanged}

module _ {A : Type 0} where
  filter_if : (p : A → Bool) (c : Bool) (x : A) (ys : List A)
      → filter p (cond c (x ∷ ys) ys) ≡ cond c (cond (p x) (x ∷ filter p ys) (filter p ys)) (filter p ys)
  filter_if p true x ys = refl
  filter_if p false x ys = refl

  both_ifs : (b c : Bool) (x : A) (ys zs : List A) → ys ≡ zs
      → cond c (cond b (x ∷ ys) ys) ys ≡ cond (b && c) (x ∷ zs) zs
  both_ifs true true x ys zs e = ap (λ l. x ∷ l) e
  both_ifs true false x ys zs e = e
  both_ifs false true x ys zs e = e
  both_ifs false false x ys zs e = e

  -- two filters are one
  pub filter_twice : (first second : A → Bool) (xs : List A)
      → filter second (filter first xs) ≡ filter (λ x. second x && first x) xs
  filter_twice first second [] = refl
  filter_twice first second (x ∷ xs) =
      filter_if second (first x) x (filter first xs)
      ∙ both_ifs (second x) (first x) x (filter second (filter first xs)) (filter (λ y. second y && first y) xs)
      (filter_twice first second xs)

  swapped_ifs : (b c : Bool) (x : A) (ys zs : List A) → ys ≡ zs
      → cond c (cond b (x ∷ ys) ys) ys ≡ cond b (cond c (x ∷ zs) zs) zs
  swapped_ifs true true x ys zs e = ap (λ l. x ∷ l) e
  swapped_ifs true false x ys zs e = e
  swapped_ifs false true x ys zs e = e
  swapped_ifs false false x ys zs e = e

  -- which of two filters comes first plays no part
  pub filter_swap : (p q : A → Bool) (xs : List A) → filter p (filter q xs) ≡ filter q (filter p xs)
  filter_swap p q [] = refl
  filter_swap p q (x ∷ xs) =
      filter_if p (q x) x (filter q xs)
      ∙ swapped_ifs (p x) (q x) x (filter p (filter q xs)) (filter q (filter p xs)) (filter_swap p q xs)
      ∙ sym (filter_if q (p x) x (filter p xs))

  -- a filter that lets nothing through
  pub filter_none : (xs : List A) → [] ≡ filter (λ x. false) xs
  filter_none [] = refl
  filter_none (x ∷ xs) = filter_none xs

  kept_by : (P : A → Type 0) (b : Bool) (x : A) (xs : List A) → P x → AllByRecursion P xs
      → AllByRecursion P (cond b (x ∷ xs) xs)
  kept_by P true x xs h all = (h, all)
  kept_by P false x xs h all = all

  pub all-filter : (P : A → Type 0) (p : A → Bool) (xs : List A) → AllByRecursion P xs → AllByRecursion P (filter p xs)
  all-filter P p [] all = tt
  all-filter P p (x ∷ xs) all = kept_by P (p x) x (filter p xs) all.0 (all-filter P p xs all.1)

  -- what holds of all items holds of them in another order
  pub all-permutation : (P : A → Type 0) (xs ys : List A) → IsPermutation xs ys → AllByRecursion P xs
      → AllByRecursion P ys
  all-permutation P =
      along_permutation (λ xs ys. AllByRecursion P xs → AllByRecursion P ys) (λ xs all. all) (λ x xs ys h all.
      (all.0, h all.1))
      (λ x y xs all. (all.1.0, (all.0, all.1.1))) (λ xs ys zs h g all. g (h all))

module _ {A B : Type 0} (f : A → Option B) where
  past_by : (o : Option B) (xs ys : List B) → IsPermutation xs ys → IsPermutation (cons_option o xs) (cons_option o ys)
  past_by None xs ys h = h
  past_by (Some x) xs ys h = IsPermutation-cons x xs ys h

  exchanged_by : (o p : Option B) (xs : List B) → IsPermutation (cons_option o (cons_option p xs))
      (cons_option p (cons_option o xs))
  exchanged_by None p xs = IsPermutation-refl (cons_option p xs)
  exchanged_by (Some x) None xs = IsPermutation-refl (x ∷ xs)
  exchanged_by (Some x) (Some y) xs = front_exchanged (x ∷ []) (y ∷ []) xs

  -- what is made of items in another order
  pub filter_map-permutation : (xs ys : List A) → IsPermutation xs ys → IsPermutation (filter_map f xs)
      (filter_map f ys)
  filter_map-permutation =
      along_permutation (λ xs ys. IsPermutation (filter_map f xs) (filter_map f ys))
      (λ xs. IsPermutation-refl (filter_map f xs))
      (λ x xs ys h. past_by (f x) (filter_map f xs) (filter_map f ys) h)
      (λ x y xs. exchanged_by (f x) (f y) (filter_map f xs)) (λ xs ys zs h g. IsPermutation-trans _ _ _ h g)

-- lists made of the same pieces
pub flat_map-agree : {A B : Type 0} (f g : A → List B) → ((x : A) → f x ≡ g x) → (xs : List A) → flat_map f xs
    ≡ flat_map g xs
flat_map-agree f g same xs = λ i. flat_map (λ x. same x i) xs

pub map-map : {A B C : Type 0} (f : B → C) (g : A → B) (xs : List A) → map f (map g xs) ≡ map (λ x. f (g x)) xs
map-map f g [] = refl
map-map f g (x ∷ xs) = ap (λ rest. f (g x) ∷ rest) (map-map f g xs)
