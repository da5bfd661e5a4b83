-- Lists in order: whatever order the items come in, there is one sorted list.
use Rattle.std.proofs.Common.{◌≡◌, ℕ, ◌+◌, Bool, true, false, cond, List, [], ◌∷◌, get_or, IsPermutation, refl, sym}
use Rattle.std.proofs.Common.{ap, ◌∙◌, add-one, arith}
use Rattle.std.specs.Cmp.{IsTotalOrder}
use Rattle.std.specs.List.Sorted.{IsSorted}
use Rattle.std.specs.Ordering.{is_gt, is_lt, ordering_reverse}
use Rattle.std.specs.declared.cmp.Ordering.{Ordering}
use Rattle.std.specs.declared.cmp.Ordering.TheVariants.{Less, Equal, Greater}
use Rattle.std.proofs.lemmas.Bool.{false≢true}
use Rattle.std.proofs.lemmas.Cmp.{upto}
use Rattle.std.proofs.lemmas.List.Sorted.{IsPermutation-refl, IsPermutation-cons, IsPermutation-trans}
use Rattle.mon_value.proofs.PermutationLemmas.{along_permutation, front_exchanged}
use Rattle.mon_value.specs.Order.{TellsApart, sorted_list, sorted_list_with}

equal_by : (o : Ordering) → is_gt o ≡ false → is_gt (ordering_reverse o) ≡ false → o ≡ Equal
equal_by Less h g = absurd cc
equal_by Equal h g = refl
equal_by Greater h g = absurd cc

after_by : (o : Ordering) → is_gt o ≡ true → is_gt (ordering_reverse o) ≡ false
after_by Less h = absurd cc
after_by Equal h = absurd cc
after_by Greater h = refl

not_lt_by : (o : Ordering) → is_lt o ≡ false → is_gt (ordering_reverse o) ≡ false
not_lt_by Less h = absurd cc
not_lt_by Equal h = refl
not_lt_by Greater h = refl

is_true : (b : Bool) → (b ≡ false → ⊥) → b ≡ true
is_true true h = refl
is_true false h = absurd (h refl)

module _ {A : Type 0} (order : A → A → Ordering) where
  abbrev gt : A → A → Bool
  gt a b = is_gt (order a b)

  pub sorted_list_with-cons : (a x : A) (xs : List A) (q : Bool) → gt a x ≡ q → sorted_list_with order a (x ∷ xs)
      ≡ cond q (x ∷ sorted_list_with order a xs) (a ∷ x ∷ xs)
  sorted_list_with-cons a x xs q e = ap (λ b. cond b (x ∷ sorted_list_with order a xs) (a ∷ x ∷ xs)) e

  -- ---- sorting keeps the items

  with_kept_at : (a x : A) (xs : List A) (q : Bool) → gt a x ≡ q → IsPermutation (a ∷ xs) (sorted_list_with order a xs)
      → IsPermutation (a ∷ x ∷ xs) (cond q (x ∷ sorted_list_with order a xs) (a ∷ x ∷ xs))
  with_kept_at a x xs true e ih =
      IsPermutation-trans _ _ _ (front_exchanged (a ∷ []) (x ∷ []) xs)
      (IsPermutation-cons x (a ∷ xs) (sorted_list_with order a xs) ih)
  with_kept_at a x xs false e ih = IsPermutation-refl (a ∷ x ∷ xs)

  pub sorted_list_with-permutation : (a : A) (xs : List A) → IsPermutation (a ∷ xs) (sorted_list_with order a xs)
  sorted_list_with-permutation a [] = IsPermutation-refl (a ∷ [])
  sorted_list_with-permutation a (x ∷ xs) = with_kept_at a x xs (gt a x) refl (sorted_list_with-permutation a xs)

  pub sorted_list-permutation : (xs : List A) → IsPermutation xs (sorted_list order xs)
  sorted_list-permutation [] = IsPermutation-refl []
  sorted_list-permutation (x ∷ xs) =
      IsPermutation-trans _ _ _ (IsPermutation-cons x xs (sorted_list order xs) (sorted_list-permutation xs))
      (sorted_list_with-permutation x (sorted_list order xs))

  -- ---- a list in order stays

  -- no item comes after the next
  abbrev pub InOrder : List A → Type 0
  InOrder [] = Unit {0}
  InOrder (x ∷ []) = Unit {0}
  InOrder (x ∷ y ∷ xs) = (gt x y ≡ false) × InOrder (y ∷ xs)

  pub sorted_list-in_order : (xs : List A) → InOrder xs → sorted_list order xs ≡ xs
  sorted_list-in_order [] h = refl
  sorted_list-in_order (x ∷ []) h = refl
  sorted_list-in_order (x ∷ y ∷ xs) h = ap (sorted_list_with order x) (sorted_list-in_order (y ∷ xs) h.1)
      ∙ sorted_list_with-cons x y xs false h.0

module _ {A : Type 0} (order : A → A → Ordering) (total : IsTotalOrder order) where
  abbrev comes_after : A → A → Bool
  comes_after a b = is_gt (order a b)

  -- ---- a sorted list is in order

  not_after : (a b : A) → comes_after a b ≡ true → comes_after b a ≡ false
  not_after a b h = ap is_gt (total.antisymm b a) ∙ after_by (order a b) h

  -- behind an item that neither the first of the others nor the new one comes before
  behind : (x a y : A) (xs : List A) (p : Bool) → comes_after a y ≡ p → comes_after x y ≡ false → comes_after x a
      ≡ false
      → InOrder order (cond p (y ∷ sorted_list_with order a xs) (a ∷ y ∷ xs))
      → InOrder order (x ∷ cond p (y ∷ sorted_list_with order a xs) (a ∷ y ∷ xs))
  behind x a y xs true f h g ih = (h, ih)
  behind x a y xs false f h g ih = (g, ih)

  in_order_with_at : (a x : A) (xs : List A) (q : Bool) → comes_after a x ≡ q → InOrder order (x ∷ xs)
      → InOrder order (sorted_list_with order a xs)
      → InOrder order (cond q (x ∷ sorted_list_with order a xs) (a ∷ x ∷ xs))
  in_order_with_at a x [] true e h ih = (not_after a x e, tt)
  in_order_with_at a x (y ∷ xs) true e h ih = behind x a y xs (comes_after a y) refl h.0 (not_after a x e) ih
  in_order_with_at a x xs false e h ih = (e, h)

  -- an item more goes where it keeps the order
  pub sorted_list_with-InOrder : (a : A) (xs : List A) → InOrder order xs → InOrder order (sorted_list_with order a xs)
  sorted_list_with-InOrder a [] h = tt
  sorted_list_with-InOrder a (x ∷ []) h = in_order_with_at a x [] (comes_after a x) refl h tt
  sorted_list_with-InOrder a (x ∷ y ∷ xs) h = in_order_with_at a x (y ∷ xs) (comes_after a x) refl h
      (sorted_list_with-InOrder a (y ∷ xs) h.1)

  pub sorted_list-InOrder : (xs : List A) → InOrder order (sorted_list order xs)
  sorted_list-InOrder [] = tt
  sorted_list-InOrder (x ∷ xs) = sorted_list_with-InOrder x (sorted_list order xs) (sorted_list-InOrder xs)

  -- ---- what std calls sorted

  later : (x : A) (xs : List A) (k : ℕ) (d : A) → get_or (x ∷ xs) (k + 1) d ≡ get_or xs k d
  later x xs k d = ap (λ n. get_or (x ∷ xs) n d) (add-one k)

  pub InOrder-sorted : (xs : List A) → IsSorted order xs → InOrder order xs
  InOrder-sorted [] h = tt
  InOrder-sorted (x ∷ []) h = tt
  InOrder-sorted (x ∷ y ∷ xs) h = (
    ap is_gt (total.antisymm x y) ∙ not_lt_by (order y x) (h 0 x (omega arith) (omega arith)),
    InOrder-sorted (y ∷ xs) (λ k d low high.
        let next = later x (y ∷ xs) (k + 1) d in
        let this = later x (y ∷ xs) k d in
        (λ i. is_lt (order (sym next i) (sym this i))) ∙ h (k + 1) d (omega arith) (omega arith)),
  )

module _ {A : Type 0} (order : A → A → Ordering) (total : IsTotalOrder order) (exact : TellsApart order) where
  abbrev after : A → A → Bool
  after a b = is_gt (order a b)

  -- items of which neither comes after the other are one
  tied : (a b : A) → after a b ≡ false → after b a ≡ false → a ≡ b
  tied a b h g = exact a b (equal_by (order a b) h (ap is_gt (sym (total.antisymm b a)) ∙ g))

  not_both : (a b : A) → after a b ≡ true → after b a ≡ false
  not_both a b h = ap is_gt (total.antisymm b a) ∙ after_by (order a b) h

  -- an item that comes after one that isn't before a third comes after that
  after_third : (a b x : A) → after b x ≡ true → after a x ≡ false → after b a ≡ true
  after_third a b x h g = is_true (after b a) (λ e. false≢true (sym (upto total b a x e g) ∙ h))

  pair : (a b : A) (rest : List A) (p q : Bool) → (p ≡ true → q ≡ false) → (p ≡ false → q ≡ false → a ≡ b)
      → cond p (b ∷ a ∷ rest) (a ∷ b ∷ rest) ≡ cond q (a ∷ b ∷ rest) (b ∷ a ∷ rest)
  pair a b rest true q h g = ap (λ c. cond c (a ∷ b ∷ rest) (b ∷ a ∷ rest)) (sym (h refl))
  pair a b rest false true h g = refl
  pair a b rest false false h g = let e = g refl refl in λ i. e i ∷ sym e i ∷ rest

  abbrev put : A → List A → List A
  put = sorted_list_with order

  put_cons : (a x : A) (xs : List A) (q : Bool) → after a x ≡ q → put a (x ∷ xs) ≡ cond q (x ∷ put a xs) (a ∷ x ∷ xs)
  put_cons = sorted_list_with-cons order

  commutes_at : (a b x : A) (xs : List A) (p q : Bool) → after b x ≡ p → after a x ≡ q → put a (put b xs)
      ≡ put b (put a xs) → put a (put b (x ∷ xs)) ≡ put b (put a (x ∷ xs))
  commutes_at a b x xs true true e f ih =
      ap (put a) (put_cons b x xs true e) ∙ put_cons a x (put b xs) true f
      ∙ ap (λ rest. x ∷ rest) ih
      ∙ sym (ap (put b) (put_cons a x xs true f) ∙ put_cons b x (put a xs) true e)
  commutes_at a b x xs true false e f ih =
      ap (put a) (put_cons b x xs true e) ∙ put_cons a x (put b xs) false f
      ∙ sym (ap (put b) (put_cons a x xs false f) ∙ put_cons b a (x ∷ xs) true (after_third a b x e f)
      ∙ ap (λ rest. a ∷ rest) (put_cons b x xs true e))
  commutes_at a b x xs false true e f ih =
      ap (put a) (put_cons b x xs false e) ∙ put_cons a b (x ∷ xs) true (after_third b a x f e) ∙ ap (λ rest. b ∷ rest)
      (put_cons a x xs true f)
      ∙ sym (ap (put b) (put_cons a x xs true f) ∙ put_cons b x (put a xs) false e)
  commutes_at a b x xs false false e f ih =
      ap (put a) (put_cons b x xs false e)
      ∙ put_cons a b (x ∷ xs) (after a b) refl
      ∙ ap (λ rest. cond (after a b) (b ∷ rest) (a ∷ b ∷ x ∷ xs)) (put_cons a x xs false f)
      ∙ pair a b (x ∷ xs) (after a b) (after b a) (not_both a b) (tied a b)
      ∙ sym (ap (put b) (put_cons a x xs false f)
      ∙ put_cons b a (x ∷ xs) (after b a) refl
      ∙ ap (λ rest. cond (after b a) (a ∷ rest) (b ∷ a ∷ x ∷ xs)) (put_cons b x xs false e))

  -- the order in which items are put in plays no part
  commutes : (a b : A) (xs : List A) → put a (put b xs) ≡ put b (put a xs)
  commutes a b [] = pair a b [] (after a b) (after b a) (not_both a b) (tied a b)
  commutes a b (x ∷ xs) = commutes_at a b x xs (after b x) (after a x) refl refl (commutes a b xs)

  -- the same items in another order make the same sorted list
  pub sorted_list-alike : (xs ys : List A) → IsPermutation xs ys → sorted_list order xs ≡ sorted_list order ys
  sorted_list-alike =
      along_permutation (λ xs ys. sorted_list order xs ≡ sorted_list order ys) (λ xs. refl) (λ x xs ys h. ap (put x) h)
      (λ x y xs. commutes x y (sorted_list order xs)) (λ xs ys zs h g. h ∙ g)

  -- what a sort leaves is the sorted list
  pub sorted_list-sorted : (xs ys : List A) → IsPermutation xs ys → IsSorted order ys → ys ≡ sorted_list order xs
  sorted_list-sorted xs ys kept sorted = sym (sorted_list-in_order order ys (InOrder-sorted order total ys sorted))
      ∙ sym (sorted_list-alike xs ys kept)
