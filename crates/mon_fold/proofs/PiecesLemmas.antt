-- Parts that are made in whatever pieces and order.
use Rattle.std.proofs.Common.{◌≡◌, ℕ, ◌+◌, ◌<◌, List, [], ◌∷◌, ◌++◌, length, get_or, take, drop, Option, IsNone, ◌↔◌}
use Rattle.std.proofs.Common.{IsPermutation, refl, sym, ap, subst, ◌∙◌, append_assoc}
use Rattle.std.specs.List.{flat_map}
use Rattle.std.proofs.lemmas.List.{take_more, drop_more, take-append-drop}
use Rattle.std.proofs.lemmas.List.Concat.{flat_map-append}
use Rattle.std.proofs.lemmas.List.Sorted.{IsPermutation-refl, IsPermutation-append_comm}
use Rattle.mon_value.proofs.PermutationLemmas.{along_permutation}
use Rattle.mon_fold.specs.Mergings.{Merging, nothing, one, both, items_of, part_made, IsAllowed}

-- the items of all the pieces
abbrev pub items_of_pieces : {A : Type 0} → List (List A) → List A
items_of_pieces pieces = flat_map (λ piece. piece) pieces

pub items_of_pieces-split : {A : Type 0} (pieces : List (List A)) (i : ℕ) (d : List A) → i < length pieces
    → items_of_pieces pieces ≡ (items_of_pieces (take i pieces) ++ get_or pieces i d) ++ items_of_pieces
    (drop (i + 1) pieces)
items_of_pieces-split pieces i d h =
    let whole : items_of_pieces (take i pieces ++ drop i pieces) ≡ items_of_pieces pieces = ap items_of_pieces
    (take-append-drop i pieces) in
    sym whole ∙ flat_map-append (λ piece. piece) (take i pieces) (drop i pieces)
    ∙ ap (λ rest. items_of_pieces (take i pieces) ++ items_of_pieces rest) (drop_more pieces i d h)
    ∙ sym (append_assoc (items_of_pieces (take i pieces)) (get_or pieces i d) (items_of_pieces (drop (i + 1) pieces)))

-- a value is absent exactly where another is
pub none_exactly : {B : Type 0} {a b : Option B} {P : Type 0} → a ≡ b → IsNone b ↔ P → IsNone a ↔ P
none_exactly {a = a} {b = b} same exactly = rw same exactly

-- ---- items that fit in whatever pieces

module _ {A : Type 0} (fits : List A → Type 0) (chosen : (xs ys zs : List A) → IsPermutation (xs ++ ys) zs → fits zs
    → fits xs) where
  pub fits_front : (xs ys : List A) → fits (xs ++ ys) → fits xs
  fits_front xs ys h = chosen xs ys (xs ++ ys) (IsPermutation-refl (xs ++ ys)) h

  pub fits_back : (xs ys : List A) → fits (xs ++ ys) → fits ys
  fits_back xs ys h = chosen ys xs (xs ++ ys) (IsPermutation-append_comm ys xs) h

  pub fits_more : (items : List A) (i : ℕ) (d : A) → i < length items → fits items
      → fits (take i items ++ get_or items i d ∷ [])
  fits_more items i d h all =
      subst fits (take_more items i d h) (fits_front (take (i + 1) items) (drop (i + 1) items)
      (subst fits (sym (take-append-drop (i + 1) items)) all))

  pub fits_pieces_more : (pieces : List (List A)) (i : ℕ) (d : List A) → i < length pieces
      → fits (items_of_pieces pieces) → fits (items_of_pieces (take i pieces) ++ get_or pieces i d)
  fits_pieces_more pieces i d h all =
      fits_front (items_of_pieces (take i pieces) ++ get_or pieces i d) (items_of_pieces (drop (i + 1) pieces))
      (subst fits (items_of_pieces-split pieces i d h) all)

  pub fits_piece : (pieces : List (List A)) (i : ℕ) (d : List A) → i < length pieces → fits (items_of_pieces pieces)
      → fits (get_or pieces i d)
  fits_piece pieces i d h all = fits_back (items_of_pieces (take i pieces)) (get_or pieces i d)
      (fits_pieces_more pieces i d h all)

-- parts of items that fit together can be merged
pub can_merge_at : {A P : Type 0} (part_of : List A → P) (can_merge : P → P → Type 0) (fits : List A → Type 0)
    → ((xs ys : List A) → fits (xs ++ ys) → can_merge (part_of xs) (part_of ys))
    → (a b : P) (xs ys : List A) → a ≡ part_of xs → b ≡ part_of ys → fits (xs ++ ys) → can_merge a b
can_merge_at part_of can_merge fits merges a b xs ys left right all = rw (left, right) (merges xs ys all)

-- ---- parts of lists that are items_of_pieces

module _ {A P : Type 0} (part_of : List A → P) (merged : P → P → P)
    (joins : (xs ys : List A) → merged (part_of xs) (part_of ys) ≡ part_of (xs ++ ys)) where
  -- what is made is the part of the items that went in
  pub part_made_is : (merging : Merging A) → part_made part_of merged merging ≡ part_of (items_of merging)
  part_made_is nothing = refl
  part_made_is (one item) = refl
  part_made_is (both left right) = rw (part_made_is left, part_made_is right) (joins (items_of left) (items_of right))

  -- items that fit can be merged in whatever pieces and order
  module _ (can_merge : P → P → Type 0) (fits : List A → Type 0)
      (chosen : (xs ys zs : List A) → IsPermutation (xs ++ ys) zs → fits zs → fits xs)
      (merges : (xs ys : List A) → fits (xs ++ ys) → can_merge (part_of xs) (part_of ys)) where
    pub merging_allowed : (merging : Merging A) → fits (items_of merging) → IsAllowed part_of merged can_merge merging
    merging_allowed nothing all = tt
    merging_allowed (one item) all = tt
    merging_allowed (both left right) all =
        let a = items_of left in
        let b = items_of right in (
          merging_allowed left (fits_front fits chosen a b all),
          merging_allowed right (fits_back fits chosen a b all),
          rw (part_made_is left, part_made_is right) (merges a b all),
        )

  -- the order of the items plays no part
  module _ (commutes : (a b : P) → merged a b ≡ merged b a) (associates : (a b c : P) → merged (merged a b) c
      ≡ merged a (merged b c)) where
    part-turned : (x y : A) (xs : List A) → part_of (x ∷ y ∷ xs) ≡ part_of (y ∷ x ∷ xs)
    part-turned x y xs =
        let a = x ∷ [] in
        let b = y ∷ [] in
        sym (joins (x ∷ y ∷ []) xs) ∙ ap (λ p. merged p (part_of xs)) (sym (joins a b) ∙ commutes (part_of a)
        (part_of b) ∙ joins b a) ∙ joins (y ∷ x ∷ []) xs

    pub part-permutation : (xs ys : List A) → IsPermutation xs ys → part_of xs ≡ part_of ys
    part-permutation =
        along_permutation (λ xs ys. part_of xs ≡ part_of ys) (λ xs. refl)
        (λ x xs ys h. sym (joins (x ∷ []) xs) ∙ ap (merged (part_of (x ∷ []))) h ∙ joins (x ∷ []) ys)
        part-turned (λ xs ys zs p q. p ∙ q)
