-- A list in which one item takes the place of another: its order, and its items by key.
use Rattle.std.proofs.Common.{◌≡◌, ◌∙◌, Bool, false, not, cond, Decides, List, [], ◌∷◌, ◌++◌, refl, sym, ap, subst}
use Rattle.std.specs.List.{filter}
use Rattle.std.specs.List.Sorted.{IsPermutation}
use Rattle.std.proofs.lemmas.List.Elements.{filter-append}
use Rattle.std.proofs.lemmas.List.Sorted.{IsPermutation-refl, IsPermutation-cons, IsPermutation-trans}
use Rattle.mon_value.specs.Same.{items_with, keys_of}
use Rattle.mon_value.proofs.PermutationLemmas.{along_permutation, front_exchanged}

module _ {A : Type 0} (gone come : A) where
  -- a list with one item in whose place the other makes it another list in some order
  pub record Placed (others ys : List A) : Type 0 where
    pub front : List A
    pub back : List A
    pub stands : ys ≡ front ++ gone ∷ back
    pub same : IsPermutation others (front ++ come ∷ back)

  abbrev Follows : List A → List A → Type 0
  Follows xs ys = IsPermutation xs ys
      × ((front back : List A) → xs ≡ front ++ gone ∷ back → Placed (front ++ come ∷ back) ys)

  past : (x : A) (xs ys front back : List A) → Follows xs ys → x ∷ xs ≡ front ++ gone ∷ back
      → Placed (front ++ come ∷ back) (x ∷ ys)
  past x xs ys [] back follows is =
      let first : x ≡ gone = cc in
      let rest : xs ≡ back = cc in record {
        front = [];
        back = ys;
        stands = ap (λ item. item ∷ ys) first;
        same = IsPermutation-cons come back ys (subst (λ l. IsPermutation l ys) rest follows.0);
      }
  past x xs ys (y ∷ front) back follows is =
      let first : x ≡ y = cc in
      let rest : xs ≡ front ++ gone ∷ back = cc in
      let behind = follows.1 front back rest in record {
        front = y ∷ behind.front;
        back = behind.back;
        stands = λ i. first i ∷ behind.stands i;
        same = IsPermutation-cons y (front ++ come ∷ back) (behind.front ++ come ∷ behind.back) behind.same;
      }

  exchanged : (x y : A) (xs front back : List A) → x ∷ y ∷ xs ≡ front ++ gone ∷ back
      → Placed (front ++ come ∷ back) (y ∷ x ∷ xs)
  exchanged x y xs [] back is =
      let first : x ≡ gone = cc in
      let rest : y ∷ xs ≡ back = cc in record {
        front = y ∷ [];
        back = xs;
        stands = ap (λ item. y ∷ item ∷ xs) first;
        same = subst (λ l. IsPermutation (come ∷ l) (y ∷ come ∷ xs)) rest (front_exchanged (come ∷ []) (y ∷ []) xs);
      }
  exchanged x y xs (f ∷ []) back is =
      let first : x ≡ f = cc in
      let next : y ≡ gone = cc in
      let rest : xs ≡ back = cc in record {
        front = [];
        back = x ∷ xs;
        stands = ap (λ item. item ∷ x ∷ xs) next;
        same =
            subst (λ l. IsPermutation (f ∷ come ∷ l) (come ∷ x ∷ xs)) rest
            (subst (λ item. IsPermutation (item ∷ come ∷ xs) (come ∷ x ∷ xs)) first
            (front_exchanged (x ∷ []) (come ∷ []) xs));
      }
  exchanged x y xs (f ∷ g ∷ front) back is =
      let first : x ≡ f = cc in
      let next : y ≡ g = cc in
      let rest : xs ≡ front ++ gone ∷ back = cc in record {
        front = g ∷ f ∷ front;
        back = back;
        stands = λ i. next i ∷ first i ∷ rest i;
        same = front_exchanged (f ∷ []) (g ∷ []) (front ++ come ∷ back);
      }

  follows : (xs ys : List A) → IsPermutation xs ys → Follows xs ys
  follows =
      along_permutation Follows
      (λ xs. (
        IsPermutation-refl xs,
        λ front back is. record { front = front; back = back; stands = is; same = IsPermutation-refl _ },
      ))
      (λ x xs ys h. (IsPermutation-cons x xs ys h.0, λ front back is. past x xs ys front back h is))
      (λ x y xs. (
        front_exchanged (x ∷ []) (y ∷ []) xs,
        λ front back is. exchanged x y xs front back is,
      ))
      (λ xs ys zs h g. (
        IsPermutation-trans _ _ _ h.0 g.0,
        λ front back is.
            let middle = h.1 front back is in
            let end = g.1 middle.front middle.back middle.stands in record {
              front = end.front;
              back = end.back;
              stands = end.stands;
              same = IsPermutation-trans _ _ _ middle.same end.same;
            },
      ))

  pub placed : (rest taken : List A) → IsPermutation (gone ∷ rest) taken → Placed (come ∷ rest) taken
  placed rest taken same = (follows (gone ∷ rest) taken same).1 [] rest refl

module _ {K A : Type 0} (same : K → K → Bool) (decides : (a b : K) → Decides (same a b) (a ≡ b)) (key_of : A → K) where
  pub keys_replaced : (front back : List A) (old new : A) → key_of old ≡ key_of new
      → keys_of same key_of (front ++ old ∷ back) ≡ keys_of same key_of (front ++ new ∷ back)
  keys_replaced [] back old new e =
      ap (λ key. key ∷ filter (λ other. not (same key other)) (keys_of same key_of back)) e
  keys_replaced (x ∷ front) back old new e =
      ap (λ keys. key_of x ∷ filter (λ other. not (same (key_of x) other)) keys) (keys_replaced front back old new e)

  without : (front back : List A) (row : A) (key : K) → same key (key_of row) ≡ false
      → items_with same key_of key (front ++ row ∷ back)
      ≡ items_with same key_of key front ++ items_with same key_of key back
  without front back row key e =
      filter-append (λ item. same key (key_of item)) front (row ∷ back)
      ∙ ap (λ c. items_with same key_of key front ++ cond c (row ∷ items_with same key_of key back)
      (items_with same key_of key back)) e

  -- the items of another key stay
  pub others_same : (front back : List A) (old new : A) (key : K) → same key (key_of old) ≡ false
      → same key (key_of new) ≡ false
      → items_with same key_of key (front ++ old ∷ back) ≡ items_with same key_of key (front ++ new ∷ back)
  others_same front back old new key e f = without front back old key e ∙ sym (without front back new key f)
