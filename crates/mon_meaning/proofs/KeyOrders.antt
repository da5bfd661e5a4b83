-- The keys of items: of the same items in another order, of two lists, and of those items that pass a test.
use Rattle.std.proofs.Common.{◌≡◌, ◌&&◌, ℕ, ◌+◌, Bool, true, false, not, cond, Decides, List, [], ◌∷◌, ◌++◌, refl, sym}
use Rattle.std.proofs.Common.{ap, subst, ◌∙◌, append-nil, arith}
use Rattle.std.specs.Prelude.{IsPermutation}
use Rattle.std.specs.List.{AllByRecursion, filter, flat_map, sum_by}
use Rattle.std.proofs.lemmas.List.Concat.{flat_map-append}
use Rattle.std.proofs.lemmas.List.Elements.{filter-append, filter_agree}
use Rattle.std.proofs.lemmas.List.Sorted.{IsPermutation-refl, IsPermutation-cons, IsPermutation-trans}
use Rattle.std.proofs.lemmas.List.Sorted.{IsPermutation-filter_both, IsPermutation-sym}
use Rattle.std.proofs.lemmas.List.Sums.{sum_by-cons}
use Rattle.mon_value.proofs.KeyedLemmas as keyed
use Rattle.mon_value.proofs.PermutationLemmas.{along_permutation, filter-permutation, flat_map-permutation}
use Rattle.mon_value.proofs.PermutationLemmas.{front_exchanged}
use Rattle.mon_value.specs.Same.{items_with, keys_of}
use Rattle.mon_meaning.proofs.FilterLemmas.{filter_swap, filter_twice}

module _ {K A : Type 0} (same : K → K → Bool) (decides : (a b : K) → Decides (same a b) (a ≡ b)) (key_of : A → K) where
  abbrev others : K → List K → List K
  others key keys = filter (λ other. not (same key other)) keys

  abbrev has : K → List K → Bool
  has = keyed.has same decides key_of

  -- ---- in another order

  exchanged_by : (k j : K) (keys : List K) (b : Bool) → same k j ≡ b
      → IsPermutation (k ∷ others k (j ∷ others j keys)) (j ∷ others j (k ∷ others k keys))
  exchanged_by k j keys true e =
      let alike : k ≡ j = (decides k j).0 e in
      subst (λ i. IsPermutation (k ∷ others k (i ∷ others i keys)) (i ∷ others i (k ∷ others k keys))) alike
      (IsPermutation-refl (k ∷ others k (k ∷ others k keys)))
  exchanged_by k j keys false e =
      let back : same j k ≡ false = keyed.same_back same decides key_of k j e in
      let left : others k (j ∷ others j keys) ≡ j ∷ others k (others j keys) =
      ap (λ b. cond (not b) (j ∷ others k (others j keys)) (others k (others j keys))) e in
      let right : others j (k ∷ others k keys) ≡ k ∷ others j (others k keys) =
      ap (λ b. cond (not b) (k ∷ others j (others k keys)) (others j (others k keys))) back in
      let rest : others k (others j keys) ≡ others j (others k keys) =
      filter_swap (λ other. not (same k other)) (λ other. not (same j other)) keys in
      rw (left, right, rest) (front_exchanged (k ∷ []) (j ∷ []) (others j (others k keys)))

  pub keys_of-permutation : (xs ys : List A) → IsPermutation xs ys → IsPermutation (keys_of same key_of xs)
      (keys_of same key_of ys)
  keys_of-permutation =
      along_permutation (λ xs ys. IsPermutation (keys_of same key_of xs) (keys_of same key_of ys))
      (λ xs. IsPermutation-refl (keys_of same key_of xs))
      (λ x xs ys h. IsPermutation-cons (key_of x) _ _ (filter-permutation (λ other. not (same (key_of x) other)) _ _ h))
      (λ x y xs. exchanged_by (key_of x) (key_of y) (keys_of same key_of xs) (same (key_of x) (key_of y)) refl)
      (λ xs ys zs h g. IsPermutation-trans _ _ _ h g)

  -- ---- of two lists

  -- the keys that are not among some
  abbrev pub new_keys : List K → List K → List K
  new_keys old keys = filter (λ key. not (has key old)) keys

  all_kept : (keys : List K) → filter (λ key. not false) keys ≡ keys
  all_kept [] = refl
  all_kept (key ∷ keys) = ap (λ rest. key ∷ rest) (all_kept keys)

  new_by : (k key : K) (keys : List K) (b : Bool) → same k key ≡ b
      → (not (same k key) && not (has key keys)) ≡ not (has key (k ∷ others k keys))
  new_by k key keys true e =
      let alike : k ≡ key = (decides k key).0 e in
      let there : same key k ≡ true = (decides key k).1 (sym alike) in
      let left : (not (same k key) && not (has key keys)) ≡ false = ap (λ b. not b && not (has key keys)) e in
      let right : not (has key (k ∷ others k keys)) ≡ false =
      ap (λ b. not b) (keyed.has_cons same decides key_of key k (others k keys) true there) in
      left ∙ sym right
  new_by k key keys false e =
      let back : same key k ≡ false = keyed.same_back same decides key_of k key e in
      let left : (not (same k key) && not (has key keys)) ≡ not (has key keys) = ap (λ b. not b && not (has key keys))
      e in
      let right : has key (k ∷ others k keys) ≡ has key keys =
      keyed.has_cons same decides key_of key k (others k keys) false back
      ∙ keyed.has-others same decides key_of key k keys e in
      left ∙ ap (λ b. not b) (sym right)

  pub keys_of-append : (xs ys : List A)
      → keys_of same key_of (xs ++ ys) ≡ keys_of same key_of xs ++ new_keys (keys_of same key_of xs)
      (keys_of same key_of ys)
  keys_of-append [] ys = sym (all_kept (keys_of same key_of ys))
  keys_of-append (x ∷ xs) ys =
      let k = key_of x in
      let old = keys_of same key_of xs in
      let new = keys_of same key_of ys in
      ap (λ keys. k ∷ others k keys) (keys_of-append xs ys)
      ∙ ap (λ keys. k ∷ keys) (filter-append (λ other. not (same k other)) old (new_keys old new)
      ∙ ap (λ rest. others k old ++ rest) (filter_twice (λ key. not (has key old)) (λ other. not (same k other)) new
      ∙ filter_agree _ _ (λ key. new_by k key old (same k key) refl) new))

  -- ---- of the items that pass a test

  new_none : {B : Type 0} (h : K → List B) (key : K) (keys : List K) (b : Bool) → (b ≡ false → h key ≡ [])
      → flat_map h keys ≡ [] → flat_map h (cond (not b) (key ∷ keys) keys) ≡ []
  new_none h key keys true none rest = rest
  new_none h key keys false none rest = ap (λ first. first ++ flat_map h keys) (none refl) ∙ rest

  nothing_new : {B : Type 0} (h : K → List B) (old keys : List K) → ((key : K) → has key old ≡ false → h key ≡ [])
      → flat_map h (new_keys old keys) ≡ []
  nothing_new h old [] none = refl
  nothing_new h old (key ∷ keys) none =
      new_none h key (new_keys old keys) (has key old) (none key) (nothing_new h old keys none)

  append_none : {B : Type 0} (xs ys : List B) → ys ≡ [] → xs ≡ xs ++ ys
  append_none xs ys none = sym (append-nil xs) ∙ ap (λ rest. xs ++ rest) (sym none)

  -- what only keys of such items have comes to the same over all keys
  pub flat_map-passing : {B : Type 0} (h : K → List B) (test : A → Bool) (items : List A)
      → ((key : K) → items_with same key_of key (filter test items) ≡ [] → h key ≡ [])
      → IsPermutation (flat_map h (keys_of same key_of (filter test items))) (flat_map h (keys_of same key_of items))
  flat_map-passing h test items none =
      let passing = filter test items in
      let others = filter (λ item. not (test item)) items in
      let old = keys_of same key_of passing in
      let new = new_keys old (keys_of same key_of others) in
      let split : IsPermutation items (passing ++ others) = IsPermutation-filter_both test (λ item. not (test item))
      (λ item. refl) items in
      let keys : IsPermutation (keys_of same key_of (passing ++ others)) (keys_of same key_of items) =
      keys_of-permutation (passing ++ others) items (IsPermutation-sym items (passing ++ others) split) in
      let more : flat_map h old ≡ flat_map h (keys_of same key_of (passing ++ others)) =
      append_none (flat_map h old) (flat_map h new)
      (nothing_new h old (keys_of same key_of others)
      (λ key e. none key (keyed.items_none same decides key_of key passing e)))
      ∙ sym (flat_map-append h old new)
      ∙ ap (flat_map h) (sym (keys_of-append passing others)) in
      subst (λ front. IsPermutation front (flat_map h (keys_of same key_of items))) (sym more)
      (flat_map-permutation h (keys_of same key_of (passing ++ others)) (keys_of same key_of items) keys)

  -- ---- sums over items, and over the items of each key

  abbrev share : K → ℕ → K → ℕ
  share own n key = cond (same key own) n 0

  share_apart : (own : K) (n : ℕ) (keys : List K) → has own keys ≡ false → sum_by (share own n) keys ≡ 0
  share_apart own n [] apart = refl
  share_apart own n (key ∷ keys) apart =
      let parts = keyed.or_false same decides key_of (same own key) (has own keys) apart in
      let here : same key own ≡ false = keyed.same_back same decides key_of own key parts.0 in
      let none : cond (same key own) n 0 ≡ 0 = ap (λ b. cond b n 0) here in
      omega (arith, none, sum_by-cons (share own n) key keys, share_apart own n keys parts.1)

  share_by : (own key : K) (n : ℕ) (keys : List K) (b : Bool) → same own key ≡ b → has own (key ∷ keys) ≡ true
      → keyed.Distinct same decides key_of (key ∷ keys)
      → (has own keys ≡ true → sum_by (share own n) keys ≡ n) → cond (same key own) n 0 + sum_by (share own n) keys ≡ n
  share_by own key n keys true e there distinct rest =
      let alike : own ≡ key = (decides own key).0 e in
      let here : same key own ≡ true = (decides key own).1 (sym alike) in
      let gone : has own keys ≡ false = subst (λ k. has k keys ≡ false) (sym alike) distinct.0 in
      let one : cond (same key own) n 0 ≡ n = ap (λ b. cond b n 0) here in
      omega (arith, one, share_apart own n keys gone)
  share_by own key n keys false e there distinct rest =
      let here : same key own ≡ false = keyed.same_back same decides key_of own key e in
      let left : has own keys ≡ true = sym (keyed.has_cons same decides key_of own key keys false e) ∙ there in
      let none : cond (same key own) n 0 ≡ 0 = ap (λ b. cond b n 0) here in
      omega (arith, none, rest left)

  -- a key that stands once has its share once
  shared_once : (own : K) (n : ℕ) (keys : List K) → keyed.Distinct same decides key_of keys → has own keys ≡ true
      → sum_by (share own n) keys ≡ n
  shared_once own n [] distinct there = absurd cc
  shared_once own n (key ∷ keys) distinct there =
      sum_by-cons (share own n) key keys
      ∙ share_by own key n keys (same own key) refl there distinct (λ left. shared_once own n keys distinct.1 left)

  abbrev key_sum : (A → ℕ) → List A → K → ℕ
  key_sum f items key = sum_by f (items_with same key_of key items)

  with_item_by : (f : A → ℕ) (b : Bool) (x : A) (items : List A)
      → sum_by f (cond b (x ∷ items) items) ≡ cond b (f x) 0 + sum_by f items
  with_item_by f true x items = sum_by-cons f x items
  with_item_by f false x items = omega arith

  key_sums-cons : (f : A → ℕ) (x : A) (items : List A) (keys : List K)
      → sum_by (key_sum f (x ∷ items)) keys ≡ sum_by (share (key_of x) (f x)) keys + sum_by (key_sum f items) keys
  key_sums-cons f x items [] = refl
  key_sums-cons f x items (key ∷ keys) =
      omega (
        arith,
        sum_by-cons (key_sum f (x ∷ items)) key keys,
        sum_by-cons (share (key_of x) (f x)) key keys,
        sum_by-cons (key_sum f items) key keys,
        key_sums-cons f x items keys,
        with_item_by f (same key (key_of x)) x (items_with same key_of key items),
      )

  none_left : (f : A → ℕ) (keys : List K) → sum_by (key_sum f []) keys ≡ 0
  none_left f [] = refl
  none_left f (key ∷ keys) = omega (arith, sum_by-cons (key_sum f []) key keys, none_left f keys)

  key_sums_whole : (f : A → ℕ) (items : List A) (keys : List K) → keyed.Distinct same decides key_of keys
      → AllByRecursion (λ item. has (key_of item) keys ≡ true) items → sum_by (key_sum f items) keys ≡ sum_by f items
  key_sums_whole f [] keys distinct there = none_left f keys
  key_sums_whole f (x ∷ items) keys distinct there =
      omega (
        arith,
        key_sums-cons f x items keys,
        shared_once (key_of x) (f x) keys distinct there.0,
        key_sums_whole f items keys distinct there.1,
        sum_by-cons f x items,
      )

  still_there : (k key : K) (keys : List K) (b : Bool) → same key k ≡ b → has key keys ≡ true
      → has key (k ∷ others k keys) ≡ true
  still_there k key keys true e there = keyed.has_cons same decides key_of key k (others k keys) true e
  still_there k key keys false e there =
      keyed.has_cons same decides key_of key k (others k keys) false e
      ∙ keyed.has-others same decides key_of key k keys (keyed.same_back same decides key_of key k e) ∙ there

  all_still_there : (k : K) (keys : List K) (items : List A) → AllByRecursion (λ item. has (key_of item) keys ≡ true)
      items
      → AllByRecursion (λ item. has (key_of item) (k ∷ others k keys) ≡ true) items
  all_still_there k keys [] there = tt
  all_still_there k keys (item ∷ items) there =
      (still_there k (key_of item) keys (same (key_of item) k) refl there.0, all_still_there k keys items there.1)

  -- each item's key occurs
  pub keys_there : (items : List A) → AllByRecursion (λ item. has (key_of item) (keys_of same key_of items) ≡ true)
      items
  keys_there [] = tt
  keys_there (item ∷ items) = (
    keyed.has_cons same decides key_of (key_of item) (key_of item) (others (key_of item) (keys_of same key_of items))
        true
        (keyed.same_itself same decides key_of (key_of item)),
    all_still_there (key_of item) (keys_of same key_of items) items (keys_there items),
  )

  -- the sum over all items is that over the items of each key
  pub key_sums : (f : A → ℕ) (items : List A)
      → sum_by (λ key. sum_by f (items_with same key_of key items)) (keys_of same key_of items) ≡ sum_by f items
  key_sums f items =
      key_sums_whole f items (keys_of same key_of items) (keyed.keys_distinct same decides key_of items)
      (keys_there items)
