-- The rows that come first, of the rows that come first on one side and all rows of another: the rows that come first
-- of both sides.
use Rattle.std.proofs.Common.{◌≡◌, ◌∙◌, ◌||◌, ℕ, zero, suc, Bool, true, false, not, cond, Decides, List, [], ◌∷◌}
use Rattle.std.proofs.Common.{◌++◌, take, append-nil, refl, sym, ap, subst}
use Rattle.std.specs.Cmp.{IsTotalOrder}
use Rattle.std.specs.List.{AllByRecursion, filter, flat_map}
use Rattle.std.specs.Ordering.{is_gt}
use Rattle.std.specs.declared.cmp.Ordering.{Ordering}
use Rattle.std.proofs.lemmas.List.Elements.{filter-append}
use Rattle.std.proofs.lemmas.List.Sorted.{IsPermutation-append_comm}
use Rattle.mon_value.specs.Same.{items_with, keys_of}
use Rattle.mon_value.specs.Order.{TellsApart, sorted_list, sorted_list_with}
use Rattle.mon_value.proofs.KeyedLemmas as keyed
use Rattle.mon_value.proofs.SortingLemmas.{InOrder, sorted_list-InOrder, sorted_list-alike, sorted_list-in_order}
use Rattle.mon_meaning.proofs.ApartKeys.{all_keys}
use Rattle.mon_meaning.proofs.KeyOrders as orders

take_twice : {A : Type 0} (n : ℕ) (xs : List A) → take n (take n xs) ≡ take n xs
take_twice zero [] = refl
take_twice zero (x ∷ xs) = refl
take_twice (suc n) [] = refl
take_twice (suc n) (x ∷ xs) = ap (λ rest. x ∷ rest) (take_twice n xs)

take_fewer : {A : Type 0} (n : ℕ) (x : A) (xs : List A) → take n (x ∷ xs) ≡ take n (x ∷ take n xs)
take_fewer zero x xs = refl
take_fewer (suc n) x xs = ap (λ rest. x ∷ rest) (fewer n xs)
  where
    fewer : {A : Type 0} (n : ℕ) (xs : List A) → take n xs ≡ take n (take (suc n) xs)
    fewer zero [] = refl
    fewer zero (x ∷ xs) = refl
    fewer (suc n) [] = refl
    fewer (suc n) (x ∷ xs) = ap (λ rest. x ∷ rest) (fewer n xs)

-- ---- the first items of a list in order

module _ {A : Type 0} (order : A → A → Ordering) (total : IsTotalOrder order) (exact : TellsApart order) (n : ℕ) where
  -- the first items
  abbrev firsts : List A → List A
  firsts items = take n (sorted_list order items)

  abbrev put : A → List A → List A
  put = sorted_list_with order

  put_few_by : (m : ℕ) (b : Bool) (a x : A) (xs : List A) → take m (put a xs) ≡ take m (put a (take m xs))
      → take (suc m) (cond b (x ∷ put a xs) (a ∷ x ∷ xs))
      ≡ take (suc m) (cond b (x ∷ put a (take m xs)) (a ∷ x ∷ take m xs))
  put_few_by m true a x xs e = ap (λ rest. x ∷ rest) e
  put_few_by m false a x xs e = ap (λ rest. a ∷ rest) (take_fewer m x xs)

  -- what an item more makes of the first items goes by these alone
  put_few : (m : ℕ) (a : A) (xs : List A) → take m (put a xs) ≡ take m (put a (take m xs))
  put_few zero a [] = refl
  put_few zero a (x ∷ xs) = nothing (put a (x ∷ xs)) ∙ sym (nothing (put a (take zero (x ∷ xs))))
    where
      nothing : (xs : List A) → take 0 xs ≡ []
      nothing [] = refl
      nothing (x ∷ xs) = refl
  put_few (suc m) a [] = refl
  put_few (suc m) a (x ∷ xs) = put_few_by m (is_gt (order a x)) a x xs (put_few m a xs)

  order_kept : (m : ℕ) (xs : List A) → InOrder order xs → InOrder order (take m xs)
  order_kept zero [] h = tt
  order_kept zero (x ∷ xs) h = tt
  order_kept (suc m) [] h = tt
  order_kept (suc zero) (x ∷ []) h = tt
  order_kept (suc (suc m)) (x ∷ []) h = tt
  order_kept (suc zero) (x ∷ y ∷ xs) h = tt
  order_kept (suc (suc m)) (x ∷ y ∷ xs) h = (h.0, order_kept (suc m) (y ∷ xs) h.1)

  -- the first of the first items
  firsts_twice : (items : List A) → firsts (firsts items) ≡ firsts items
  firsts_twice items =
      ap (take n) (sorted_list-in_order order (firsts items)
      (order_kept n (sorted_list order items) (sorted_list-InOrder order total items)))
      ∙ take_twice n (sorted_list order items)

  behind_firsts : (xs items : List A) → firsts (xs ++ firsts items) ≡ firsts (xs ++ items)
  behind_firsts [] items = firsts_twice items
  behind_firsts (x ∷ xs) items =
      put_few n x (sorted_list order (xs ++ firsts items))
      ∙ ap (λ rest. take n (put x rest)) (behind_firsts xs items)
      ∙ sym (put_few n x (sorted_list order (xs ++ items)))

  -- the first items of those that come first, and of others
  pub firsts_append : (items xs : List A) → firsts (firsts items ++ xs) ≡ firsts (items ++ xs)
  firsts_append items xs =
      ap (take n) (sorted_list-alike order total exact (firsts items ++ xs) (xs ++ firsts items)
      (IsPermutation-append_comm (firsts items) xs))
      ∙ behind_firsts xs items
      ∙ ap (take n) (sorted_list-alike order total exact (xs ++ items) (items ++ xs)
      (IsPermutation-append_comm xs items))

-- ---- blocks of items, one for each key

module _ {K A : Type 0} (same : K → K → Bool) (decides : (a b : K) → Decides (same a b) (a ≡ b)) (key_of : A → K) where
  abbrev HasKey : K → List A → Type 0
  HasKey key items = AllByRecursion (λ item. same key (key_of item) ≡ true) items

  abbrev has : K → List K → Bool
  has = keyed.has same decides key_of

  all_with : (key : K) (items : List A) → HasKey key items → items_with same key_of key items ≡ items
  all_with key [] own = refl
  all_with key (item ∷ items) own =
      ap (λ b. cond b (item ∷ items_with same key_of key items) (items_with same key_of key items)) own.0
      ∙ ap (λ rest. item ∷ rest) (all_with key items own.1)

  none_with : (key other : K) → same key other ≡ false → (items : List A) → HasKey other items
      → items_with same key_of key items ≡ []
  none_with key other apart [] own = refl
  none_with key other apart (item ∷ items) own =
      let alike : other ≡ key_of item = (decides other (key_of item)).0 own.0 in
      let out : same key (key_of item) ≡ false = subst (λ k. same key k ≡ false) alike apart in
      ap (λ b. cond b (item ∷ items_with same key_of key items) (items_with same key_of key items)) out
      ∙ none_with key other apart items own.1

  module _ (block : K → List A) (own : (key : K) → HasKey key (block key)) where
    pub no_block : (key : K) (keys : List K) → has key keys ≡ false
        → items_with same key_of key (flat_map block keys) ≡ []
    no_block key [] lacks = refl
    no_block key (other ∷ keys) lacks =
        let parts = keyed.or_false same decides key_of (same key other) (has key keys) lacks in
        filter-append (λ item. same key (key_of item)) (block other) (flat_map block keys)
        ∙ ap (λ front. front ++ items_with same key_of key (flat_map block keys))
        (none_with key other parts.0 (block other) (own other))
        ∙ no_block key keys parts.1

    one_block_at : (key other : K) (keys : List K) (b : Bool) → same key other ≡ b
        → keyed.Distinct same decides key_of (other ∷ keys) → has key (other ∷ keys) ≡ true
        → (has key keys ≡ true → items_with same key_of key (flat_map block keys) ≡ block key)
        → items_with same key_of key (flat_map block (other ∷ keys)) ≡ block key
    one_block_at key other keys true e distinct there rest =
        let alike : key ≡ other = (decides key other).0 e in
        let lacks : has key keys ≡ false = subst (λ k. has k keys ≡ false) (sym alike) distinct.0 in
        filter-append (λ item. same key (key_of item)) (block other) (flat_map block keys)
        ∙ ap (λ more. items_with same key_of key (block other) ++ more) (no_block key keys lacks)
        ∙ append-nil (items_with same key_of key (block other))
        ∙ ap (λ k. items_with same key_of key (block k)) (sym alike)
        ∙ all_with key (block key) (own key)
    one_block_at key other keys false e distinct there rest =
        filter-append (λ item. same key (key_of item)) (block other) (flat_map block keys)
        ∙ ap (λ front. front ++ items_with same key_of key (flat_map block keys))
        (none_with key other e (block other) (own other))
        ∙ rest (sym (keyed.has_cons same decides key_of key other keys false e) ∙ there)

    -- the items of a key are its block
    pub one_block : (key : K) (keys : List K) → keyed.Distinct same decides key_of keys → has key keys ≡ true
        → items_with same key_of key (flat_map block keys) ≡ block key
    one_block key [] distinct there = absurd cc
    one_block key (other ∷ keys) distinct there =
        one_block_at key other keys (same key other) refl distinct there
        (λ rest. one_block key keys distinct.1 rest)

    -- ---- the keys of blocks that aren't empty

    one_key : (key : K) (item : A) (items : List A) → HasKey key (item ∷ items)
        → keys_of same key_of (item ∷ items) ≡ key ∷ []
    one_key key item items holds =
        let alike : key ≡ key_of item = (decides key (key_of item)).0 holds.0 in
        ap (λ k. k ∷ filter (λ other. not (same k other)) (keys_of same key_of items)) (sym alike)
        ∙ ap (λ rest. key ∷ rest) (no_others key items holds.1)
      where
        no_others_by : (b : Bool) (k : K) (keys : List K) → b ≡ true → cond (not b) (k ∷ keys) keys ≡ keys
        no_others_by true k keys e = refl
        no_others_by false k keys e = absurd cc

        none_of : (key : K) (keys : List K) → AllByRecursion (λ k. same key k ≡ true) keys
            → filter (λ other. not (same key other)) keys ≡ []
        none_of key [] all = refl
        none_of key (k ∷ keys) all =
            no_others_by (same key k) k (filter (λ other. not (same key other)) keys) all.0 ∙ none_of key keys all.1

        no_others : (key : K) (items : List A) → HasKey key items
            → filter (λ other. not (same key other)) (keys_of same key_of items) ≡ []
        no_others key items all =
            none_of key (keys_of same key_of items) (all_keys same decides key_of (λ k. same key k ≡ true) items all)

    others_new : (key : K) (keys : List K) → has key keys ≡ false
        → orders.new_keys same decides key_of (key ∷ []) keys ≡ keys
    others_new key [] lacks = refl
    others_new key (other ∷ keys) lacks =
        let parts = keyed.or_false same decides key_of (same key other) (has key keys) lacks in
        let out : has other (key ∷ []) ≡ false =
        ap (λ b. b || false) (keyed.same_back same decides key_of key other parts.0) in
        ap (λ b. cond (not b) (other ∷ orders.new_keys same decides key_of (key ∷ []) keys)
        (orders.new_keys same decides key_of (key ∷ []) keys)) out
        ∙ ap (λ rest. other ∷ rest) (others_new key keys parts.1)

    first_key : (key : K) (keys : List K) (items : List A) → HasKey key items → (items ≡ [] → ⊥)
        → has key keys ≡ false → keys_of same key_of (flat_map block keys) ≡ keys
        → keys_of same key_of (items ++ flat_map block keys) ≡ key ∷ keys
    first_key key keys [] holds some lacks rest = absurd (some refl)
    first_key key keys (item ∷ items) holds some lacks rest =
        orders.keys_of-append same decides key_of (item ∷ items) (flat_map block keys)
        ∙ ap (λ front. front ++ orders.new_keys same decides key_of front (keys_of same key_of (flat_map block keys)))
        (one_key key item items holds)
        ∙ ap (λ more. key ∷ orders.new_keys same decides key_of (key ∷ []) more) rest
        ∙ ap (λ more. key ∷ more) (others_new key keys lacks)

    pub block_keys : (keys : List K) → keyed.Distinct same decides key_of keys
        → AllByRecursion (λ key. block key ≡ [] → ⊥) keys → keys_of same key_of (flat_map block keys) ≡ keys
    block_keys [] distinct some = refl
    block_keys (key ∷ keys) distinct some =
        first_key key keys (block key) (own key) some.0 distinct.0 (block_keys keys distinct.1 some.1)
