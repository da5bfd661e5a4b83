-- Items by key, where the keys of some items are of one kind, those of others of another kind, and none is of both.
use Rattle.std.proofs.Common.{◌≡◌, Bool, false, not, cond, Decides, List, [], ◌∷◌, ◌++◌, map, append-nil, refl, sym}
use Rattle.std.proofs.Common.{ap, subst, ◌∙◌}
use Rattle.std.specs.List.{AllByRecursion, filter}
use Rattle.std.proofs.lemmas.Bool.{false_from_ne_true}
use Rattle.std.proofs.lemmas.List.{map-append}
use Rattle.std.proofs.lemmas.List.Elements.{filter-append}
use Rattle.mon_value.specs.Same.{items_by_key, items_with, keys_of}
use Rattle.typed_rows.proofs.KeptRows.{all-filter}

module _ {K A : Type 0} (same : K → K → Bool) (decides : (a b : K) → Decides (same a b) (a ≡ b)) (key_of : A → K) where
  -- what holds of each item's key holds of the keys that occur
  pub all_keys : (R : K → Type 0) (items : List A) → AllByRecursion (λ item. R (key_of item)) items
      → AllByRecursion R (keys_of same key_of items)
  all_keys R [] all = tt
  all_keys R (item ∷ items) all =
      (all.0, all-filter R (λ key. not (same (key_of item) key)) (keys_of same key_of items) (all_keys R items all.1))

module _ {K A : Type 0} (same : K → K → Bool) (decides : (a b : K) → Decides (same a b) (a ≡ b)) (key_of : A → K)
    (P Q : K → Type 0) (apart : (key : K) → P key → Q key → ⊥) where
  -- a key of the one kind is none of the other
  not_same : (key other : K) → P key → Q other → same key other ≡ false
  not_same key other p q =
      false_from_ne_true (same key other) (λ e. apart other (subst P ((decides key other).0 e) p) q)

  not_same_back : (key other : K) → P key → Q other → same other key ≡ false
  not_same_back key other p q =
      false_from_ne_true (same other key) (λ e. apart other (subst P (sym ((decides other key).0 e)) p) q)

  -- so it is not among them
  others_stay : (key : K) → P key → (keys : List K) → AllByRecursion Q keys
      → filter (λ other. not (same key other)) keys ≡ keys
  others_stay key p [] all = refl
  others_stay key p (other ∷ keys) all =
      let rest = filter (λ other. not (same key other)) keys in
      ap (λ b. cond (not b) (other ∷ rest) rest) (not_same key other p all.0)
      ∙ ap (λ more. other ∷ more) (others_stay key p keys all.1)

  pub keys_of-apart : (xs ys : List A) → AllByRecursion (λ x. P (key_of x)) xs → AllByRecursion (λ y. Q (key_of y)) ys
      → keys_of same key_of (xs ++ ys) ≡ keys_of same key_of xs ++ keys_of same key_of ys
  keys_of-apart [] ys p q = refl
  keys_of-apart (x ∷ xs) ys p q =
      let key = key_of x in
      let others : List K → List K = λ keys. filter (λ other. not (same key other)) keys in
      let more = keys_of same key_of ys in
      ap (λ keys. key ∷ others keys) (keys_of-apart xs ys p.1 q)
      ∙ ap (λ keys. key ∷ keys)
      (filter-append (λ other. not (same key other)) (keys_of same key_of xs) more
      ∙ ap (λ rest. others (keys_of same key_of xs) ++ rest)
      (others_stay key p.0 more (all_keys same decides key_of Q ys q)))

  none_behind : (key : K) → P key → (ys : List A) → AllByRecursion (λ y. Q (key_of y)) ys
      → items_with same key_of key ys ≡ []
  none_behind key p [] q = refl
  none_behind key p (y ∷ ys) q =
      ap (λ b. cond b (y ∷ items_with same key_of key ys) (items_with same key_of key ys))
      (not_same key (key_of y) p q.0)
      ∙ none_behind key p ys q.1

  none_before : (key : K) → Q key → (xs : List A) → AllByRecursion (λ x. P (key_of x)) xs
      → items_with same key_of key xs ≡ []
  none_before key q [] p = refl
  none_before key q (x ∷ xs) p =
      ap (λ b. cond b (x ∷ items_with same key_of key xs) (items_with same key_of key xs))
      (not_same_back (key_of x) key p.0 q)
      ∙ none_before key q xs p.1

  abbrev group_at : List A → K → K × List A
  group_at items key = (key, items_with same key_of key items)

  front_groups : (xs ys : List A) → AllByRecursion (λ y. Q (key_of y)) ys → (keys : List K) → AllByRecursion P keys
      → map (group_at (xs ++ ys)) keys ≡ map (group_at xs) keys
  front_groups xs ys q [] p = refl
  front_groups xs ys q (key ∷ keys) p =
      let own = items_with same key_of key xs in
      let first : group_at (xs ++ ys) key ≡ group_at xs key =
      ap (λ (some : List A). (key, some))
      (filter-append (λ item. same key (key_of item)) xs ys
      ∙ ap (λ rest. own ++ rest) (none_behind key p.0 ys q) ∙ append-nil own) in
      let rest = front_groups xs ys q keys p.1 in
      λ i. first i ∷ rest i

  back_groups : (xs ys : List A) → AllByRecursion (λ x. P (key_of x)) xs → (keys : List K) → AllByRecursion Q keys
      → map (group_at (xs ++ ys)) keys ≡ map (group_at ys) keys
  back_groups xs ys p [] q = refl
  back_groups xs ys p (key ∷ keys) q =
      let own = items_with same key_of key ys in
      let first : group_at (xs ++ ys) key ≡ group_at ys key =
      ap (λ (some : List A). (key, some))
      (filter-append (λ item. same key (key_of item)) xs ys
      ∙ ap (λ some. some ++ own) (none_before key q.0 xs p)) in
      let rest = back_groups xs ys p keys q.1 in
      λ i. first i ∷ rest i

  -- the groups of both lists are those of the one and then those of the other
  pub items_by_key-apart : (xs ys : List A) → AllByRecursion (λ x. P (key_of x)) xs
      → AllByRecursion (λ y. Q (key_of y)) ys
      → items_by_key same key_of (xs ++ ys) ≡ items_by_key same key_of xs ++ items_by_key same key_of ys
  items_by_key-apart xs ys p q =
      let left = front_groups xs ys q (keys_of same key_of xs) (all_keys same decides key_of P xs p) in
      let right = back_groups xs ys p (keys_of same key_of ys) (all_keys same decides key_of Q ys q) in
      ap (map (group_at (xs ++ ys))) (keys_of-apart xs ys p q)
      ∙ map-append (group_at (xs ++ ys)) (keys_of same key_of xs) (keys_of same key_of ys)
      ∙ (λ i. left i ++ right i)
