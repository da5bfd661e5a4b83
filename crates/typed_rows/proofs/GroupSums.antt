-- Sums over the groups of a list: each item is in one group at most.
use Rattle.std.proofs.Common.{◌≡◌, ◌∙◌, ◌≤◌, ℕ, ◌+◌, Bool, true, false, not, cond, Decides, List, [], ◌∷◌, map, refl}
use Rattle.std.proofs.Common.{ap, sym, arith}
use Rattle.std.specs.List.{AllByRecursion, filter, sum_by}
use Rattle.std.proofs.lemmas.Bool.{false_from_ne_true}
use Rattle.std.proofs.lemmas.List.Sums.{sum_by-cons}
use Rattle.mon_value.specs.Same.{items_by_key, items_with, keys_of}

module _ {K A : Type 0} (same : K → K → Bool) (decides : (a b : K) → Decides (same a b) (a ≡ b)) (key_of : A → K)
  where
    -- no key stands twice
    abbrev pub IsApart : List K → Type 0
    IsApart [] = Unit {0}
    IsApart (key ∷ keys) = AllByRecursion (λ other. same key other ≡ false) keys × IsApart keys

    -- what a key has of a number that belongs to another
    abbrev share : K → ℕ → K → ℕ
    share own n key = cond (same key own) n 0

    none_by : (b : Bool) (n rest : ℕ) → b ≡ false → rest ≡ 0 → cond b n 0 + rest ≡ 0
    none_by true n rest other none = absurd cc
    none_by false n rest other none = omega (arith, none)

    -- keys other than the own have nothing
    others_none : (own : K) (n : ℕ) (keys : List K) → AllByRecursion (λ other. same other own ≡ false) keys
        → sum_by (share own n) keys ≡ 0
    others_none own n [] other = refl
    others_none own n (key ∷ keys) other =
        sum_by-cons (share own n) key keys
        ∙ none_by (same key own) n (sum_by (share own n) keys) other.0 (others_none own n keys other.1)

    turned : (own : K) (key : K) → same key own ≡ true → (keys : List K)
        → AllByRecursion (λ other. same key other ≡ false) keys
        → AllByRecursion (λ other. same other own ≡ false) keys
    turned own key e [] apart = tt
    turned own key e (other ∷ keys) apart = (
      false_from_ne_true (same other own)
          (λ f. let here : key ≡ own = (decides key own).0 e in
          let there : other ≡ own = (decides other own).0 f in
          let both : same key other ≡ true = (decides key other).1 (here ∙ sym there) in cc),
      turned own key e keys apart.1,
    )

    once_by : (b : Bool) (n rest : ℕ) → (b ≡ true → rest ≡ 0) → rest ≤ n → cond b n 0 + rest ≤ n
    once_by true n rest none within = omega (arith, none refl)
    once_by false n rest none within = omega (arith, within)

    -- a number that belongs to one key is had once at most
    pub had_once : (own : K) (n : ℕ) (keys : List K) → IsApart keys → sum_by (share own n) keys ≤ n
    had_once own n [] apart = omega arith
    had_once own n (key ∷ keys) apart =
        rw (sum_by-cons (share own n) key keys)
        (once_by (same key own) n (sum_by (share own n) keys)
        (λ e. others_none own n keys (turned own key e keys apart.0)) (had_once own n keys apart.1))

    -- the sum over the items of a key
    abbrev pub key_sum : (A → ℕ) → List A → K → ℕ
    key_sum f items key = sum_by f (items_with same key_of key items)

    with_item_by : (f : A → ℕ) (b : Bool) (x : A) (items : List A)
        → sum_by f (cond b (x ∷ items) items) ≡ cond b (f x) 0 + sum_by f items
    with_item_by f true x items = sum_by-cons f x items
    with_item_by f false x items = omega arith

    key_sum-cons : (f : A → ℕ) (x : A) (items : List A) (key : K)
        → key_sum f (x ∷ items) key ≡ share (key_of x) (f x) key + key_sum f items key
    key_sum-cons f x items key =
        with_item_by f (same key (key_of x)) x (items_with same key_of key items)

    swap_sums : (a b c d r s : ℕ) → r ≡ a + c → s ≡ b + d → r + s ≡ (a + b) + (c + d)
    swap_sums a b c d r s e f = omega (arith, e, f)

    -- an item more gives its share to the keys
    key_sums-cons : (f : A → ℕ) (x : A) (items : List A) (keys : List K)
        → sum_by (key_sum f (x ∷ items)) keys ≡ sum_by (share (key_of x) (f x)) keys + sum_by (key_sum f items) keys
    key_sums-cons f x items [] = refl
    key_sums-cons f x items (key ∷ keys) =
        let own = share (key_of x) (f x) in
        sum_by-cons (key_sum f (x ∷ items)) key keys
        ∙ swap_sums (own key) (sum_by own keys) (key_sum f items key) (sum_by (key_sum f items) keys) _ _
        (key_sum-cons f x items key) (key_sums-cons f x items keys)
        ∙ sym (ap (λ n. n + sum_by (key_sum f items) (key ∷ keys)) (sum_by-cons own key keys)
        ∙ ap (λ n. (own key + sum_by own keys) + n) (sum_by-cons (key_sum f items) key keys))

    none_left : (f : A → ℕ) (keys : List K) → sum_by (key_sum f []) keys ≡ 0
    none_left f [] = refl
    none_left f (key ∷ keys) = sum_by-cons (key_sum f []) key keys ∙ omega (arith, none_left f keys)

    -- the sums of apart keys are within the sum of all items
    pub key_sums_within : (f : A → ℕ) (items : List A) (keys : List K) → IsApart keys
        → sum_by (key_sum f items) keys ≤ sum_by f items
    key_sums_within f [] keys apart = rw (none_left f keys) (omega arith)
    key_sums_within f (x ∷ items) keys apart =
        rw (key_sums-cons f x items keys)
        (rw (sum_by-cons f x items)
        (omega (arith, had_once (key_of x) (f x) keys apart, key_sums_within f items keys apart)))

    kept_by : (P : K → Type 0) (b : Bool) (key : K) (keys : List K) → P key → AllByRecursion P keys
        → AllByRecursion P (cond b (key ∷ keys) keys)
    kept_by P true key keys h all = (h, all)
    kept_by P false key keys h all = all

    all_kept : (P : K → Type 0) (p : K → Bool) (keys : List K) → AllByRecursion P keys
        → AllByRecursion P (filter p keys)
    all_kept P p [] all = tt
    all_kept P p (key ∷ keys) all = kept_by P (p key) key (filter p keys) all.0 (all_kept P p keys all.1)

    apart_by : (p : K → Bool) (b : Bool) (key : K) (keys : List K)
        → AllByRecursion (λ other. same key other ≡ false) keys → IsApart keys → IsApart (cond b (key ∷ keys) keys)
    apart_by p true key keys other apart = (other, apart)
    apart_by p false key keys other apart = apart

    apart_kept : (p : K → Bool) (keys : List K) → IsApart keys → IsApart (filter p keys)
    apart_kept p [] apart = tt
    apart_kept p (key ∷ keys) apart =
        apart_by p (p key) key (filter p keys) (all_kept (λ other. same key other ≡ false) p keys apart.0)
        (apart_kept p keys apart.1)

    other_by : (b c : Bool) (key other : K) (keys : List K) → same key other ≡ c → b ≡ not c
        → AllByRecursion (λ k. same key k ≡ false) keys
        → AllByRecursion (λ k. same key k ≡ false) (cond b (other ∷ keys) keys)
    other_by true true key other keys e f all = absurd cc
    other_by true false key other keys e f all = (e, all)
    other_by false c key other keys e f all = all

    others_apart : (key : K) (keys : List K)
        → AllByRecursion (λ k. same key k ≡ false) (filter (λ k. not (same key k)) keys)
    others_apart key [] = tt
    others_apart key (other ∷ keys) =
        other_by (not (same key other)) (same key other) key other (filter (λ k. not (same key k)) keys) refl refl
        (others_apart key keys)

    -- the keys that occur are apart
    pub keys_apart : (items : List A) → IsApart (keys_of same key_of items)
    keys_apart [] = tt
    keys_apart (item ∷ items) = (
      others_apart (key_of item) (keys_of same key_of items),
      apart_kept (λ k. not (same (key_of item) k)) (keys_of same key_of items) (keys_apart items),
    )

    pairs : (items : List A) (g : K × List A → ℕ) (keys : List K)
        → sum_by g (map (λ key. (key, items_with same key_of key items)) keys)
        ≡ sum_by (λ key. g (key, items_with same key_of key items)) keys
    pairs items g [] = refl
    pairs items g (key ∷ keys) =
        sum_by-cons g (key, items_with same key_of key items) (map (λ k. (k, items_with same key_of k items)) keys)
        ∙ ap (λ n. g (key, items_with same key_of key items) + n) (pairs items g keys)
        ∙ sym (sum_by-cons (λ k. g (k, items_with same key_of k items)) key keys)

    -- the sums of all groups are within the sum of all items
    pub group_sums_within : (f : A → ℕ) (items : List A)
        → sum_by (λ (group : K × List A). sum_by f group.1) (items_by_key same key_of items) ≤ sum_by f items
    group_sums_within f items =
        rw (pairs items (λ group. sum_by f group.1) (keys_of same key_of items))
        (key_sums_within f items (keys_of same key_of items) (keys_apart items))
