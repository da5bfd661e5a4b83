-- Items by key: how they grow by an item, and how those of two lists come together.
use Rattle.std.proofs.Common.{◌≡◌, ◌||◌, ◌<◌, length, Bool, true, false, not, cond, Decides, Some, None, List, [], ◌∷◌}
use Rattle.std.proofs.Common.{◌++◌, map, refl, sym, ap, subst, ◌∙◌, append-nil, append_assoc, arith}
use Rattle.std.specs.Prelude.{if◌then◌else◌}
use Rattle.std.specs.List.{filter, list_any}
use Rattle.std.specs.Map.{lookup}
use Rattle.std.proofs.lemmas.Bool.{false_from_ne_true}
use Rattle.std.proofs.lemmas.List.{map-append}
use Rattle.std.proofs.lemmas.List.Elements.{filter-append}
use Rattle.mon_value.specs.Same.{items_by_key, items_with, keys_of}

-- a key and its items
abbrev pub Group : Type 0 → Type 0 → Type 0
Group K A = K × List A

module _ {K A : Type 0} (same : K → K → Bool) where
  -- groups with a group more: its items go into the one that is there, or it goes to the end
  abbrev pub with_items : List (Group K A) → Group K A → List (Group K A)
  with_items [] new = new ∷ []
  with_items (group ∷ groups) new = if same new.0 group.0 then (group.0, group.1 ++ new.1) ∷ groups else group
      ∷ with_items groups new

  -- groups with all of the others
  abbrev pub merged_groups : List (Group K A) → List (Group K A) → List (Group K A)
  merged_groups groups [] = groups
  merged_groups groups (new ∷ more) = merged_groups (with_items groups new) more

module _ {K A : Type 0} (same : K → K → Bool) (decides : (a b : K) → Decides (same a b) (a ≡ b)) (key_of : A → K) where
  -- the group of one row
  abbrev pub own_group : A → (Group K A)
  own_group row = (key_of row, row ∷ [])

  -- ---- keys

  pub same_itself : (a : K) → same a a ≡ true
  same_itself a = (decides a a).1 refl

  pub same_back : (a b : K) → same a b ≡ false → same b a ≡ false
  same_back a b h = false_from_ne_true (same b a) (λ e. let back : same a b ≡ true = (decides a b).1
      (sym ((decides b a).0 e)) in cc)

  -- ---- rows of a group

  step : (b : Bool) (point : A) (xs ys more : List A) → xs ≡ ys ++ more → cond b (point ∷ xs) xs ≡ cond b (point ∷ ys)
      ys ++ more
  step true point xs ys more e = ap (λ some. point ∷ some) e
  step false point xs ys more e = e

  -- one more row goes to its group, and to no other
  pub items_with-push : (key : K) (rows : List A) (row : A) → items_with same key_of key (rows ++ row ∷ [])
      ≡ items_with same key_of key rows ++ cond (same key (key_of row)) (row ∷ []) []
  items_with-push key [] row = refl
  items_with-push key (first ∷ rows) row =
      step (same key (key_of first)) first (items_with same key_of key (rows ++ row ∷ []))
      (items_with same key_of key rows) (cond (same key (key_of row)) (row ∷ []) []) (items_with-push key rows row)

  -- ---- the groups that occur

  abbrev others : K → List K → List K
  others key keys = filter (λ other. not (same key other)) keys

  abbrev pub has : K → List K → Bool
  has key keys = list_any (same key) keys

  others_cons : (key x : K) (xs : List K) (b : Bool) → same key x ≡ b → others key (x ∷ xs) ≡ cond b (others key xs)
      (x ∷ others key xs)
  others_cons key x xs true e = ap (λ b. cond (not b) (x ∷ others key xs) (others key xs)) e
  others_cons key x xs false e = ap (λ b. cond (not b) (x ∷ others key xs) (others key xs)) e

  pub has_cons : (key x : K) (xs : List K) (b : Bool) → same key x ≡ b → has key (x ∷ xs) ≡ (b || has key xs)
  has_cons key x xs b e = ap (λ c. c || has key xs) e

  -- taking one key out leaves the others
  has-others_at : (k j x : K) (xs : List K) (b : Bool) → same j x ≡ b → same j k ≡ false → has k (others j xs)
      ≡ has k xs → has k (others j (x ∷ xs)) ≡ has k (x ∷ xs)
  has-others_at k j x xs true e h ih =
      let apart : same k x ≡ false = subst (λ (y : K). same k y ≡ false) ((decides j x).0 e) (same_back j k h) in
      ap (has k) (others_cons j x xs true e) ∙ ih ∙ sym (has_cons k x xs false apart)
  has-others_at k j x xs false e h ih = ap (has k) (others_cons j x xs false e) ∙ ap (λ c. same k x || c) ih

  pub has-others : (k j : K) (keys : List K) → same j k ≡ false → has k (others j keys) ≡ has k keys
  has-others k j [] h = refl
  has-others k j (x ∷ xs) h = has-others_at k j x xs (same j x) refl h (has-others k j xs h)

  alone : (b : Bool) (k : K) → cond (not b) (k ∷ []) [] ≡ cond b [] (k ∷ [])
  alone true k = refl
  alone false k = refl

  others-push : (j k : K) (keys : List K) (b : Bool) → same j k ≡ b → others j (keys ++ k ∷ []) ≡ others j keys
      ++ cond b [] (k ∷ [])
  others-push j k keys b e =
      filter-append (λ other. not (same j other)) keys (k ∷ []) ∙ ap (λ c. others j keys ++ c) (alone (same j k) k
      ∙ ap (λ c. cond c [] (k ∷ [])) e)

  -- a row of a group that is there adds none, and another adds its own at the end
  pushed_there : (f k : K) (keys : List K) (d : Bool) → same f k ≡ true → others f (cond d keys (keys ++ k ∷ []))
      ≡ others f keys
  pushed_there f k keys true e = refl
  pushed_there f k keys false e = others-push f k keys true e ∙ append-nil (others f keys)

  pushed_apart : (f k : K) (keys : List K) (b : Bool) → same f k ≡ false
      → (f ∷ others f (cond b keys (keys ++ k ∷ []))) ≡ cond b (f ∷ others f keys) ((f ∷ others f keys) ++ k ∷ [])
  pushed_apart f k keys true e = refl
  pushed_apart f k keys false e = ap (λ rest. f ∷ rest) (others-push f k keys false e)

  keys_push_at : (first : A) (rows : List A) (row : A) (b c : Bool) → same (key_of row) (key_of first) ≡ c
      → has (key_of row) (keys_of same key_of (first ∷ rows)) ≡ b
      → ((d : Bool) → has (key_of row) (keys_of same key_of rows) ≡ d → keys_of same key_of (rows ++ row ∷ [])
      ≡ cond d (keys_of same key_of rows) (keys_of same key_of rows ++ (key_of row) ∷ []))
      → keys_of same key_of ((first ∷ rows) ++ row ∷ []) ≡ cond b (keys_of same key_of (first ∷ rows))
      (keys_of same key_of (first ∷ rows) ++ (key_of row) ∷ [])
  keys_push_at first rows row b true alike there ih =
      let keys = keys_of same key_of rows in
      let d = has (key_of row) keys in
      let forward : same (key_of first) (key_of row) ≡ true = (decides (key_of first) (key_of row)).1
      (sym ((decides (key_of row) (key_of first)).0 alike)) in
      let is_there : b ≡ true = sym there ∙ has_cons (key_of row) (key_of first) (others (key_of first) keys) true
      alike in
      ap (λ rest. (key_of first) ∷ others (key_of first) rest) (ih d refl)
      ∙ ap (λ rest. (key_of first) ∷ rest) (pushed_there (key_of first) (key_of row) keys d forward)
      ∙ ap (λ c. cond c (keys_of same key_of (first ∷ rows)) (keys_of same key_of (first ∷ rows) ++ (key_of row) ∷ []))
      (sym is_there)
  keys_push_at first rows row b false alike there ih =
      let keys = keys_of same key_of rows in
      let apart = same_back (key_of row) (key_of first) alike in
      let inside : has (key_of row) keys ≡ b = sym (has-others (key_of row) (key_of first) keys apart)
      ∙ sym (has_cons (key_of row) (key_of first) (others (key_of first) keys) false alike) ∙ there in
      ap (λ rest. (key_of first) ∷ others (key_of first) rest) (ih b inside) ∙ pushed_apart (key_of first) (key_of row)
      keys b apart

  keys_of-push : (rows : List A) (row : A) (b : Bool) → has (key_of row) (keys_of same key_of rows) ≡ b
      → keys_of same key_of (rows ++ row ∷ []) ≡ cond b (keys_of same key_of rows) (keys_of same key_of rows
      ++ (key_of row) ∷ [])
  keys_of-push [] row true there = absurd cc
  keys_of-push [] row false there = refl
  keys_of-push (first ∷ rows) row b there = keys_push_at first rows row b (same (key_of row) (key_of first)) refl there
      (keys_of-push rows row)

  -- ---- each group stands once

  abbrev pub Distinct : List K → Type 0
  Distinct [] = Unit {0}
  Distinct (x ∷ xs) = (has x xs ≡ false) × Distinct xs

  has-none_at : (k x : K) (xs : List K) (b : Bool) → same k x ≡ b → has k (others k xs) ≡ false
      → has k (others k (x ∷ xs)) ≡ false
  has-none_at k x xs true e ih = ap (has k) (others_cons k x xs true e) ∙ ih
  has-none_at k x xs false e ih = ap (has k) (others_cons k x xs false e) ∙ has_cons k x (others k xs) false e ∙ ih

  has-none : (k : K) (keys : List K) → has k (others k keys) ≡ false
  has-none k [] = refl
  has-none k (x ∷ xs) = has-none_at k x xs (same k x) refl (has-none k xs)

  pub or_false : (a b : Bool) → (a || b) ≡ false → (a ≡ false) × (b ≡ false)
  or_false true b e = absurd cc
  or_false false b e = (refl, e)

  not_has_at : (k j x : K) (xs : List K) (b : Bool) → same j x ≡ b → has k (x ∷ xs) ≡ false
      → (has k xs ≡ false → has k (others j xs) ≡ false) → has k (others j (x ∷ xs)) ≡ false
  not_has_at k j x xs true e h ih = ap (has k) (others_cons j x xs true e) ∙ ih (or_false (same k x) (has k xs) h).1
  not_has_at k j x xs false e h ih =
      let parts = or_false (same k x) (has k xs) h in
      ap (has k) (others_cons j x xs false e) ∙ has_cons k x (others j xs) false parts.0 ∙ ih parts.1

  not_has : (k j : K) (keys : List K) → has k keys ≡ false → has k (others j keys) ≡ false
  not_has k j [] h = refl
  not_has k j (x ∷ xs) h = not_has_at k j x xs (same j x) refl h (not_has k j xs)

  distinct-others_at : (j x : K) (xs : List K) (b : Bool) → same j x ≡ b → Distinct (x ∷ xs)
      → (Distinct xs → Distinct (others j xs)) → Distinct (others j (x ∷ xs))
  distinct-others_at j x xs true e d ih = subst Distinct (sym (others_cons j x xs true e)) (ih d.1)
  distinct-others_at j x xs false e d ih = subst Distinct (sym (others_cons j x xs false e))
      (not_has x j xs d.0, ih d.1)

  distinct-others : (j : K) (keys : List K) → Distinct keys → Distinct (others j keys)
  distinct-others j [] d = tt
  distinct-others j (x ∷ xs) d = distinct-others_at j x xs (same j x) refl d (distinct-others j xs)

  pub keys_distinct : (rows : List A) → Distinct (keys_of same key_of rows)
  keys_distinct [] = tt
  keys_distinct (row ∷ rows) = (
    has-none (key_of row) (keys_of same key_of rows),
    distinct-others (key_of row) (keys_of same key_of rows)
        (keys_distinct rows),
  )

  -- ---- groups

  abbrev pub group_at : List A → K → (Group K A)
  group_at rows key = (key, items_with same key_of key rows)

  -- a row of another group leaves a group as it was
  group_apart : (rows : List A) (row : A) (x : K) → same (key_of row) x ≡ false → group_at (rows ++ row ∷ []) x
      ≡ group_at rows x
  group_apart rows row x h =
      ap (λ some. (x, some))
      (items_with-push x rows row ∙ ap (λ b. items_with same key_of x rows ++ cond b (row ∷ []) [])
      (same_back (key_of row) x h) ∙ append-nil (items_with same key_of x rows))

  groups_apart : (rows : List A) (row : A) (keys : List K) → has (key_of row) keys ≡ false
      → map (group_at (rows ++ row ∷ [])) keys ≡ map (group_at rows) keys
  groups_apart rows row [] h = refl
  groups_apart rows row (x ∷ xs) h =
      let parts = or_false (same (key_of row) x) (has (key_of row) xs) h in
      let first = group_apart rows row x parts.0 in
      let rest = groups_apart rows row xs parts.1 in
      λ i. first i ∷ rest i

  with_items_cons : (new group : Group K A) (groups : List (Group K A)) (b : Bool) → same new.0 group.0 ≡ b
      → with_items same (group ∷ groups) new ≡ cond b ((group.0, group.1 ++ new.1) ∷ groups)
      (group ∷ with_items same groups new)
  with_items_cons new group groups b e = ap (λ c. cond c ((group.0, group.1 ++ new.1) ∷ groups)
      (group ∷ with_items same groups new)) e

  groups_there_at : (rows : List A) (row : A) (x : K) (xs : List K) (b : Bool) → same (key_of row) x ≡ b
      → Distinct (x ∷ xs) → has (key_of row) (x ∷ xs) ≡ true
      → (has (key_of row) xs ≡ true → map (group_at (rows ++ row ∷ [])) xs ≡ with_items same
      (map (group_at rows) xs) (own_group row)) → map (group_at (rows ++ row ∷ [])) (x ∷ xs) ≡ with_items same
      (map (group_at rows) (x ∷ xs)) (own_group row)
  groups_there_at rows row x xs true e d there ih =
      let alike : (key_of row) ≡ x = (decides (key_of row) x).0 e in
      let back : same x (key_of row) ≡ true = (decides x (key_of row)).1 (sym alike) in
      let gone : has (key_of row) xs ≡ false = subst (λ (k : K). has k xs ≡ false) (sym alike) d.0 in
      let first : group_at (rows ++ row ∷ []) x ≡ (x, items_with same key_of x rows ++ row ∷ []) =
      ap (λ some. (x, some)) (items_with-push x rows row ∙ ap (λ b. items_with same key_of x rows
      ++ cond b (row ∷ []) []) back) in
      let rest = groups_apart rows row xs gone in
      (λ i. first i ∷ rest i) ∙ sym (with_items_cons (own_group row) (group_at rows x) (map (group_at rows) xs) true e)
  groups_there_at rows row x xs false e d there ih =
      let first = group_apart rows row x e in
      let rest = ih (sym (has_cons (key_of row) x xs false e) ∙ there) in
      (λ i. first i ∷ rest i) ∙ sym (with_items_cons (own_group row) (group_at rows x) (map (group_at rows) xs) false e)

  groups_there : (rows : List A) (row : A) (keys : List K) → Distinct keys → has (key_of row) keys ≡ true
      → map (group_at (rows ++ row ∷ [])) keys ≡ with_items same (map (group_at rows) keys) (own_group row)
  groups_there rows row [] d there = absurd cc
  groups_there rows row (x ∷ xs) d there = groups_there_at rows row x xs (same (key_of row) x) refl d there
      (groups_there rows row xs d.1)

  -- a group that isn't there has no rows
  items_none_at : (key : K) (first : A) (rows : List A) → has key (keys_of same key_of (first ∷ rows)) ≡ false
      → (has key (keys_of same key_of rows) ≡ false → items_with same key_of key rows ≡ []) → items_with same key_of
      key (first ∷ rows) ≡ []
  items_none_at key first rows h ih =
      let keys = keys_of same key_of rows in
      let parts = or_false (same key (key_of first)) (has key (others (key_of first) keys)) h in
      ap (λ b. cond b (first ∷ items_with same key_of key rows) (items_with same key_of key rows)) parts.0
      ∙ ih (sym (has-others key (key_of first) keys (same_back key (key_of first) parts.0)) ∙ parts.1)

  pub items_none : (key : K) (rows : List A) → has key (keys_of same key_of rows) ≡ false → items_with same key_of key
      rows ≡ []
  items_none key [] h = refl
  items_none key (first ∷ rows) h = items_none_at key first rows h (items_none key rows)

  -- one more row goes into its group, or into one of its own at the end
  pushed_by : (rows : List A) (row : A) (b : Bool) → has (key_of row) (keys_of same key_of rows) ≡ b
      → items_by_key same key_of (rows ++ row ∷ []) ≡ cond b (with_items same (items_by_key same key_of rows)
      (own_group row)) (items_by_key same key_of rows ++ ((key_of row), row ∷ []) ∷ [])
  pushed_by rows row true there =
      ap (map (group_at (rows ++ row ∷ []))) (keys_of-push rows row true there) ∙ groups_there rows row
      (keys_of same key_of rows) (keys_distinct rows) there
  pushed_by rows row false there =
      let keys = keys_of same key_of rows in
      let own : group_at (rows ++ row ∷ []) (key_of row) ≡ ((key_of row), row ∷ []) =
      ap (λ some. ((key_of row), some))
      (items_with-push (key_of row) rows row
      ∙ ap (λ b. items_with same key_of (key_of row) rows ++ cond b (row ∷ []) []) (same_itself (key_of row))
      ∙ ap (λ some. some ++ row ∷ []) (items_none (key_of row) rows there)) in
      let before = groups_apart rows row keys there in
      ap (map (group_at (rows ++ row ∷ []))) (keys_of-push rows row false there)
      ∙ map-append (group_at (rows ++ row ∷ [])) keys ((key_of row) ∷ [])
      ∙ (λ i. before i ++ own i ∷ [])

  -- a group that isn't there goes to the end
  with_items_new : (new : Group K A) (groups : List (Group K A)) → has new.0 (map (λ (g : Group K A). g.0) groups)
      ≡ false → groups ++ new ∷ [] ≡ with_items same groups new
  with_items_new new [] h = refl
  with_items_new new (group ∷ groups) h =
      let parts = or_false (same new.0 group.0) (has new.0 (map (λ (g : Group K A). g.0) groups)) h in
      ap (λ rest. group ∷ rest) (with_items_new new groups parts.1)
      ∙ sym (with_items_cons new group groups false parts.0)

  pub keys_at : (rows : List A) (keys : List K) → map (λ (g : Group K A). g.0) (map (group_at rows) keys) ≡ keys
  keys_at rows [] = refl
  keys_at rows (key ∷ keys) = ap (λ rest. key ∷ rest) (keys_at rows keys)

  pushed : (rows : List A) (row : A) (b : Bool) → has (key_of row) (keys_of same key_of rows) ≡ b
      → cond b (with_items same (items_by_key same key_of rows) (own_group row)) (items_by_key same key_of rows
      ++ own_group row ∷ []) ≡ with_items same (items_by_key same key_of rows) (own_group row)
  pushed rows row true there = refl
  pushed rows row false there =
      with_items_new (own_group row) (items_by_key same key_of rows)
      (ap (has (key_of row)) (keys_at rows (keys_of same key_of rows)) ∙ there)

  -- one more row goes into its group
  pub items_by_key-push : (rows : List A) (row : A) → items_by_key same key_of (rows ++ row ∷ []) ≡ with_items same
      (items_by_key same key_of rows) (own_group row)
  items_by_key-push rows row =
      let b = has (key_of row) (keys_of same key_of rows) in
      pushed_by rows row b refl ∙ pushed rows row b refl

  -- a group that occurs has a row
  some_at : (key : K) (first : A) (rows : List A) (b : Bool) → same key (key_of first) ≡ b
      → has key (keys_of same key_of (first ∷ rows)) ≡ true → (has key (keys_of same key_of rows) ≡ true
      → 0 < length (items_with same key_of key rows)) → 0 < length (items_with same key_of key (first ∷ rows))
  some_at key first rows true alike there ih =
      let one : items_with same key_of key (first ∷ rows) ≡ first ∷ items_with same key_of key rows =
      ap (λ b. cond b (first ∷ items_with same key_of key rows) (items_with same key_of key rows)) alike in
      rw one (omega arith)
  some_at key first rows false alike there ih =
      let none : items_with same key_of key (first ∷ rows) ≡ items_with same key_of key rows =
      ap (λ b. cond b (first ∷ items_with same key_of key rows) (items_with same key_of key rows)) alike in
      let rest = others (key_of first) (keys_of same key_of rows) in
      let left : has key rest ≡ true = sym (has_cons key (key_of first) rest false alike) ∙ there in
      rw none (ih (sym (has-others key (key_of first) (keys_of same key_of rows) (same_back key (key_of first) alike))
      ∙ left))

  pub items_some : (key : K) (rows : List A) → has key (keys_of same key_of rows) ≡ true
      → 0 < length (items_with same key_of key rows)
  items_some key [] there = absurd cc
  items_some key (first ∷ rows) there = some_at key first rows (same key (key_of first)) refl there
      (items_some key rows)

  -- what a look-up of a group gives: what its key gives, where it occurs
  look_in : {B : Type 0} (of : K → B) (key k : K) (keys : List K) (b c : Bool) → same key k ≡ c → has key (k ∷ keys) ≡ b
      → (has key keys ≡ b → lookup (same key) (map (λ (k : K). (k, of k)) keys) ≡ cond b (Some (of key)) None)
      → lookup (same key) (map (λ (k : K). (k, of k)) (k ∷ keys)) ≡ cond b (Some (of key)) None
  look_in of key k keys b true alike there ih =
      let is_there : b ≡ true = sym there ∙ has_cons key k keys true alike in
      ap (λ c. cond c (Some (of k)) (lookup (same key) (map (λ (k : K). (k, of k)) keys))) alike
      ∙ ap (λ (j : K). Some (of j)) (sym ((decides key k).0 alike))
      ∙ ap (λ c. cond c (Some (of key)) None) (sym is_there)
  look_in of key k keys b false alike there ih =
      ap (λ c. cond c (Some (of k)) (lookup (same key) (map (λ (k : K). (k, of k)) keys))) alike
      ∙ ih (sym (has_cons key k keys false alike) ∙ there)

  pub look_up : {B : Type 0} (of : K → B) (key : K) (keys : List K) (b : Bool) → has key keys ≡ b
      → lookup (same key) (map (λ (k : K). (k, of k)) keys) ≡ cond b (Some (of key)) None
  look_up of key [] true there = absurd cc
  look_up of key [] false there = refl
  look_up of key (k ∷ keys) b there = look_in of key k keys b (same key k) refl there
      (λ rest. look_up of key keys b rest)

  -- ---- groups put into groups

  abbrev keys : List (Group K A) → List K
  keys groups = map (λ (g : Group K A). g.0) groups

  abbrev there : K → List (Group K A) → Bool
  there key groups = has key (keys groups)

  -- two groups of one key go in one after the other, or as one
  twice_at : (h s group : Group K A) (groups : List (Group K A)) (b : Bool) → h.0 ≡ s.0 → same h.0 group.0 ≡ b
      → with_items same (with_items same groups h) s ≡ with_items same groups (h.0, h.1 ++ s.1)
      → with_items same (with_items same (group ∷ groups) h) s ≡ with_items same (group ∷ groups) (h.0, h.1 ++ s.1)
  twice_at h s group groups true alike e ih =
      let also : same s.0 group.0 ≡ true = subst (λ (k : K). same k group.0 ≡ true) alike e in
      ap (λ gs. with_items same gs s) (with_items_cons h group groups true e)
      ∙ with_items_cons s (group.0, group.1 ++ h.1) groups true also
      ∙ ap (λ rows. (group.0, rows) ∷ groups) (append_assoc group.1 h.1 s.1)
      ∙ sym (with_items_cons (h.0, h.1 ++ s.1) group groups true e)
  twice_at h s group groups false alike e ih =
      let also : same s.0 group.0 ≡ false = subst (λ (k : K). same k group.0 ≡ false) alike e in
      ap (λ gs. with_items same gs s) (with_items_cons h group groups false e)
      ∙ with_items_cons s group (with_items same groups h) false also
      ∙ ap (λ more. group ∷ more) ih
      ∙ sym (with_items_cons (h.0, h.1 ++ s.1) group groups false e)

  twice : (h s : Group K A) (groups : List (Group K A)) → h.0 ≡ s.0 → with_items same (with_items same groups h) s
      ≡ with_items same groups (h.0, h.1 ++ s.1)
  twice h s [] alike =
      let also : same s.0 h.0 ≡ true = (decides s.0 h.0).1 (sym alike) in
      with_items_cons s h [] true also
  twice h s (group ∷ groups) alike = twice_at h s group groups (same h.0 group.0) alike refl (twice h s groups alike)

  -- groups of two keys, of which one is there, go in in either order
  turned_at : (h s group : Group K A) (groups : List (Group K A)) (b c : Bool) → same s.0 h.0 ≡ false
      → same s.0 group.0 ≡ b → same h.0 group.0 ≡ c
      → there s.0 (group ∷ groups) ≡ true
      → (there s.0 groups ≡ true → with_items same (with_items same groups s) h ≡ with_items same
      (with_items same groups h) s)
      → with_items same (with_items same (group ∷ groups) s) h ≡ with_items same (with_items same (group ∷ groups) h) s
  turned_at h s group groups true true apart e f held ih =
      let one : s.0 ≡ group.0 = (decides s.0 group.0).0 e in
      let two : h.0 ≡ group.0 = (decides h.0 group.0).0 f in
      let alike : same s.0 h.0 ≡ true = (decides s.0 h.0).1 (one ∙ sym two) in
      absurd cc
  turned_at h s group groups true false apart e f held ih =
      ap (λ gs. with_items same gs h) (with_items_cons s group groups true e)
      ∙ with_items_cons h (group.0, group.1 ++ s.1) groups false f
      ∙ sym (ap (λ gs. with_items same gs s) (with_items_cons h group groups false f) ∙ with_items_cons s group
      (with_items same groups h) true e)
  turned_at h s group groups false true apart e f held ih =
      ap (λ gs. with_items same gs h) (with_items_cons s group groups false e)
      ∙ with_items_cons h group (with_items same groups s) true f
      ∙ sym (ap (λ gs. with_items same gs s) (with_items_cons h group groups true f) ∙ with_items_cons s
      (group.0, group.1 ++ h.1) groups false e)
  turned_at h s group groups false false apart e f held ih =
      let left : there s.0 groups ≡ true = sym (has_cons s.0 group.0 (keys groups) false e) ∙ held in
      ap (λ gs. with_items same gs h) (with_items_cons s group groups false e)
      ∙ with_items_cons h group (with_items same groups s) false f
      ∙ ap (λ more. group ∷ more) (ih left)
      ∙ sym (ap (λ gs. with_items same gs s) (with_items_cons h group groups false f) ∙ with_items_cons s group
      (with_items same groups h) false e)

  turned : (h s : Group K A) (groups : List (Group K A)) → same s.0 h.0 ≡ false → there s.0 groups ≡ true
      → with_items same (with_items same groups s) h ≡ with_items same (with_items same groups h) s
  turned h s [] apart held = absurd cc
  turned h s (group ∷ groups) apart held =
      turned_at h s group groups (same s.0 group.0) (same h.0 group.0) apart refl refl held
      (λ left. turned h s groups apart left)

  -- a group that is there stays there
  stays_at : (key : K) (new group : Group K A) (groups : List (Group K A)) (b c : Bool) → same new.0 group.0 ≡ b
      → same key group.0 ≡ c
      → (there key groups ≡ true → there key (with_items same groups new) ≡ true) → there key (group ∷ groups) ≡ true
      → there key (with_items same (group ∷ groups) new) ≡ true
  stays_at key new group groups true c e f ih held = ap (there key) (with_items_cons new group groups true e) ∙ held
  stays_at key new group groups false true e f ih held =
      ap (there key) (with_items_cons new group groups false e) ∙ has_cons key group.0
      (keys (with_items same groups new)) true f
  stays_at key new group groups false false e f ih held =
      ap (there key) (with_items_cons new group groups false e) ∙ has_cons key group.0
      (keys (with_items same groups new)) false f
      ∙ ih (sym (has_cons key group.0 (keys groups) false f) ∙ held)

  stays : (key : K) (new : Group K A) (groups : List (Group K A)) → there key groups ≡ true
      → there key (with_items same groups new) ≡ true
  stays key new [] held = absurd cc
  stays key new (group ∷ groups) held =
      stays_at key new group groups (same new.0 group.0) (same key group.0) refl refl (stays key new groups) held

  -- the group just put in is there
  is_in_at : (new group : Group K A) (groups : List (Group K A)) (b : Bool) → same new.0 group.0 ≡ b
      → there new.0 (with_items same groups new) ≡ true → there new.0 (with_items same (group ∷ groups) new) ≡ true
  is_in_at new group groups true e ih = ap (there new.0) (with_items_cons new group groups true e)
      ∙ has_cons new.0 group.0 (keys groups) true e
  is_in_at new group groups false e ih =
      ap (there new.0) (with_items_cons new group groups false e) ∙ has_cons new.0 group.0
      (keys (with_items same groups new)) false e ∙ ih

  is_in : (new : Group K A) (groups : List (Group K A)) → there new.0 (with_items same groups new) ≡ true
  is_in new [] = has_cons new.0 new.0 [] true (same_itself new.0)
  is_in new (group ∷ groups) = is_in_at new group groups (same new.0 group.0) refl (is_in new groups)

  -- a group that is there goes in before or after others that lack it
  before_others : (s : Group K A) (groups others : List (Group K A)) → there s.0 groups ≡ true → there s.0 others
      ≡ false → with_items same (merged_groups same groups others) s ≡ merged_groups same (with_items same groups s)
      others
  before_others s groups [] held lacks = refl
  before_others s groups (h ∷ others) held lacks =
      let parts = or_false (same s.0 h.0) (there s.0 others) lacks in
      before_others s (with_items same groups h) others (stays s.0 h groups held) parts.1
      ∙ ap (λ gs. merged_groups same gs others) (sym (turned h s groups parts.0 held))

  -- a group more among the others is a group more at the end
  one_more_at : (s h : Group K A) (groups others : List (Group K A)) (b : Bool) → same s.0 h.0 ≡ b
      → Distinct (keys (h ∷ others))
      → merged_groups same (with_items same groups h) (with_items same others s) ≡ with_items same
      (merged_groups same (with_items same groups h) others) s
      → merged_groups same groups (with_items same (h ∷ others) s) ≡ with_items same
      (merged_groups same groups (h ∷ others)) s
  one_more_at s h groups others true e distinct ih =
      let alike : h.0 ≡ s.0 = sym ((decides s.0 h.0).0 e) in
      let held : there s.0 (with_items same groups h) ≡ true = subst (λ (k : K). there k (with_items same groups h)
      ≡ true) alike (is_in h groups) in
      let lacks : there s.0 others ≡ false = subst (λ (k : K). there k others ≡ false) alike distinct.0 in
      ap (merged_groups same groups) (with_items_cons s h others true e)
      ∙ ap (λ gs. merged_groups same gs others) (sym (twice h s groups alike))
      ∙ sym (before_others s (with_items same groups h) others held lacks)
  one_more_at s h groups others false e distinct ih = ap (merged_groups same groups) (with_items_cons s h others false
      e) ∙ ih

  one_more : (s : Group K A) (groups others : List (Group K A)) → Distinct (keys others) → merged_groups same groups
      (with_items same others s) ≡ with_items same (merged_groups same groups others) s
  one_more s groups [] distinct = refl
  one_more s groups (h ∷ others) distinct =
      one_more_at s h groups others (same s.0 h.0) refl distinct (one_more s (with_items same groups h) others
      distinct.1)

  distinct_groups : (rows : List A) → Distinct (keys (items_by_key same key_of rows))
  distinct_groups rows = subst (Distinct) (sym (keys_at rows (keys_of same key_of rows))) (keys_distinct rows)

  -- the groups of two lists of rows are those of both
  merged_from : (xs some rest : List A) → merged_groups same (items_by_key same key_of xs)
      (items_by_key same key_of some) ≡ items_by_key same key_of (xs ++ some)
      → merged_groups same (items_by_key same key_of xs) (items_by_key same key_of (some ++ rest)) ≡ items_by_key same
      key_of (xs ++ (some ++ rest))
  merged_from xs some [] so_far =
      ap (λ rows. merged_groups same (items_by_key same key_of xs) (items_by_key same key_of rows)) (append-nil some)
      ∙ so_far ∙ ap (λ rows. items_by_key same key_of (xs ++ rows)) (sym (append-nil some))
  merged_from xs some (row ∷ rest) so_far =
      let groups = items_by_key same key_of xs in
      let next : some ++ row ∷ rest ≡ (some ++ row ∷ []) ++ rest = sym (append_assoc some (row ∷ []) rest) in
      let grown : merged_groups same groups (items_by_key same key_of (some ++ row ∷ [])) ≡ items_by_key same key_of
      (xs ++ (some ++ row ∷ [])) =
      ap (merged_groups same groups) (items_by_key-push some row)
      ∙ one_more (own_group row) groups (items_by_key same key_of some) (distinct_groups some)
      ∙ ap (λ gs. with_items same gs (own_group row)) so_far
      ∙ sym (items_by_key-push (xs ++ some) row)
      ∙ ap (items_by_key same key_of) (append_assoc xs some (row ∷ [])) in
      ap (λ rows. merged_groups same groups (items_by_key same key_of rows)) next ∙ merged_from xs (some ++ row ∷ [])
      rest grown ∙ ap (λ rows. items_by_key same key_of (xs ++ rows)) (sym next)

  pub merged_items_by_key : (xs ys : List A) → merged_groups same (items_by_key same key_of xs)
      (items_by_key same key_of ys) ≡ items_by_key same key_of (xs ++ ys)
  merged_items_by_key xs ys = merged_from xs [] ys (ap (items_by_key same key_of) (sym (append-nil xs)))
