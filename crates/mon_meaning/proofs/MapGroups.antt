-- Groups of items as a map holds them: a look-up, and an item more.
use Rattle.std.proofs.Common.{◌≡◌, Bool, true, false, cond, Option, Some, None, List, [], ◌∷◌, ◌++◌, map, option_map}
use Rattle.std.proofs.Common.{refl, sym, ap, ◌∙◌}
use Rattle.std.specs.Map.{lookup, set_value}
use Rattle.mon_value.proofs.KeyedLemmas as keyed

module _ {K L V A : Type 0} (same : K → K → Bool) (alike : L → L → Bool) (seen : K → L)
    (agree : (a b : K) → same a b ≡ alike (seen a) (seen b)) (items : V → List A) where
  -- the groups that a map's entries are
  abbrev pub groups : List (K × V) → List (L × List A)
  groups entries = map (λ entry. (seen entry.0, items entry.1)) entries

  found_by : (b : Bool) (value : V) (rest : Option V) → option_map items (cond b (Some value) rest)
      ≡ cond b (Some (items value)) (option_map items rest)
  found_by true value rest = refl
  found_by false value rest = refl

  some_same : (x y : V) → Some x ≡ Some y → x ≡ y
  some_same x y e = cc

  none_some : (x : V) → None ≡ Some x → ⊥
  none_some x e = cc

  there_by : (key : K) (item : A) (old w : V) (entry : K × V) (entries : List (K × V)) (b : Bool) → same key entry.0 ≡ b
      → Some old ≡ cond b (Some entry.1) (lookup (same key) entries) → items w ≡ items old ++ item ∷ []
      → (Some old ≡ lookup (same key) entries → groups (set_value (same key) entries w) ≡ keyed.with_items alike
      (groups entries) (seen key, item ∷ []))
      → groups (cond b ((entry.0, w) ∷ entries) (entry ∷ set_value (same key) entries w))
      ≡ cond b ((seen entry.0, items entry.1 ++ item ∷ []) ∷ groups entries)
      ((seen entry.0, items entry.1) ∷ keyed.with_items alike (groups entries) (seen key, item ∷ []))
  there_by key item old w entry entries true e is made rest =
      let one : old ≡ entry.1 = some_same old entry.1 is in
      ap (λ own. (seen entry.0, own) ∷ groups entries) (made ∙ ap (λ value. items value ++ item ∷ []) one)
  there_by key item old w entry entries false e is made rest =
      ap (λ more. (seen entry.0, items entry.1) ∷ more) (rest is)

  -- an item more in a group that is there
  pub put_there : (key : K) (item : A) (old w : V) (entries : List (K × V)) → Some old ≡ lookup (same key) entries
      → items w ≡ items old ++ item ∷ []
      → groups (set_value (same key) entries w) ≡ keyed.with_items alike (groups entries) (seen key, item ∷ [])
  put_there key item old w [] is made = absurd (none_some old (sym is))
  put_there key item old w (entry ∷ entries) is made =
      there_by key item old w entry entries (same key entry.0) refl is made
      (λ left. put_there key item old w entries left made)
      ∙ ap (λ b. cond b ((seen entry.0, items entry.1 ++ item ∷ []) ∷ groups entries)
      ((seen entry.0, items entry.1) ∷ keyed.with_items alike (groups entries) (seen key, item ∷ [])))
      (agree key entry.0)

  new_by : (key : K) (item : A) (w : V) (entry : K × V) (entries : List (K × V)) (b : Bool) → same key entry.0 ≡ b
      → None ≡ cond b (Some entry.1) (lookup (same key) entries)
      → (None ≡ lookup (same key) entries → groups (entries ++ (key, w) ∷ []) ≡ keyed.with_items alike (groups entries)
      (seen key, item ∷ []))
      → groups (entry ∷ (entries ++ (key, w) ∷ []))
      ≡ cond b ((seen entry.0, items entry.1 ++ item ∷ []) ∷ groups entries)
      ((seen entry.0, items entry.1) ∷ keyed.with_items alike (groups entries) (seen key, item ∷ []))
  new_by key item w entry entries true e is rest = absurd (none_some entry.1 is)
  new_by key item w entry entries false e is rest = ap (λ more. (seen entry.0, items entry.1) ∷ more) (rest is)

  -- an item of a group that isn't there yet
  pub put_new : (key : K) (item : A) (w : V) (entries : List (K × V)) → None ≡ lookup (same key) entries → items w
      ≡ item ∷ []
      → groups (entries ++ (key, w) ∷ []) ≡ keyed.with_items alike (groups entries) (seen key, item ∷ [])
  put_new key item w [] is made = ap (λ own. (seen key, own) ∷ []) made
  put_new key item w (entry ∷ entries) is made =
      new_by key item w entry entries (same key entry.0) refl is (λ left. put_new key item w entries left made)
      ∙ ap (λ b. cond b ((seen entry.0, items entry.1 ++ item ∷ []) ∷ groups entries)
      ((seen entry.0, items entry.1) ∷ keyed.with_items alike (groups entries) (seen key, item ∷ [])))
      (agree key entry.0)
