-- Where a key's entry is, found by going over the entries one after another.
use Rattle.std.proofs.Common.{◌≡◌, ◌∙◌, ◌+◌, ◌<◌, ◌≤◌, ℕ, suc, Bool, true, false, cond, List, [], ◌∷◌, length, drop}
use Rattle.std.proofs.Common.{get_or, Option, Some, None, refl, sym, ap, arith}
use Rattle.std.specs.Option.{option_map}
use Rattle.std.proofs.lemmas.List.{drop_more, drop_all}
use Rattle.std_collections.specs.Layout.HashMap.{position}

shifted : (i : ℕ) (place : Option ℕ) →
    option_map (λ n. i + n) (option_map suc place) ≡ option_map (λ n. i + 1 + n) place
shifted i None = refl
shifted i (Some n) = ap Some (omega arith)

module _ {K V : Type 0} (test : K → Bool) where
  here : (entries rest : List (K × V)) (entry : K × V) → entries ≡ entry ∷ rest → test entry.0 ≡ true →
      position test entries ≡ Some 0
  unfolding position
  here entries rest entry is same =
      ap (position test) is ∙ ap (λ b. cond b (Some 0) (option_map suc (position test rest))) same

  behind : (entries rest : List (K × V)) (entry : K × V) → entries ≡ entry ∷ rest → test entry.0 ≡ false →
      position test entries ≡ option_map suc (position test rest)
  unfolding position
  behind entries rest entry is other =
      ap (position test) is ∙ ap (λ b. cond b (Some 0) (option_map suc (position test rest))) other

  nowhere : (entries : List (K × V)) → entries ≡ [] → position test entries ≡ None
  unfolding position
  nowhere entries is = ap (position test) is

  -- the entry at hand has the key, and none before it
  pub found : (entries : List (K × V)) (i : ℕ) (entry : K × V) → i < length entries →
      entry ≡ get_or entries i entry → test entry.0 ≡ true →
      position test entries ≡ option_map (λ n. i + n) (position test (drop i entries)) →
      position test entries ≡ Some i
  found entries i entry within is same before =
      before
      ∙ ap (option_map (λ n. i + n)) (here (drop i entries) (drop (i + 1) entries) entry
      (drop_more entries i entry within ∙ ap (λ e. e ∷ drop (i + 1) entries) (sym is)) same)
      ∙ ap Some (omega arith)

  -- the entry at hand has another key
  pub passed : (entries : List (K × V)) (i : ℕ) (entry : K × V) → i < length entries →
      entry ≡ get_or entries i entry → test entry.0 ≡ false →
      position test entries ≡ option_map (λ n. i + n) (position test (drop i entries)) →
      position test entries ≡ option_map (λ n. i + 1 + n) (position test (drop (i + 1) entries))
  passed entries i entry within is other before =
      before
      ∙ ap (option_map (λ n. i + n)) (behind (drop i entries) (drop (i + 1) entries) entry
      (drop_more entries i entry within ∙ ap (λ e. e ∷ drop (i + 1) entries) (sym is)) other)
      ∙ shifted i (position test (drop (i + 1) entries))

  -- no entry is left
  pub missing : (entries : List (K × V)) (i : ℕ) → length entries ≤ i →
      position test entries ≡ option_map (λ n. i + n) (position test (drop i entries)) → None ≡ position test entries
  missing entries i end before =
      sym (before ∙ ap (option_map (λ n. i + n)) (nowhere (drop i entries) (drop_all i entries end)))
