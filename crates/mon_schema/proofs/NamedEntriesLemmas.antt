-- Entries whose names are alike have the same schemas, and an entry more goes to the end.
use Rattle.std.proofs.Common.{◌≡◌, ◌∙◌, ℕ, Bool, true, false, cond, List, [], ◌∷◌, ◌++◌, Some, None, Vec, map, refl}
use Rattle.std.proofs.Common.{sym, ap, subst, nat_eq, append_assoc}
use Rattle.std.specs.Cmp.Lexicographic.{pointwise}
use Rattle.std.specs.List.{AllByRecursion, IsDistinct}
use Rattle.std.specs.Map.{keys_of, lookup}
use Rattle.std.specs.declared.alloc.Global.{Global}
use Rattle.indexmap.specs.IndexMap.{IndexMap, get, insert_entry}
use Rattle.indexmap.proofs.CallerLemmas.{insert_entry-new}
use Rattle.mon_value.proofs.SameLemmas.{same_text-Decides}
use Rattle.mon_value.specs.Same.{same_text}
use Rattle.mon_schema.specs.Held.{named_entries}

-- whether two keys of a map are one name
abbrev pub same_key : Vec ℕ Global → Vec ℕ Global → Bool
same_key a b = pointwise nat_eq a.items b.items

apart_back : (a b : List ℕ) (c : Bool) → same_text b a ≡ c → same_text a b ≡ false → c ≡ false
apart_back a b true same apart =
    let both : same_text a b ≡ true = (same_text-Decides a b).1 (sym ((same_text-Decides b a).0 same)) in
    absurd cc
apart_back a b false same apart = refl

-- an entry of a map, and what contracts see of it
abbrev Entry : Type 0 → Type 0
Entry S = Vec ℕ Global × S

abbrev Named : Type 0 → Type 0
Named S = List ℕ × S

module _ {S : Type 0} where
  -- ---- what is the same of entries that are alike

  schemas_of_named : (es : List (Entry S)) → map (λ (e : Named S). e.1) (named_entries es) ≡ map (λ (e : Entry S). e.1)
      es
  schemas_of_named [] = refl
  schemas_of_named (e ∷ es) = ap (λ more. e.1 ∷ more) (schemas_of_named es)

  pub schemas-named_entries : (es fs : List (Entry S)) → named_entries es ≡ named_entries fs
      → map (λ (e : Entry S). e.1) es ≡ map (λ (e : Entry S). e.1) fs
  schemas-named_entries es fs alike =
      sym (schemas_of_named es) ∙ ap (map (λ (e : Named S). e.1)) alike ∙ schemas_of_named fs

  module _ (name_of : S → List ℕ) where
    all_named : (es : List (Entry S)) → AllByRecursion (λ e. e.0.items ≡ name_of e.1) es
        → AllByRecursion (λ (e : Named S). e.0 ≡ name_of e.1) (named_entries es)
    all_named [] all = tt
    all_named (e ∷ es) all = (all.0, all_named es all.1)

    named_all : (es : List (Entry S)) → AllByRecursion (λ (e : Named S). e.0 ≡ name_of e.1) (named_entries es)
        → AllByRecursion (λ e. e.0.items ≡ name_of e.1) es
    named_all [] all = tt
    named_all (e ∷ es) all = (all.0, named_all es all.1)

    -- entries that are alike stand under their schemas' names alike
    pub names-named_entries : (es fs : List (Entry S)) → named_entries es ≡ named_entries fs
        → AllByRecursion (λ e. e.0.items ≡ name_of e.1) fs → AllByRecursion (λ e. e.0.items ≡ name_of e.1) es
    names-named_entries es fs alike all =
        named_all es (subst (AllByRecursion (λ (e : Named S). e.0 ≡ name_of e.1)) (sym alike) (all_named fs all))

  -- ---- an entry more

  named_entries-append : (es fs : List (Entry S)) → named_entries (es ++ fs) ≡ named_entries es ++ named_entries fs
  named_entries-append [] fs = refl
  named_entries-append (e ∷ es) fs = ap (λ more. (e.0.items, e.1) ∷ more) (named_entries-append es fs)

  all_apart : (name : List ℕ) (es : List (Entry S))
      → AllByRecursion (λ (key : Vec ℕ Global). pointwise nat_eq name key.items ≡ false) (keys_of es)
      → AllByRecursion (λ other. same_text name other ≡ false) (keys_of (named_entries es))
  all_apart name [] all = tt
  all_apart name (e ∷ es) all = (all.0, all_apart name es all.1)

  distinct_named : (es : List (Entry S))
      → IsDistinct same_key (keys_of es) → IsDistinct same_text (keys_of (named_entries es))
  unfolding IsDistinct
  distinct_named [] distinct = tt
  distinct_named (e ∷ es) distinct = (all_apart e.0.items es distinct.0, distinct_named es distinct.1)

  among : (P : List ℕ → Type 0) (done : List (Named S)) (e : Named S) (rest : List (Named S))
      → AllByRecursion P (keys_of (done ++ e ∷ rest)) → P e.0
  among P [] e rest all = all.0
  among P (d ∷ done) e rest all = among P done e rest all.1

  -- no entry so far has the name of a later one
  absent_so_far : (done : List (Named S)) (e : Named S) (rest : List (Named S))
      → IsDistinct same_text (keys_of (done ++ e ∷ rest)) → lookup (same_text e.0) done ≡ None
  unfolding IsDistinct
  absent_so_far [] e rest distinct = refl
  absent_so_far (d ∷ done) e rest distinct =
      let behind = among (λ other. same_text d.0 other ≡ false) done e rest distinct.0 in
      let apart = apart_back d.0 e.0 (same_text e.0 d.0) refl behind in
      ap (λ b. cond b (Some d.1) (lookup (same_text e.0) done)) apart ∙ absent_so_far done e rest distinct.1

  lookup_named : (key : Vec ℕ Global) (es : List (Entry S))
      → lookup (same_key key) es ≡ lookup (same_text key.items) (named_entries es)
  lookup_named key [] = refl
  lookup_named key (e ∷ es) = ap (cond (same_text key.items e.0.items) (Some e.1)) (lookup_named key es)

  module _ {H : Type 0} (m : IndexMap (Vec ℕ Global) S H) where
    -- nothing stands under the name of an entry that is still to be copied
    pub copy_absent : (key : Vec ℕ Global) (schema : S) (rest all : List (Entry S))
        → named_entries m.entries ++ named_entries ((key, schema) ∷ rest) ≡ named_entries all
        → IsDistinct same_key (keys_of all) → lookup (same_text key.items) (named_entries m.entries) ≡ None
    copy_absent key schema rest all whole distinct =
        let unlike : IsDistinct same_text (keys_of (named_entries m.entries ++ (key.items, schema) ∷ named_entries rest)) =
        subst (λ entries. IsDistinct same_text (keys_of entries)) (sym whole) (distinct_named all distinct) in
        absent_so_far (named_entries m.entries) (key.items, schema) (named_entries rest) unlike

    -- an entry under a name that is new goes to the end
    pub copy_put : (name : Vec ℕ Global) (text : List ℕ) (made schema : S) (new : List (Entry S))
        → name.items ≡ text → made ≡ schema → new ≡ insert_entry same_key m.entries name made
        → lookup (same_text text) (named_entries m.entries) ≡ None
        → named_entries new ≡ named_entries m.entries ++ (text, schema) ∷ []
    copy_put name text made schema new names mades is absent =
        let done = named_entries m.entries in
        let none : get same_key m name ≡ None =
        lookup_named name m.entries ∙ ap (λ text. lookup (same_text text) done) names ∙ absent in
        ap named_entries (is ∙ insert_entry-new same_key m name made none)
        ∙ named_entries-append m.entries ((name, made) ∷ [])
        ∙ (λ i. done ++ (names i, mades i) ∷ [])
