-- A map of names, as contracts see it.
use Rattle.std.proofs.Common.{◌≡◌, ◌∙◌, ℕ, false, List, [], ◌∷◌, ◌++◌, Some, None, Vec, cond, is_some, refl}
use Rattle.std.proofs.Common.{ap, sym, nat_eq}
use Rattle.std.specs.Cmp.Lexicographic.{pointwise}
use Rattle.std.specs.List.{list_any}
use Rattle.std.specs.Map.{keys_of, lookup}
use Rattle.std.specs.declared.alloc.Global.{Global}
use Rattle.std.proofs.lemmas.Map.Made.{is_some-lookup}
use Rattle.indexmap.specs.IndexMap.{IndexMap, get, insert_entry}
use Rattle.indexmap.proofs.CallerLemmas.{insert_entry-new}
use Rattle.mon_value.proofs.PlainLemmas.{absent}
use Rattle.mon_schema.specs.Held.{named_entries}
use Rattle.mon_value.specs.Same.{same_text}

pub lookup-named_entries : (name : List ℕ) (es : List (Vec ℕ Global × ℕ))
    → lookup (λ (key : Vec ℕ Global). pointwise nat_eq name key.items) es ≡ lookup (same_text name) (named_entries es)
lookup-named_entries name [] = refl
lookup-named_entries name (e ∷ es) =
    ap (cond (pointwise nat_eq name e.0.items) (Some e.1)) (lookup-named_entries name es)

pub named_entries-append : (es fs : List (Vec ℕ Global × ℕ))
    → named_entries (es ++ fs) ≡ named_entries es ++ named_entries fs
named_entries-append [] fs = refl
named_entries-append (e ∷ es) fs = ap (λ more. (e.0.items, e.1) ∷ more) (named_entries-append es fs)

-- whether a name is there
pub list_any-keys : (name : List ℕ) (es : List (Vec ℕ Global × ℕ))
    → list_any (same_text name) (keys_of (named_entries es))
    ≡ is_some (lookup (λ (key : Vec ℕ Global). pointwise nat_eq name key.items) es)
list_any-keys name es =
    sym (is_some-lookup (same_text name) (named_entries es)) ∙ sym (ap is_some (lookup-named_entries name es))

-- a name that isn't there goes to the end
pub insert_name : {H : Type 0} (m : IndexMap (Vec ℕ Global) ℕ H) (name : List ℕ) (key : Vec ℕ Global) (n : ℕ)
    (new : List (Vec ℕ Global × ℕ))
    → key.items ≡ name → is_some (lookup (λ (k : Vec ℕ Global). pointwise nat_eq name k.items) m.entries) ≡ false
    → new ≡ insert_entry (λ (a b : Vec ℕ Global). pointwise nat_eq a.items b.items) m.entries key n
    → named_entries new ≡ named_entries m.entries ++ (name, n) ∷ []
insert_name m name key n new items none is =
    let free : get (λ (a b : Vec ℕ Global). pointwise nat_eq a.items b.items) m key ≡ None =
    ap (λ (text : List ℕ). lookup (λ (k : Vec ℕ Global). pointwise nat_eq text k.items) m.entries) items
    ∙ absent _ none in
    ap named_entries (is ∙ insert_entry-new _ m key n free)
    ∙ named_entries-append m.entries ((key, n) ∷ [])
    ∙ (λ i. named_entries m.entries ++ (items i, n) ∷ [])
