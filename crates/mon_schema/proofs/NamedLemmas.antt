-- A look-up by name finds what stands first under that name.
use Rattle.std.proofs.Common.{◌≡◌, ◌∙◌, ℕ, Bool, true, false, cond, List, [], ◌∷◌, Option, Some, Vec, map, refl, ap}
use Rattle.std.proofs.Common.{None, is_some, nat_eq}
use Rattle.std.specs.Cmp.Lexicographic.{pointwise}
use Rattle.std.specs.List.{AllByRecursion}
use Rattle.std.specs.Map.{lookup}
use Rattle.std.specs.declared.alloc.Global.{Global}
use Rattle.std.proofs.lemmas.Option.{same_Some}
use Rattle.mon_value.specs.Same.{same_text}
use Rattle.mon_value.proofs.SameLemmas.{same_text-Decides}
use Rattle.mon_schema.specs.Names.{first_named}

-- whether a key is the name
abbrev is_key : List ℕ → Vec ℕ Global → Bool
is_key name key = pointwise nat_eq name key.items

-- a map whose entries stand under their names is looked up by name
pub lookup-first_named : {S : Type 0} (name_of : S → List ℕ) (name : List ℕ) (entries : List (Vec ℕ Global × S))
    → AllByRecursion (λ entry. entry.0.items ≡ name_of entry.1) entries
    → lookup (is_key name) entries ≡ first_named name_of name (map (λ entry. entry.1) entries)
lookup-first_named name_of name [] named = refl
lookup-first_named name_of name (e ∷ es) named =
    ap (λ key. cond (pointwise nat_eq name key) (Some e.1) (lookup (is_key name) es)) named.0
    ∙ ap (cond (same_text name (name_of e.1)) (Some e.1)) (lookup-first_named name_of name es named.1)

first : {S : Type 0} (name_of : S → List ℕ) (same : Bool) (name : List ℕ) (schema found : S) (rest : Option S)
    → (same ≡ true → name ≡ name_of schema) → (rest ≡ Some found → name ≡ name_of found)
    → cond same (Some schema) rest ≡ Some found → name ≡ name_of found
first name_of true name schema found rest here later e = here refl ∙ ap name_of (same_Some schema found e)
first name_of false name schema found rest here later e = later e

-- what is found has the name
pub first_named-name : {S : Type 0} (name_of : S → List ℕ) (name : List ℕ) (schemas : List S) (found : S)
    → first_named name_of name schemas ≡ Some found → name ≡ name_of found
first_named-name name_of name [] found e = cc
first_named-name name_of name (schema ∷ schemas) found e =
    first name_of (same_text name (name_of schema)) name schema found (first_named name_of name schemas)
    (same_text-Decides name (name_of schema)).0 (first_named-name name_of name schemas found) e

-- what is no value is none
pub no_value : {A : Type 0} (o : Option A) → false ≡ is_some o → o ≡ None
no_value None none = refl
no_value (Some x) none = absurd cc
