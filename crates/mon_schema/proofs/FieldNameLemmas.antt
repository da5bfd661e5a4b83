-- A test of names is a test of the fields that have them.
use Rattle.std.proofs.Common.{◌≡◌, ℕ, ◌||◌, List, [], ◌∷◌, refl, ap}
use Rattle.std.specs.List.{list_any}
use Rattle.mon_value.specs.Same.{same_text}
use Rattle.mon_value.specs.declared.schemas.Field.{Field}
use Rattle.mon_schema.specs.Faults.{names_of_fields}

pub list_any-names_of : (name : List ℕ) (fields : List Field)
    → list_any (same_text name) (names_of_fields fields) ≡ list_any (λ field. same_text name field.name) fields
list_any-names_of name [] = refl
list_any-names_of name (field ∷ fields) = ap (λ b. same_text name field.name || b) (list_any-names_of name fields)

pub ruleset field_names = (list_any-names_of)
