-- Leading fields, place by place.
use Rattle.std.proofs.lemmas.Bool.{and_right}
use Rattle.std.proofs.Common.{◌≡◌, ◌<◌, ◌≤◌, ◌&&◌, Bool, false, List, [], ◌∷◌, length, refl, ap, arith}
use Rattle.std.specs.List.{list_all, zip}
use Rattle.mon_value.specs.declared.schemas.Field.{Field}
use Rattle.mon_value.specs.declared.values.FieldValue.{FieldValue}
use Rattle.mon_topo.specs.Faults.{are_leading, is_of_type}

pub are_leading-zip : (fields : List Field) (values : List FieldValue) → length values ≤ length fields
    → list_all (λ (p : Field × FieldValue). is_of_type p.0.of p.1) (zip fields values) ≡ are_leading fields values
are_leading-zip [] [] le = refl
are_leading-zip [] (v ∷ values) le = absurd (omega arith)
are_leading-zip (f ∷ fields) [] le = refl
are_leading-zip (f ∷ fields) (v ∷ values) le =
    ap (λ (b : Bool). is_of_type f.of v && b) (are_leading-zip fields values (omega arith))

-- no more values than fields are leading
pub are_leading-long : (fields : List Field) (values : List FieldValue) → length fields < length values
    → are_leading fields values ≡ false
are_leading-long [] [] lt = absurd (omega arith)
are_leading-long [] (v ∷ values) lt = refl
are_leading-long (f ∷ fields) [] lt = absurd (omega arith)
are_leading-long (f ∷ fields) (v ∷ values) lt =
    and_right (is_of_type f.of v) (are_leading fields values) (are_leading-long fields values (omega arith))
