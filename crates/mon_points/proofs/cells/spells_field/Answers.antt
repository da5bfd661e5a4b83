use Rattle.std.proofs.Common.{◌≡◌, ◌∙◌, ℤ, Option, Some, None, option_map, refl, sym, ap, rules, to_z, of_z, w64, List}
use Rattle.std.proofs.Common.{ℕ}
use Rattle.std.specs.Option.{option_eq}
use Rattle.std.specs.Ordering.{int_eq}
use Rattle.mon_value.specs.declared.values.FieldType.TheVariants as type
use Rattle.mon_value.specs.declared.values.FieldValue.TheVariants as field
use Rattle.mon_points.specs.Records.{int_of}
use Rattle.mon_points.specs.Keys.{is_value, spells_field}
use Rattle.mon_points.proofs.OptionFilterLemmas.{field_of-int}
use Rattle.mon_points.proofs.cells.spells_field.Goals as goal

is_value-int : (o : Option ℤ) (z : ℤ) → is_value (option_map (λ z. field.Int z) o) (field.Int z) ≡ option_eq int_eq o
    (Some z)
is_value-int None z = refl
is_value-int (Some y) z = refl

spells_field-int : (text : List ℕ) (z : ℤ) → spells_field type.Int text (field.Int z) ≡ option_eq int_eq (int_of text)
    (Some z)
spells_field-int text z = ap (λ o. is_value o (field.Int z)) (field_of-int text) ∙ is_value-int (int_of text) z

pub returns-in-Int-Int : goal.returns-in-Int-Int
returns-in-Int-Int c =
    let number : to_z w64 (of_z w64 c.in-Int-Int.number) ≡ c.in-Int-Int.number = search rules in
    let same : c.eq.result ≡ option_eq int_eq (int_of c.args.cell.now) (Some c.in-Int-Int.number) =
    (rw number at c.eq.ensures) ∙ ap (λ o. option_eq int_eq o (Some c.in-Int-Int.number)) c.read_int.ensures.int in
    let known = same ∙ sym (spells_field-int c.args.cell.now c.in-Int-Int.number) in
    record { spelled = rw (c.in-Int-Int.is-0, c.in-Int-Int.is-1) known }
