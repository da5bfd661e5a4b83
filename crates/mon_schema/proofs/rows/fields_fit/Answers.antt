use Rattle.std.proofs.Common.{◌∙◌, rules}
use Rattle.std.proofs.lemmas.Iterator.{YieldsList-from_slice, YieldsList-from_zip}
use Rattle.std.proofs.lemmas.Iterator.Search.{all_from_yields_List}
use borrow.Author.Tests.{tests}
use Rattle.mon_value.specs.declared.schemas.Field.{Field}
use Rattle.mon_value.specs.declared.values.FieldValue.{FieldValue}
use Rattle.mon_schema.specs.Fits.{field_fits}
use Rattle.mon_schema.proofs.ZipLemmas.{list_all-zip}
use Rattle.mon_schema.proofs.rows.fields_fit.Goals as goal

-- each pair of a field and its value is tested
pub returns-then-fields-values : goal.returns-then-fields-values
returns-then-fields-values c =
    let fields = c.args.fields.now in
    let values = c.args.values.now in
    let test = λ (field : Field) (value : FieldValue). field_fits field.of value in
    let pairs = YieldsList-from_zip (YieldsList-from_slice {s = c.zip.result.a} fields cc)
    (YieldsList-from_slice {s = c.zip.result.b} values cc) in
    let all = all_from_yields_List (λ (pair : Field × FieldValue). test pair.0 pair.1) c.all.new.self _ c.all.result
    c.all.ensures.ran pairs (λ x b q k. search (rules, tests)) in
    record { fit = all ∙ list_all-zip test fields values c.if-fields-values.true }
