use Rattle.std.proofs.Common.{◌≡◌, ◌∙◌, arith, false, length, rules, sym, leb}
use Rattle.std.proofs.lemmas.Iterator.{YieldsList-from_slice, YieldsList-from_zip}
use Rattle.std.proofs.lemmas.Iterator.Search.{all_from_yields_List}
use Rattle.std.proofs.lemmas.Bool.Decides.{nat_tests}
use borrow.Author.Tests.{tests}
use Rattle.mon_value.specs.declared.schemas.Field.{Field}
use Rattle.mon_value.specs.declared.values.FieldValue.{FieldValue}
use Rattle.mon_topo.specs.Faults.{is_of_type}
use Rattle.mon_topo.proofs.LeadingLemmas.{are_leading-long, are_leading-zip}
use Rattle.mon_topo.proofs.bounds.are_leading.Goals as goal

-- each pair of a field and its value is tested
pub returns-then-values-fields : goal.returns-then-values-fields
returns-then-values-fields c =
    let fields = c.args.fields.now in
    let values = c.args.values.now in
    let pairs = YieldsList-from_zip (YieldsList-from_slice {s = c.zip.result.a} fields cc)
    (YieldsList-from_slice {s = c.zip.result.b} values cc) in
    let all = all_from_yields_List (λ (pair : Field × FieldValue). is_of_type pair.0.of pair.1) c.all.new.self
    _ c.all.result c.all.ensures.ran pairs (λ x b q k. search (rules, tests)) in
    record { leading = all ∙ are_leading-zip fields values c.if-values-fields.true }

-- there are more values than fields
pub returns-else-values-fields : goal.returns-else-values-fields
returns-else-values-fields c =
    let fields = c.args.fields.now in
    let values = c.args.values.now in
    let long : leb (length values) (length fields) ≡ false = grind (arith, nat_tests) in
    record { leading = long ∙ sym (are_leading-long fields values (omega (arith, c.if-values-fields.false))) }
