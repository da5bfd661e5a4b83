use Rattle.std.proofs.Common.{◌≡◌, ◌∙◌, ◌-◌, ◌+◌, arith, sym, ap, Some, None, Err, option_map}
use Rattle.csv.specs.Records.{field_at, fields_of}
use Rattle.mon_points.specs.Records.{field_of}
use Rattle.mon_points.specs.declared.faults.RowFault.TheVariants.{BadField}
use Rattle.mon_points.proofs.FieldsReadLemmas.{field_at-some, some_from_map, fields_more, fields_bad}
use Rattle.mon_points.proofs.keys.read_fields.Goals as goal

pub unwrap-cell-requires : goal.unwrap-cell-requires
unwrap-cell-requires c = some_from_map (λ s. s.now) c.get.result _ (c.get.ensures.value
    ∙ field_at-some (fields_of c.args.cells.now) (c.args.place + c.loop-i.i) (omega arith))

-- the first field whose cell is none of its type
pub returns-in_default : goal.returns-in_default
returns-in_default c =
    let here : field_at (fields_of c.args.cells.now) (c.args.place + c.loop-i.i) ≡ Some c.unwrap-cell.result.now =
    sym c.get.ensures.value ∙ ap (λ o. option_map (λ s. s.now) o) c.unwrap-cell.ensures in
    let none : field_of c.index-fields-i.result.of c.unwrap-cell.result.now ≡ None = sym c.in_ok-value.ensures.value
    ∙ c.in_default.is in
    let number : c.args.place - 4 + c.loop-i.i ≡ c.args.place - 5 + c.loop-i.i + 1 = omega arith in
    record {
      values = c.loop-i.invariant
          ∙ (fields_bad (c.args.place - 4) c.args.place c.loop-i.i c.args.fields.now (fields_of c.args.cells.now)
          c.loop-i.values c.index-fields-i.result c.unwrap-cell.result.now (omega arith) c.index-fields-i.is here
          none
          ∙ ap (λ n. Err (BadField n)) number);
    }

-- one more field
pub loop-i-preserved : goal.loop-i-preserved
loop-i-preserved c =
    let here : field_at (fields_of c.args.cells.now) (c.args.place + c.loop-i.i) ≡ Some c.unwrap-cell.result.now =
    sym c.get.ensures.value ∙ ap (λ o. option_map (λ s. s.now) o) c.unwrap-cell.ensures in
    let spelled : field_of c.index-fields-i.result.of c.unwrap-cell.result.now ≡ Some c.in-Some.value =
    sym c.in_ok-value.ensures.value ∙ c.in-Some.is in
    c.loop-i.invariant
    ∙ rw c.in_ok-push.ensures.added (fields_more (c.args.place - 4) c.args.place c.loop-i.i c.args.fields.now
    (fields_of c.args.cells.now) c.loop-i.values c.index-fields-i.result c.unwrap-cell.result.now c.in-Some.value
    (omega arith) c.index-fields-i.is here spelled)
