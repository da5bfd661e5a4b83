use Rattle.std.proofs.Common.{◌≡◌, ◌∙◌, ◌+◌, ◌&&◌, Some, true, false, drop, arith, sym, ap, option_map}
use Rattle.csv.specs.Records.{field_at, fields_of}
use Rattle.mon_points.specs.Keys.{spells_field, spells_fields}
use Rattle.mon_points.proofs.FieldsReadLemmas.{field_at-some, some_from_map}
use Rattle.mon_points.proofs.SpellsKeyLemmas.{spells_fields-more, spells_fields-none, spells_fields-unlike}
use Rattle.mon_points.proofs.keys.spells_fields.Goals as goal

pub returns-then-fields-values : goal.returns-then-fields-values
returns-then-fields-values c = record {
  spelled = sym (spells_fields-unlike c.args.fields.now _ c.args.values.now (λ e. absurd (omega (arith, e))));
}

pub unwrap-cell-requires : goal.unwrap-cell-requires
unwrap-cell-requires c =
    let there = field_at-some (fields_of c.args.cells.now) (c.args.place + c.loop-i.i) (omega arith) in
    some_from_map (λ s. s.now) c.get.result _ (c.get.ensures.value ∙ there)

-- a cell that doesn't spell its value
pub returns-then-not-spells_field : goal.returns-then-not-spells_field
returns-then-not-spells_field c =
    let cells = fields_of c.args.cells.now in
    let here : field_at cells (c.args.place + c.loop-i.i) ≡ Some c.unwrap-cell.result.now =
    sym c.get.ensures.value ∙ ap (λ o. option_map (λ s. s.now) o) c.unwrap-cell.ensures in
    let more = spells_fields-more c.args.place c.loop-i.i c.args.fields.now cells c.args.values.now
    c.index-fields-i.result c.unwrap-cell.result.now c.index-values-i.result (omega arith) (omega arith)
    c.index-fields-i.is c.index-values-i.is here in
    let bad : spells_field c.index-fields-i.result.of c.unwrap-cell.result.now c.index-values-i.result ≡ false = cc in
    record {
      spelled = sym (c.loop-i.invariant
          ∙ (more ∙ ap (λ b. b && spells_fields (drop (c.loop-i.i + 1) c.args.fields.now)
          (drop (c.args.place + (c.loop-i.i + 1)) cells) (drop (c.loop-i.i + 1) c.args.values.now)) bad));
    }

-- one more cell
pub loop-i-preserved : goal.loop-i-preserved
loop-i-preserved c =
    let cells = fields_of c.args.cells.now in
    let here : field_at cells (c.args.place + c.loop-i.i) ≡ Some c.unwrap-cell.result.now =
    sym c.get.ensures.value ∙ ap (λ o. option_map (λ s. s.now) o) c.unwrap-cell.ensures in
    let more = spells_fields-more c.args.place c.loop-i.i c.args.fields.now cells c.args.values.now
    c.index-fields-i.result c.unwrap-cell.result.now c.index-values-i.result (omega arith) (omega arith)
    c.index-fields-i.is c.index-values-i.is here in
    let good : spells_field c.index-fields-i.result.of c.unwrap-cell.result.now c.index-values-i.result ≡ true = cc in
    c.loop-i.invariant ∙ (more ∙ ap (λ b. b && spells_fields (drop (c.loop-i.i + 1) c.args.fields.now)
    (drop (c.args.place + (c.loop-i.i + 1)) cells) (drop (c.loop-i.i + 1) c.args.values.now)) good)

pub returns : goal.returns
returns c = record {
  spelled = sym (c.loop-i.invariant ∙ spells_fields-none c.loop-i.i c.args.fields.now _ c.args.values.now (omega arith)
      (omega arith));
}
