use Rattle.std.proofs.Common.{◌≡◌, ◌∙◌, ◌+◌, Some, sym, ap, drop, length, arith}
use Rattle.std.proofs.lemmas.List.{length-drop}
use Rattle.csv.specs.Records.{fields_of}
use Rattle.mon_schema.specs.Names.{target_named, metric_named}
use Rattle.mon_points.proofs.FieldsReadLemmas.{row_read-row}
use Rattle.mon_points.proofs.records.read_fitting.Goals as goal

pub returns : goal.returns
returns c =
    let leading = c.args.leading.now in
    let held = c.args.schemas.now in
    let others = drop 5 (fields_of c.args.cells.now) in
    let target : target_named leading.schema.now held.targets ≡ Some c.in-Some.target.now =
    ap (λ n. target_named n held.targets) (sym c.as_bytes.ensures.value) ∙ sym c.in-Some.ensures.found in
    let metric : metric_named leading.metric.now held.metrics ≡ Some c.in-Some-metric.metric.now =
    ap (λ n. metric_named n held.metrics) (sym c.as_bytes-2.ensures.value) ∙ sym c.in-Some-metric.ensures.found in
    let target_fields = ap length c.as_slice.ensures.items in
    let metric_fields = ap length c.as_slice-2.ensures.items in
    let counted : length others ≡ length c.in-Some.target.now.fields + length c.in-Some-metric.metric.now.fields =
    omega (arith, length-drop 5 (fields_of c.args.cells.now)) in
    record {
      row = row_read-row held leading.schema.now leading.metric.now leading.start.now leading.end.now leading.value.now
          others
          c.in-Some.target.now c.in-Some-metric.metric.now c.in_ok-point.point c.in_ok-key.key target metric counted
          c.in_ok-point.ensures.point c.in_ok-key.ensures.key;
    }
