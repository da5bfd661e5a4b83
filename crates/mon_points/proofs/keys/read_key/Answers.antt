use Rattle.std.proofs.Common.{◌≡◌, ◌∙◌, ◌+◌, ◌-◌, List, ℕ, Ok, drop, length, sym, ap, arith}
use Rattle.std.proofs.lemmas.List.{drop-drop}
use Rattle.csv.specs.Records.{fields_of}
use Rattle.mon_value.specs.declared.schemas.Field.{Field}
use Rattle.mon_points.specs.Records.{fields_read}
use Rattle.mon_points.proofs.KeyReadLemmas.{key_is}
use Rattle.mon_points.proofs.keys.read_key.Goals as goal

pub returns : goal.returns
returns c =
    let target = c.args.target.now in
    let metric = c.args.metric.now in
    let cells = fields_of c.args.cells.now in
    let of_target = c.as_slice-of_target.result.now in
    let of_metric = c.as_slice-of_metric.result.now in
    let values = c.in_ok-target_fields.target_fields in
    let others = c.in_ok-metric_fields.metric_fields in
    let first : fields_read 1 target.fields (drop 5 cells) ≡ Ok values =
    ap (λ (fields : List Field). fields_read 1 fields (drop 5 cells)) (sym c.as_slice-of_target.ensures.items)
    ∙ c.in_ok-target_fields.ensures.values in
    let as_many : length of_target ≡ length target.fields = ap length c.as_slice-of_target.ensures.items in
    let number : length target.fields + 1 ≡ 5 + length of_target - 4 = omega (arith, as_many) in
    let behind : drop (length target.fields) (drop 5 cells) ≡ drop (5 + length of_target) cells =
    drop-drop (length target.fields) 5 cells ∙ ap (λ (n : ℕ). drop (5 + n) cells) (sym as_many) in
    let second : fields_read (length target.fields + 1) metric.fields (drop (length target.fields) (drop 5 cells))
    ≡ Ok others =
    ap (λ (n : ℕ). fields_read n metric.fields (drop (length target.fields) (drop 5 cells))) number
    ∙ ap (λ (rest : List (List ℕ)). fields_read (5 + length of_target - 4) metric.fields rest) behind
    ∙ ap (λ (fields : List Field). fields_read (5 + length of_target - 4) fields (drop (5 + length of_target) cells))
    (sym c.as_slice-of_metric.ensures.items)
    ∙ c.in_ok-metric_fields.ensures.values in
    record {
      key = key_is target metric (drop 5 cells) c.in_ok-copy.field-0 c.in_ok-copy-2.field-0 values others first second
          c.in_ok-copy.ensures.equal c.in_ok-copy-2.ensures.equal;
    }
