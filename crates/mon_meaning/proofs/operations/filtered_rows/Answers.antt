use Rattle.std.proofs.Common.{◌≡◌, ◌∙◌, filter, ap, rules}
use Rattle.std.proofs.lemmas.Fn.{filter_same}
use Rattle.std.proofs.lemmas.List.Elements.{filter_agree}
use Rattle.mon_expr.specs.BoundPredicates.{bound_truth}
use Rattle.mon_value.specs.declared.tables.TimedRow.{TimedRow}
use Rattle.mon_meaning.proofs.operations.filtered_rows.Goals as goal

pub returns : goal.returns
returns c =
    let kept : c.retain.new.self.items ≡ filter (λ (row : TimedRow). bound_truth c.in_ok-bound.bound row.cells)
    c.into_vec-kept.result.items =
    filter_same _ (λ (row : TimedRow). bound_truth c.in_ok-bound.bound row.cells) _ (λ x b f' k. search rules)
    _ _ c.retain.ensures.filtered in
    record {
      rows = c.from_vec.ensures.items ∙ kept
          ∙ ap (filter (λ (row : TimedRow). bound_truth c.in_ok-bound.bound row.cells)) c.into_vec-kept.ensures.items
          ∙ filter_agree _ _ (λ (row : TimedRow). c.in_ok-bound.ensures.bound row.cells) c.args.rows;
    }
