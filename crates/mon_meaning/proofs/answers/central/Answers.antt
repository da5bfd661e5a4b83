use Rattle.std.proofs.Common.{◌≡◌, ◌∙◌, ℤ, List, sym, ap, subst, to_z, of_z, w64, rules}
use Rattle.mon_series.specs.SlotViews.{SlotView, all_kept}
use Rattle.mon_value.specs.declared.rows.Row.{Row}
use Rattle.typed_trees.specs.Nodes.{typed_tree}
use Rattle.typed_trees.specs.Soundness.{IsTyped}
use Rattle.mon_meaning.specs.Central.{IsAnswer}
use Rattle.mon_meaning.proofs.answers.central.Goals as goal

pub central_by_series-requires-clause-typed : goal.central_by_series-requires-clause-typed
central_by_series-requires-clause-typed c =
    subst (IsTyped (typed_tree c.args.typed.now)) (sym (ap (λ (slot : SlotView). slot.rows) c.in_ok-kept.ensures.rows ∙ c.as_slice.ensures.items))
    c.requires.typed

pub central_by_series-requires-clause-whole : goal.central_by_series-requires-clause-whole
central_by_series-requires-clause-whole c =
    c.in_ok-kept.ensures.rows ∙ ap (λ (slot : SlotView). all_kept slot.rows) (sym c.in_ok-kept.ensures.rows)

pub returns : goal.returns
returns c =
    let typed = typed_tree c.args.typed.now in
    let moment : to_z w64 (of_z w64 c.args.moment) ≡ c.args.moment = search rules in
    record {
      answer = subst (λ (m : ℤ). IsAnswer typed c.args.rows.now m c.args.limit c.central_by_series.result) moment
          (subst (λ (rows : List Row). IsAnswer typed rows (to_z w64 (of_z w64 c.args.moment)) c.args.limit
          c.central_by_series.result)
          (ap (λ (slot : SlotView). slot.rows) c.in_ok-kept.ensures.rows ∙ c.as_slice.ensures.items) c.central_by_series.ensures.answer);
    }
