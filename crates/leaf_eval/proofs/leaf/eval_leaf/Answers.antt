use Rattle.std.proofs.Common.{◌≡◌, ◌∙◌, ℤ, Bor, ap, map, subst, to_z, of_z, w64, rules}
use Rattle.mon_series.specs.SlotViews.{SlotView}
use Rattle.typed_trees.specs.Nodes.{typed_tree}
use Rattle.mon_meaning.specs.LeafAnswers.{IsLeafAnswer}
use Rattle.leaf_eval.specs.Replicas.{view_of}
use Rattle.mon_meaning.specs.ReadableSlots.{slot_rows}
use Rattle.leaf_eval.proofs.AnswerOrders.{answer_in_order}
use Rattle.leaf_eval.proofs.ApartReplicas.{held_source, replicas_held, source_in_order, typed_source}
use Rattle.leaf_eval.proofs.leaf.eval_leaf.Goals as goal

pub answer_by_series-requires-clause-asked : goal.answer_by_series-requires-clause-asked
answer_by_series-requires-clause-asked c =
    let history = c.args.leaf.now.history in
    let formed = c.held_rows.ensures.formed in
    let slots = c.args.slots.now in
    let held : map (λ (rows : Bor SlotView). rows.now) c.as_slice-2.result.now ≡ map (view_of history) slots =
    ap (map (λ (rows : Bor SlotView). rows.now)) c.as_slice-2.ensures.value ∙ c.in_ok-held.ensures.rows
    ∙ ap (map (view_of history)) c.as_slice.ensures.items in
    record {
      source = held_source history formed slots;
      kept = replicas_held history formed c.as_slice-2.result.now slots c.requires.apart held;
      fits = typed_source history formed (typed_tree c.args.plan.now.typed) slots c.requires.typed;
    }

pub returns : goal.returns
returns c =
    let typed = typed_tree c.args.plan.now.typed in
    let history = c.args.leaf.now.history in
    let formed = c.held_rows.ensures.formed in
    let slots = c.args.slots.now in
    let source = held_source history formed slots in
    let limit = c.args.limit in
    let moment : to_z w64 (of_z w64 c.args.moment) ≡ c.args.moment = search rules in
    let held : map (λ (rows : Bor SlotView). rows.now) c.as_slice-2.result.now ≡ map (view_of history) slots =
    ap (map (λ (rows : Bor SlotView). rows.now)) c.as_slice-2.ensures.value ∙ c.in_ok-held.ensures.rows
    ∙ ap (map (view_of history)) c.as_slice.ensures.items in
    let answer = c.answer_by_series.ensures.answer source
    (replicas_held history formed c.as_slice-2.result.now slots c.requires.apart held) in
    record {
      answer = answer_in_order typed (slot_rows history slots) source c.args.moment limit
          (source_in_order history formed slots c.requires.apart) c.answer_by_series.result
          (subst (λ (m : ℤ). IsLeafAnswer typed source m limit c.answer_by_series.result) moment answer);
    }
