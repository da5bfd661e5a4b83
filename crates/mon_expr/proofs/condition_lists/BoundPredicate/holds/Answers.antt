use Rattle.std.proofs.Common.{sym, ap, ◌∙◌, reverse}
use Rattle.mon_expr.specs.ConditionLists.{answer}
use Rattle.mon_expr.proofs.ConditionLemmas.{answered, leads_down, leads_on}
use Rattle.mon_expr.proofs.condition_lists.BoundPredicate.holds.Goals as goal

pub returns-in-Answer : goal.returns-in-Answer
returns-in-Answer c =
    let conditions = reverse c.args.self.now.conditions.items in
    record {
      truth = sym (answered conditions c.args.cells.now c.in-Answer.truth)
          ∙ ap (answer conditions c.args.cells.now) (sym c.in-Answer.is) ∙ c.loop-next.invariant.0;
    }

pub loop-next-smaller : goal.loop-next-smaller
loop-next-smaller c =
    leads_down c.args.self.now.conditions.items c.loop-next.next c.next-next.result c.in-Condition.at
    c.index.result.now c.args.cells.now
    c.args.self.now.ordered c.index.ensures c.in-Condition.is c.next-next.ensures.next c.loop-next.invariant.1

pub loop-next-preserved : goal.loop-next-preserved
loop-next-preserved c =
    leads_on c.args.self.now.conditions.items c.loop-next.next c.next-next.result c.in-Condition.at
    c.index.result.now c.args.cells.now _
    c.args.self.now.ordered c.index.ensures c.in-Condition.is c.next-next.ensures.next c.loop-next.invariant
