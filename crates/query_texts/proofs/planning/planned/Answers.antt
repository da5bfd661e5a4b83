use Rattle.typed_trees.specs.Nodes.{typed_tree}
use Rattle.query_texts.proofs.PlanLemmas.{plan_over}
use Rattle.query_texts.proofs.planning.planned.Goals as goal

pub returns-clause-plan : goal.returns-clause-plan
returns-clause-plan c =
    let query = c.requires.query in
    plan_over c.args.schemas.now c.args.buckets (typed_tree c.args.typed) query c.in_ok-split.field-0
    c.in_ok-split.ensures.typed c.in_ok-split.ensures.formulas c.in_ok-split.ensures.buckets
    c.in_ok-split.ensures.below (c.in_ok-split.ensures.promise c.args.schemas.now query.query query.is)
