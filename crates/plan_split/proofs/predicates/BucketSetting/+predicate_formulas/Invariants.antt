-- What was found so far, with what is made of it from there, is the whole.
use Rattle.std.proofs.Common.{◌≡◌, ◌+◌, ◌*◌, ◌<◌, length}
use Rattle.mon_hints.specs.Formulas.{formula_tree}
use Rattle.mql_ast.specs.PredicateParts.{nodes}
use Rattle.mql_ast.specs.Trees.{predicate_tree}
use Rattle.plan_split.specs.FormulaLinks.{link_nodes, linked_formula, linked_nodes}
use Rattle.plan_split.specs.FetchFormulas.{predicate_formula}
use Rattle.plan_split.proofs.predicates.BucketSetting.+predicate_formulas.Given as goal

abbrev pub decreases-joined : goal.decreases-joined
decreases-joined l = 2 * link_nodes l.link

abbrev pub decreases-formula : goal.decreases-formula
decreases-formula l = 2 * nodes l.predicate.now + 1

abbrev pub invariant-formula-loop-link : goal.invariant-formula-loop-link
invariant-formula-loop-link l = record {
  formula : linked_formula l.self.buckets l.self.schema.now l.links.items (formula_tree l.formula)
      ≡ predicate_formula l.self.buckets l.self.schema.now (predicate_tree l.predicate);
  count : linked_nodes l.links.items < nodes l.predicate;
}

abbrev pub decreases-formula-loop-link : goal.decreases-formula-loop-link
decreases-formula-loop-link l = length l.links.items
