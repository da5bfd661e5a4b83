-- What is left to go down, with what is made of it from there.
use Rattle.std.proofs.Common.{◌≡◌, ◌+◌}
use Rattle.mql_ast.specs.PredicateParts.{nodes}
use Rattle.mql_ast.specs.Trees.{predicate_tree}
use Rattle.plan_split.specs.FormulaLinks.{linked_formula, linked_nodes}
use Rattle.plan_split.specs.FetchFormulas.{predicate_formula}
use Rattle.plan_split.proofs.predicates.BucketSetting.first_formula.Given as goal

abbrev pub invariant-loop-first : goal.invariant-loop-first
invariant-loop-first l = record {
  formula : linked_formula l.self.buckets l.self.schema.now l.links.items
      (predicate_formula l.self.buckets l.self.schema.now (predicate_tree l.first))
      ≡ linked_formula l.self.buckets l.self.schema.now l.fn.links.items
      (predicate_formula l.self.buckets l.self.schema.now (predicate_tree l.fn.predicate));
  count : linked_nodes l.links.items + nodes l.first ≡ linked_nodes l.fn.links.items + nodes l.fn.predicate;
}
