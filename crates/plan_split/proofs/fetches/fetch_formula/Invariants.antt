-- What is left to go down, with the filters so far, is the whole.
use Rattle.std.proofs.Common.{◌≡◌}
use Rattle.typed_trees.specs.Nodes.{node_tree}
use Rattle.plan_split.specs.FetchFormulas.{fetch_formula, schema_fetched}
use Rattle.plan_split.specs.FormulaLinks.{filtered_formula}
use Rattle.plan_split.proofs.fetches.fetch_formula.Given as goal

abbrev pub invariant-loop-rest : goal.invariant-loop-rest
invariant-loop-rest l =
    filtered_formula l.buckets (schema_fetched (node_tree l.rest)) l.filters.items
    (fetch_formula l.buckets (node_tree l.rest)) ≡ fetch_formula l.buckets (node_tree l.fn.fetch)
