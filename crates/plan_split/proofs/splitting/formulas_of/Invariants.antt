-- The formulas so far, with those of the parts to come, are all.
use Rattle.std.proofs.Common.{◌≡◌, ◌++◌, map}
use Rattle.mon_hints.specs.Formulas.{formula_tree}
use Rattle.typed_trees.specs.Nodes.{node_tree}
use Rattle.plan_split.specs.FetchFormulas.{fetch_formula, plan_formulas}
use Rattle.plan_split.specs.FetchParts.{remaining_fetches, remaining_nodes}
use Rattle.plan_split.proofs.splitting.formulas_of.Given as goal

abbrev pub invariant-loop-part : goal.invariant-loop-part
invariant-loop-part l =
    map formula_tree l.formulas ++ map (fetch_formula l.buckets) (remaining_fetches l.parts.items)
    ≡ plan_formulas l.buckets (node_tree l.tree)

abbrev pub decreases-loop-part : goal.decreases-loop-part
decreases-loop-part l = remaining_nodes l.parts.items
