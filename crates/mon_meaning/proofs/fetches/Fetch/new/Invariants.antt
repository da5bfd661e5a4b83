-- the filters so far, and what is left below them, say what the whole part says
use Rattle.typed_trees.specs.Nodes.{node_tree}
use Rattle.typed_trees.specs.ExplanationParts.{nodes}
use Rattle.mon_meaning.proofs.FilterSteps.{Remains}
use Rattle.mon_meaning.proofs.fetches.Fetch.new.Given as goal

abbrev pub invariant-loop-rest : goal.invariant-loop-rest
invariant-loop-rest l = Remains (node_tree l.fn.input) (node_tree l.rest) l.of_series.items l.of_points.items

abbrev pub decreases-loop-rest : goal.decreases-loop-rest
decreases-loop-rest l = nodes (node_tree l.rest)
