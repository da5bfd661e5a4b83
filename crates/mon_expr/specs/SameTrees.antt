-- Predicates and sums, apart from where they stand in their texts.
use Rattle.mql_ast.specs.Trees as tree
use Rattle.mql_ast.specs.Trees.{PredicateTree, SumTree}
use Rattle.mql_ast.specs.declared.names.Name.{Name}

-- a name that stands at no place
abbrev pub nowhere : Name → Name
nowhere name = record { at = 0; text = name.text }

-- a predicate that stands nowhere
abbrev pub bare_predicate : PredicateTree → PredicateTree
bare_predicate (tree.Compare name how literal) =
    tree.Compare (nowhere name) how (record { at = 0; value = literal.value })
bare_predicate (tree.Like name pattern) = tree.Like (nowhere name) (record { at = 0; pieces = pattern.pieces })
bare_predicate (tree.Not p) = tree.Not (bare_predicate p)
bare_predicate (tree.And p q) = tree.And (bare_predicate p) (bare_predicate q)
bare_predicate (tree.Or p q) = tree.Or (bare_predicate p) (bare_predicate q)

-- a sum that stands nowhere
abbrev pub bare_sum : SumTree → SumTree
bare_sum (tree.Column name) = tree.Column (nowhere name)
bare_sum (tree.Number at z) = tree.Number 0 z
bare_sum (tree.Plus left right) = tree.Plus (bare_sum left) (bare_sum right)
bare_sum (tree.Minus left right) = tree.Minus (bare_sum left) (bare_sum right)
bare_sum (tree.Percentile at name p) = tree.Percentile 0 (nowhere name) p
