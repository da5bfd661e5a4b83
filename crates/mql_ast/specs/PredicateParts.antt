-- What is still to be printed of a predicate.
use Rattle.std.specs.Prelude.{ℕ, ◌+◌, ◌*◌, List, [], ◌∷◌, ◌++◌}
use Rattle.mql_ast.specs.declared.predicates.Predicate.{Predicate}
use Rattle.mql_ast.specs.declared.predicates.Predicate.TheVariants as predicate
use Rattle.mql_ast.specs.declared.printing.predicates.PredicatePart.{PredicatePart}
use Rattle.mql_ast.specs.declared.printing.predicates.PredicatePart.TheVariants as part
use Rattle.mql_ast.specs.Trees.{predicate_tree}
use Rattle.mql_ast.specs.Printed.{predicate_text}

-- how many conditions and operators a predicate has
abbrev pub nodes : Predicate → ℕ
nodes (predicate.Compare column how literal) = 1
nodes (predicate.Like column pattern) = 1
nodes (predicate.Not' p inner) = nodes inner + 1
nodes (predicate.And' p left q right) = nodes left + nodes right + 1
nodes (predicate.Or' p left q right) = nodes left + nodes right + 1

abbrev pub part_text : PredicatePart → List ℕ
part_text (part.Predicate predicate level) = predicate_text level (predicate_tree predicate.now)
part_text (part.Signs signs) = signs.now

abbrev pub part_weight : PredicatePart → ℕ
part_weight (part.Predicate predicate level) = 3 * nodes predicate.now
part_weight (part.Signs signs) = 1

-- the parts to come, the last of them first
abbrev pub remaining_text : List PredicatePart → List ℕ
remaining_text [] = []
remaining_text (x ∷ xs) = remaining_text xs ++ part_text x

abbrev pub remaining_weight : List PredicatePart → ℕ
remaining_weight [] = 0
remaining_weight (x ∷ xs) = remaining_weight xs + part_weight x
