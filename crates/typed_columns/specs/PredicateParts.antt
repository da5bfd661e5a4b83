-- What is still to be looked at of a predicate.
use Rattle.std.specs.Prelude.{ℕ, ◌+◌, List, [], ◌∷◌, ◌++◌}
use Rattle.mon_value.specs.declared.columns.Column.{Column}
use Rattle.mql_ast.specs.PredicateParts.{nodes}
use Rattle.mql_ast.specs.Trees.{predicate_tree}
use Rattle.mql_ast.specs.declared.predicates.Predicate.{Predicate}
use denote.Ref.{Bor}
use Rattle.typed_trees.specs.declared.faults.TypeFault.{TypeFault}
use Rattle.typed_trees.specs.declared.fixed.Fixed.{Fixed}
use Rattle.typed_trees.specs.Fetches.{predicate_faults}
use Rattle.typed_trees.specs.FixedColumns.{fixed_by}

-- the faults of the parts to come, the last of them first
abbrev pub remaining_faults : List Column → List (Bor Predicate) → List TypeFault
remaining_faults columns [] = []
remaining_faults columns (x ∷ xs) = remaining_faults columns xs ++ predicate_faults columns (predicate_tree x.now)

-- what the parts to come fix, the last of them first
abbrev pub remaining_fixed : List (Bor Predicate) → List Fixed
remaining_fixed [] = []
remaining_fixed (x ∷ xs) = remaining_fixed xs ++ fixed_by (predicate_tree x.now)

abbrev pub remaining_nodes : List (Bor Predicate) → ℕ
remaining_nodes [] = 0
remaining_nodes (x ∷ xs) = remaining_nodes xs + nodes x.now
