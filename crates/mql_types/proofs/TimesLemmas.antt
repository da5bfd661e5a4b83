-- What operations say of the times, and which of them are misplaced.
use Rattle.std.proofs.Common.{◌≡◌, List, [], ◌∷◌, ◌++◌, refl}
use Rattle.mql_ast.specs.Trees.{OpTree}
use Rattle.typed_trees.specs.declared.times.Times.{Times}
use Rattle.typed_trees.specs.Times.{said_by, said_of}
use Rattle.typed_columns.proofs.FaultLemmas.{first_with-append}

-- what the operations of two lists say, the second behind the first
pub said_of-append : (said : Times) (xs ys : List OpTree) → said_of said (xs ++ ys) ≡ said_of (said_of said xs) ys
said_of-append said [] ys = refl
said_of-append said (x ∷ xs) ys = said_of-append (said_by said x.at x.what) xs ys

pub ruleset times_said = (said_of-append, first_with-append)
