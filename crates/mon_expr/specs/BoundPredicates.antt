-- What a bound predicate says of a row, and of which predicate it says it.
use Rattle.std.specs.Prelude.{◌≡◌, ◌≤◌, Bool, true, List, length, reverse, if◌then◌else◌}
use Rattle.mon_value.specs.declared.columns.Column.{Column}
use Rattle.mon_value.specs.declared.values.Value.{Value}
use Rattle.mql_ast.specs.Trees.{PredicateTree}
use Rattle.mql_ast.specs.Rows.{predicate_truth}
use Rattle.mon_expr.specs.ConditionLists.{answer, are_ordered, is_before}
use Rattle.mon_expr.specs.declared.condition_lists.BoundPredicate.{BoundPredicate}
use Rattle.mon_expr.specs.declared.condition_lists.Condition.{Condition}
use Rattle.mon_expr.specs.declared.condition_lists.Next.{Next}

-- the answer for a row, from the condition that is entered first
abbrev pub bound_truth : BoundPredicate → List Value → Bool
bound_truth bound cells = answer (reverse bound.conditions.items) cells bound.first

-- a bound predicate says of each row what the predicate says of it over the columns
abbrev pub IsBoundPredicate : BoundPredicate → PredicateTree → List Column → Type 0
IsBoundPredicate bound predicate columns =
    (cells : List Value) → bound_truth bound cells ≡ predicate_truth predicate columns cells

-- a predicate's conditions stand behind those that there were, and lead to what comes next in either case
pub record IsAdded (predicate : PredicateTree) (columns : List Column) (if_true if_false : Next)
    (old new : List Condition) (first : Next) : Type 0 where
  pub longer : length old ≤ length new
  pub ordered : are_ordered (reverse new) ≡ true
  pub before : is_before first (length new) ≡ true
  pub kept : (cells : List Value) (next : Next) → is_before next (length old) ≡ true →
      answer (reverse new) cells next ≡ answer (reverse old) cells next
  pub decided : (cells : List Value) → answer (reverse new) cells first
      ≡ (if predicate_truth predicate columns cells then answer (reverse old) cells if_true
      else answer (reverse old) cells if_false)
