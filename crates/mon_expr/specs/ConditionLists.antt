-- Conditions that lead to one another, and in the end to an answer. They stand here from the last one back.
use Rattle.std.specs.Prelude.{ℕ, Bool, true, false, ◌&&◌, ◌==◌, nat_lt, List, [], ◌∷◌, length, slice_get, if◌then◌else◌}
use Rattle.mon_value.specs.declared.values.Value.{Value}
use Rattle.mql_ast.specs.Rows.{is_compared, is_like, is_passed}
use Rattle.mon_expr.specs.declared.condition_lists.Condition.{Condition}
use Rattle.mon_expr.specs.declared.condition_lists.Next.{Next}
use Rattle.mon_expr.specs.declared.condition_lists.Next.TheVariants as next
use Rattle.mon_expr.specs.declared.condition_lists.Test.{Test}
use Rattle.mon_expr.specs.declared.condition_lists.Test.TheVariants as test

abbrev pub is_test_passed : Test → Value → Bool
is_test_passed (test.Compare how literal) = is_compared how literal
is_test_passed (test.Like pieces) = is_like pieces

-- whether a condition holds of a row
abbrev pub condition_truth : Condition → List Value → Bool
condition_truth condition cells = is_passed (is_test_passed condition.test) (slice_get cells condition.place)

-- what comes next for a row
abbrev pub next_of : Condition → List Value → Next
next_of condition cells = if condition_truth condition cells then condition.if_true else condition.if_false

-- whether the condition at a place comes next
abbrev pub is_at : Next → ℕ → Bool
is_at (next.Answer truth) place = false
is_at (next.Condition at) place = at == place

-- the answer for a row, where the conditions are entered at some place
abbrev pub answer : List Condition → List Value → Next → Bool
answer [] cells (next.Answer truth) = truth
answer [] cells (next.Condition at) = false
answer (condition ∷ earlier) cells next =
    if is_at next (length earlier) then answer earlier cells (next_of condition cells) else answer earlier cells next

-- whether what comes next stands before a place
abbrev pub is_before : Next → ℕ → Bool
is_before (next.Answer truth) place = true
is_before (next.Condition at) place = nat_lt at place

-- whether each condition leads to earlier ones alone
abbrev pub are_ordered : List Condition → Bool
are_ordered [] = true
are_ordered (condition ∷ earlier) =
    is_before condition.if_true (length earlier) && is_before condition.if_false (length earlier) && are_ordered earlier
