-- From here on the answer is that of the whole.
use Rattle.std.proofs.Common.{◌≡◌, true, length, reverse}
use Rattle.mon_expr.specs.BoundPredicates.{bound_truth}
use Rattle.mon_expr.specs.ConditionLists.{answer, is_before}
use Rattle.mon_expr.proofs.NextPlaces.{conditions_left}
use Rattle.mon_expr.proofs.condition_lists.BoundPredicate.holds.Given as goal

abbrev pub invariant-loop-next : goal.invariant-loop-next
invariant-loop-next l =
    (answer (reverse l.self.conditions.items) l.cells l.next ≡ bound_truth l.self l.cells)
    × (is_before l.next (length l.self.conditions.items) ≡ true)

abbrev pub decreases-loop-next : goal.decreases-loop-next
decreases-loop-next l = conditions_left l.next
