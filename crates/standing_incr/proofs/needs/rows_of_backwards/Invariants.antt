-- the rows so far, with those that are left, are all
use Rattle.std.proofs.Common.{◌≡◌, ◌++◌, length, reverse}
use Rattle.standing_incr.proofs.needs.rows_of_backwards.Given as goal

abbrev pub invariant-loop-row : goal.invariant-loop-row
invariant-loop-row l = l.rows ++ reverse l.rest.items ≡ reverse l.fn.backwards.items

abbrev pub decreases-loop-row : goal.decreases-loop-row
decreases-loop-row l = length l.rest.items
