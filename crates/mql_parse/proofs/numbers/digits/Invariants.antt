-- The digits that are left make the same number of the value so far.
use Rattle.std.proofs.Common.{◌≡◌, ◌≤◌, length}
use Rattle.mql_parse.specs.TokenReading.{digits}
use Rattle.mql_parse.proofs.numbers.digits.Given as goal

abbrev pub invariant-loop-from : goal.invariant-loop-from
invariant-loop-from l =
    (l.value ≤ l.most) × (digits l.most l.value l.from.at l.from.bytes.now ≡ digits l.fn.most l.fn.first l.fn.from.at
    l.fn.from.bytes.now)

abbrev pub decreases-loop-from : goal.decreases-loop-from
decreases-loop-from l = length l.from.bytes.now
