-- those so far
use Rattle.std.proofs.Common.{◌≡◌, ◌++◌, take}
use Rattle.query_core.proofs.courses.add_resolved.Given as goal

abbrev pub invariant-loop-resolved : goal.invariant-loop-resolved
invariant-loop-resolved l = l.all ≡ l.fn.all ++ take l.resolved-index l.more
