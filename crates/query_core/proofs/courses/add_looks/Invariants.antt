-- those so far
use Rattle.std.proofs.Common.{◌≡◌, ◌++◌, take}
use Rattle.query_core.proofs.courses.add_looks.Given as goal

abbrev pub invariant-loop-look : goal.invariant-loop-look
invariant-loop-look l = l.all ≡ l.fn.all ++ take l.look-index l.more
