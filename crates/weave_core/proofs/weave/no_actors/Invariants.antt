-- so many places are empty
use Rattle.std.proofs.Common.{◌≡◌, None, replicate}
use Rattle.weave_core.proofs.weave.no_actors.Given as goal

abbrev pub invariant-loop-number : goal.invariant-loop-number
invariant-loop-number l = l.actors.items ≡ replicate l._number None
