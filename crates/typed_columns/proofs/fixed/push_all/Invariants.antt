-- What was added, in front of what is left.
use Rattle.std.proofs.Common.{◌≡◌, ◌++◌, drop}
use Rattle.typed_columns.proofs.fixed.push_all.Given as goal

abbrev pub invariant-loop-one : goal.invariant-loop-one
invariant-loop-one l = l.all ++ drop l.one-index l.fixed ≡ l.fn.all ++ l.fixed
