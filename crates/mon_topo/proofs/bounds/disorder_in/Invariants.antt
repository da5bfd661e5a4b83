-- the bounds so far are in order, so the first that isn't is one of the rest
use Rattle.std.proofs.Common.{◌≡◌, ◌+◌, drop}
use Rattle.mon_topo.specs.Faults.{fall_in}
use Rattle.mon_topo.proofs.bounds.disorder_in.Given as goal

abbrev pub invariant-loop-j : goal.invariant-loop-j
invariant-loop-j l = fall_in l.i (l.j + 1) l.before (drop l.j l.rest) ≡ fall_in l.i 1 l.initial.before l.rest
