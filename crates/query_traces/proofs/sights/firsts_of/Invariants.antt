-- the ranges so far, in front of those that are left
use Rattle.std.proofs.Common.{◌≡◌, ◌++◌, drop}
use Rattle.query_traces.specs.SeenSights.{firsts_from}
use Rattle.query_traces.proofs.sights.firsts_of.Given as goal

abbrev pub invariant-loop-number : goal.invariant-loop-number
invariant-loop-number l = l.firsts ++ firsts_from l.number (drop l.number l.ranges) ≡ firsts_from 0 l.ranges
