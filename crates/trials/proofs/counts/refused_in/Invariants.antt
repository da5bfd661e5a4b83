-- the points so far and those of the lines that are left are all of them
use Rattle.std.proofs.Common.{◌≡◌, ◌+◌, ◌*◌, ◌≤◌, ◌^◌, drop}
use Rattle.trials.specs.Summaries as spec
use Rattle.trials.proofs.counts.refused_in.Given as goal

abbrev pub invariant-loop-trace : goal.invariant-loop-trace
invariant-loop-trace l = record {
  whole : l.refused + spec.refused_in (drop l.trace-index l.traces) ≡ spec.refused_in l.traces;
  few : l.refused ≤ l.trace-index * 2 ^ 64;
}
