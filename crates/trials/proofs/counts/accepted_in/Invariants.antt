-- the points so far and those of the lines that are left are all of them
use Rattle.std.proofs.Common.{◌≡◌, ◌+◌, ◌*◌, ◌≤◌, ◌^◌, drop}
use Rattle.trials.specs.Summaries as spec
use Rattle.trials.proofs.counts.accepted_in.Given as goal

abbrev pub invariant-loop-trace : goal.invariant-loop-trace
invariant-loop-trace l = record {
  whole : l.accepted + spec.accepted_in (drop l.trace-index l.traces) ≡ spec.accepted_in l.traces;
  few : l.accepted ≤ l.trace-index * 2 ^ 64;
}
