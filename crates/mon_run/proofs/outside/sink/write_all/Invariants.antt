-- the sink took the text up to the rest
use Rattle.std.proofs.Common.{◌≤◌, length}
use Rattle.mon_run.proofs.SinkLemmas.{TookTo}
use Rattle.mon_run.proofs.outside.sink.write_all.Given as goal

abbrev pub invariant-loop-rest : goal.invariant-loop-rest
invariant-loop-rest g l = record {
  counts : (g.O.Sink.state l.fn.out).faults ≤ (g.O.Sink.state l.out).faults;
  took : TookTo l.text l.rest (g.O.Sink.state l.fn.out) (g.O.Sink.state l.out);
}

abbrev pub decreases-loop-rest : goal.decreases-loop-rest
decreases-loop-rest g l = length l.rest
