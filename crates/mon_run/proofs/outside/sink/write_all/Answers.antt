use Rattle.std.proofs.Common.{arith}
use Rattle.mon_run.proofs.SinkLemmas.{took_more, took_none}
use Rattle.mon_run.proofs.outside.sink.write_all.Goals as goal

pub loop-rest-init : goal.loop-rest-init
loop-rest-init g c = record { counts = omega arith; took = took_none _ _ }

pub loop-rest-preserved : goal.loop-rest-preserved
loop-rest-preserved g c = record {
  counts = omega (arith, c.loop-rest.invariant.counts, c.in_ok-taken.ensures.counts);
  took = took_more c.args.text.now c.loop-rest.rest.now _ c.in_ok-taken.taken (g.O.Sink.state c.args.out.now)
      (g.O.Sink.state c.loop-rest.out) (g.O.Sink.state c.write.new.self) c.loop-rest.invariant.took
      c.in_ok-taken.ensures.appends c.split_at.ensures.back;
}
