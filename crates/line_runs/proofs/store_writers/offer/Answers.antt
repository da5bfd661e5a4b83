use Rattle.std.proofs.Common.{subst, sym}
use Rattle.mon_store.specs.Writes.{IsRefused}
use Rattle.range_cell.specs.declared.answers.WriteFault.{WriteFault}
use Rattle.line_runs.proofs.Offered.{err_of}
use Rattle.line_runs.proofs.store_writers.offer.Goals as goal

pub returns-in-Ok-clause-answered : goal.returns-in-Ok-clause-answered
returns-in-Ok-clause-answered g c = record { ack = c.in-Ok.ack; written = c.in-Ok.ensures.written }

pub returns-in_ok-told-in-Err-clause-answered : goal.returns-in_ok-told-in-Err-clause-answered
returns-in_ok-told-in-Err-clause-answered g c = record {
  told = c.in_ok-told-in-Err.ensures.told;
  unwritten = c.in-Err.ensures.nothing;
  cause = subst (λ (f : WriteFault). IsRefused c.args.store.now c.args.row.now c.args.p.now c.write.new.p f)
      (sym c.in_ok-told-in-Err.ensures.same) c.in-Err.ensures.refused;
}

pub returns-in_err-told-in-Err-clause-still : goal.returns-in_err-told-in-Err-clause-still
returns-in_err-told-in-Err-clause-still g c = err_of c.from_residual.result c.in-Err.ensures.nothing
