use Rattle.run_traces.proofs.Whole.{run_holds}
use Rattle.run_traces.proofs.laws.runs_hold.Goals as goal

pub returns : goal.returns
returns c = record {
  holds = λ config ended whole parts begun fronts held ran.
      run_holds c.traces_stay.ensures.of c.traces_stay.ensures.found c.traces_stay.ensures.rows
      c.traces_stay.ensures.fresh config ended parts begun whole fronts held ran;
}
