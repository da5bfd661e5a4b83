use Rattle.run_traces.proofs.Rising.{line_same}
use Rattle.run_traces.proofs.laws.texts_stay.Goals as goal

pub returns : goal.returns
returns c =
    let stay = c.traces_stay.ensures in
    record {
      line = λ config seen more from to number line grown within found.
          line_same stay.of stay.found stay.rows stay.fresh stay.read config seen more grown from to number line
          within found;
    }
