use Rattle.run_traces.proofs.Rising.{finds_later}
use Rattle.run_traces.proofs.laws.finds_stay.Goals as goal

pub returns : goal.returns
returns c =
    let stay = c.traces_stay.ensures in
    record {
      later = λ config seen more from number line made grown same makes found.
          finds_later stay.of stay.found stay.rows stay.fresh stay.read config seen more grown from number line made
          same makes found;
    }
