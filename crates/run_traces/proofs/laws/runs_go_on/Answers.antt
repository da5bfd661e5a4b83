use Rattle.std.proofs.Common.{refl}
use Rattle.run_traces.proofs.Growth.{one_part_more}
use Rattle.run_traces.proofs.laws.runs_go_on.Goals as goal

pub returns : goal.returns
returns c =
    let stay = c.traces_stay.ensures in
    record {
      begun = λ config. refl;
      more = λ config before after parts part ran wrote.
          one_part_more stay.of stay.found stay.rows stay.fresh stay.read config before after parts part ran wrote;
    }
