use Rattle.mon_series.proofs.FirstLemmas.{get_there}
use Rattle.mon_series.proofs.MetricLemmas.{takes}
use Rattle.mon_series.proofs.metrics.add_number.Goals as goal

pub returns : goal.returns
returns c =
    let index = c.args.index.now.entries in
    let before = c.in-Some.numbers.now in
    let there = get_there index c.args.at before c.in-Some.ensures.value in
    record {
      added = λ metric room. takes index metric there.0 c.args.at c.args.number before c.push.new.self room.0 there.1
          c.push.ensures.added;
    }
