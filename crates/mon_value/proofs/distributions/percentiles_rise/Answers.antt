use Rattle.mon_value.proofs.PercentileLemmas.{percentile_of-le}
use Rattle.mon_value.proofs.distributions.percentiles_rise.Goals as goal

pub returns : goal.returns
returns c = record { rise = percentile_of-le }
