use Rattle.std.proofs.Common.{sym}
use Rattle.mon_expr.proofs.bound_sums.percentile_at.Goals as goal

pub percentile_of-requires : goal.percentile_of-requires
percentile_of-requires c = record { can = c.requires.can c.in_ok-counts.counts.now (sym c.in_ok-counts.ensures.counts) }
