use Rattle.std.proofs.Common.{length, ap, arith}
use Rattle.kept_groups.proofs.BucketLemmas.{length-counts_less}
use Rattle.kept_groups.proofs.trades.trade_buckets.Goals as goal

pub merge-requires-clause-buckets : goal.merge-requires-clause-buckets
merge-requires-clause-buckets c =
    let left = ap (λ counts. length counts) c.take_off.ensures in
    omega (arith, c.requires.2, left, length-counts_less c.args.counts.now c.args.gone.now)
