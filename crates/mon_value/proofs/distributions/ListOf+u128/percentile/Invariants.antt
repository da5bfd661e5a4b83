-- the buckets behind the loop are counted, and none of them has its share
use Rattle.std.proofs.Common.{◌≡◌, ℕ, ◌+◌, ◌*◌, ◌<◌, take, sum}
use Rattle.mon_value.proofs.distributions.ListOf+u128.percentile.Given as goal

abbrev pub invariant-loop-bucket : goal.invariant-loop-bucket
invariant-loop-bucket l = record {
  counted : l.running ≡ sum (take l.bucket l.counts);
  below : (k : ℕ) → k < l.bucket → sum (take (k + 1) l.counts) * 100 < l.share;
}
