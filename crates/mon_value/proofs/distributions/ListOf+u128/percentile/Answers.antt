use Rattle.std.proofs.Common.{◌≡◌, ◌+◌, ◌-◌, ◌*◌, ◌<◌, pos, length, get_or, sum, Some, ◌∙◌, sym, arith, rules}
use Rattle.std.proofs.lemmas.Int.{to_z-of_z}
use Rattle.std.specs.Prelude.{FitsSigned, slice_get}
use Rattle.std.specs.Int.{w64}
use Rattle.std.proofs.lemmas.Option.{slice_get-get_or}
use Rattle.mon_value.proofs.PercentileLemmas.{HasPassed, percentile_of-found, percentile_of-last}
use Rattle.mon_value.proofs.distributions.ListOf+u128.percentile.Goals as goal

-- the bucket that the loop has come to is the first with its share
pub returns-then-running-share-clause-bound : goal.returns-then-running-share-clause-bound
returns-then-running-share-clause-bound c =
    let counts = c.as_slice-counts.result.now in
    let bounds = c.as_slice-bounds.result.now in
    let n = c.loop-bucket.bucket in
    let share = c.from.result * c.sum-total.result in
    let total : c.sum-total.result ≡ sum counts = search rules in
    let share_is : share ≡ c.args.p * sum counts = cc in
    let long : length counts ≡ length bounds + 1 =
    rw (c.as_slice-counts.ensures.items, c.as_slice-bounds.ensures.items) c.requires.buckets in
    let passed : HasPassed counts bounds c.args.p n share = record {
      buckets = long;
      some = omega arith;
      share_is = share_is;
      below = c.loop-bucket.invariant.below;
    } in
    let found = percentile_of-found counts bounds c.args.p n share passed c.loop-bucket-test.true (omega arith) in
    let fits : FitsSigned w64 (get_or bounds n (pos 0)) = search rules in
    let same = to_z-of_z w64 (get_or bounds n (pos 0)) fits in
    rw (same, ← c.as_slice-counts.ensures.items, ← c.as_slice-bounds.ensures.items) (sym found)

-- the loop has passed all buckets but the last
pub returns-clause-bound : goal.returns-clause-bound
returns-clause-bound c =
    let counts = c.as_slice-counts.result.now in
    let bounds = c.as_slice-bounds.result.now in
    let share = c.from.result * c.sum-total.result in
    let total : c.sum-total.result ≡ sum counts = search rules in
    let share_is : share ≡ c.args.p * sum counts = cc in
    let long : length counts ≡ length bounds + 1 =
    rw (c.as_slice-counts.ensures.items, c.as_slice-bounds.ensures.items) c.requires.buckets in
    let passed : HasPassed counts bounds c.args.p (length bounds) share = record {
      buckets = long;
      some = omega arith;
      share_is = share_is;
      below = λ k h. c.loop-bucket.invariant.below k (omega arith);
    } in
    let bounded : 0 < length bounds = rw c.as_slice-bounds.ensures.items c.requires.bounded in
    let found = percentile_of-last counts bounds c.args.p share passed bounded c.requires.to_hundred in
    let last : slice_get bounds (length bounds - 1) ≡ Some (get_or bounds (length bounds - 1) (pos 0)) =
    slice_get-get_or bounds (length bounds - 1) (pos 0) (omega arith) in
    let given = c.copied.ensures ∙ c.last.ensures.value ∙ last in
    rw (given, ← c.as_slice-counts.ensures.items, ← c.as_slice-bounds.ensures.items) (sym found)
