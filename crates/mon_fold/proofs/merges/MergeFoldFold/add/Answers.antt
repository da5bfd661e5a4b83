use Rattle.std.proofs.Common.{◌≡◌, [], true, length, ap, arith}
use Rattle.mon_value.specs.Groups.{counts_added}
use Rattle.mon_value.proofs.CountsLemmas.{length-counts_added, counts_added-nil}
use Rattle.mon_value.proofs.CountsPartLemmas.{counts_added_one, or-comm}
use Rattle.mon_fold.specs.CountsSoFar.{CountsSoFar}
use Rattle.mon_fold.proofs.merges.MergeFoldFold.add.Goals as goal

pub merge-requires-clause-buckets : goal.merge-requires-clause-buckets
merge-requires-clause-buckets c =
    let item = c.args.item.now in
    let zero = c.args.self.now.zero in
    let seen = ap (λ (part : CountsSoFar). length part.counts) c.part.view_is in
    omega (
      arith,
      seen,
      c.requires.0,
      length-counts_added zero (counts_added item []),
      ap length (counts_added-nil item),
    )

pub merge-requires-clause-sums : goal.merge-requires-clause-sums
merge-requires-clause-sums c =
    let fold = c.args.self.now in
    let counts = c.args.part.now.counts in
    let seen : c.part.inside.counts ≡ counts = ap (λ (part : CountsSoFar). part.counts) c.part.view_is in
    let one = counts_added_one fold.zero fold.zeros counts c.args.item.now c.requires.0 in
    rw (seen, ← one) c.requires.1

pub returns : goal.returns
returns c =
    let fold = c.args.self.now in
    let counts = c.args.part.now.counts in
    let seen : c.part.inside.counts ≡ counts = ap (λ (part : CountsSoFar). part.counts) c.part.view_is in
    let one = counts_added_one fold.zero fold.zeros counts c.args.item.now c.requires.0 in
    record { added = rw (one, or-comm c.args.part.now.any true, c.merge.ensures.added, seen) }
