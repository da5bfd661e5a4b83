use Rattle.std.proofs.Common.{◌≡◌, ◌∙◌, length, get_or, ap, arith}
use Rattle.mon_value.proofs.ListLendsLemmas.{items_written-all}
use Rattle.kept_groups.proofs.BucketLemmas.{less_is}
use Rattle.kept_groups.proofs.trades.take_off.Goals as goal

pub returns : goal.returns
returns c =
    let counts = c.args.counts.now in
    let left = c.subtract.new.counts in
    let many : length left ≡ length counts =
    c.subtract.ensures.buckets ∙ ap (λ all. length all) c.as_mut_slice.ensures.items in
    items_written-all counts left many
    ∙ less_is left counts c.args.gone.now many c.requires.buckets (λ bucket. omega (
      arith,
      c.subtract.ensures.taken bucket,
      ap (λ all. get_or all bucket 0) c.as_mut_slice.ensures.items,
      ap (λ all. get_or all bucket 0) c.as_slice.ensures.items,
    ))
