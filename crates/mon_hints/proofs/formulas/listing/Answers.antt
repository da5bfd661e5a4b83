use Rattle.std.proofs.Common.{◌∙◌}
use Rattle.std.specs.Prelude.{nat_eq}
use Rattle.std.proofs.lemmas.List.Filters.{dedup_is}
use Rattle.mon_hints.proofs.ListingLemmas.{sorted_listing}
use Rattle.mon_hints.proofs.formulas.listing.Goals as goal

pub returns : goal.returns
returns c =
    let sorted = c.sort_unstable.new.self.items in
    let kept = c.dedup.new.self.items in
    record {
      listing = sorted_listing c.args.buckets.items sorted c.from_vec.result c.sort_unstable.ensures.permutation
          c.sort_unstable.ensures.sorted (c.from_vec.ensures.items ∙ dedup_is nat_eq sorted kept
          c.dedup.ensures.filtered);
    }
