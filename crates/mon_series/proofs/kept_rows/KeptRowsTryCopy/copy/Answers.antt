use Rattle.std.proofs.Common.{◌∙◌}
use Rattle.mon_series.specs.within.Hidden.{slot_of}
use Rattle.mon_series.proofs.IndexedLemmas.{copy_kept}
use Rattle.mon_series.proofs.kept_rows.KeptRowsTryCopy.copy.Goals as goal

pub invariant_of-result : goal.invariant_of-result
invariant_of-result c =
    copy_kept c.self.inside.series.entries c.self.invariant c.in_ok-copied_series.ensures.groups
    c.in_ok-copy.ensures.items c.in_ok-index_of.ensures.numbers

pub returns : goal.returns
returns c = record {
  equal = (λ i. slot_of (c.in_ok-copied_series.ensures.groups i) (c.in_ok-copied_series.ensures.hidden i)
      (c.in_ok-copy.ensures.items i))
      ∙ c.self.view_is;
}
