use Rattle.std.proofs.Common.{Some, refl, sym, ap, ◌∙◌}
use Rattle.mon_value.specs.Groups.{counts_added, counts_of, distributions_in}
use Rattle.mon_value.specs.Grids.{values_of}
use Rattle.mon_value.specs.declared.values.Value.TheVariants as value
use Rattle.mon_fold.proofs.AlignmentLemmas.{told_counts, total_merged}
use Rattle.mon_fold.proofs.sliding.added_value.Goals as goal

pub returns-in-Some-counts : goal.returns-in-Some-counts
returns-in-Some-counts c =
    let first = c.in-Some.first.now in
    let rest = c.in-Some.rest.now in
    let kind = told_counts first.value _ c.in-Some-counts.counts.now c.in-Some-counts.ensures.counts refl in
    let more = counts_of (distributions_in (values_of rest)) in
    let counts = c.merge_into.ensures ∙ ap (λ copied. counts_added copied more) c.in_ok-copy.ensures.equal in
    ap (λ all. Some (value.Dist all)) counts ∙ sym (total_merged c.args.window.now rest first
    c.in-Some-counts.counts.now c.in-Some.ensures.cases.0 kind c.requires.alike)
