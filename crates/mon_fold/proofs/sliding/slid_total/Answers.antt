use Rattle.std.proofs.Common.{◌≡◌, ◌≤◌, ◌-ℤ◌, ◌+ℤ◌, None, Some, unsigned_abs, to_z, of_z, sym, ap, ◌∙◌, rules, arith}
use Rattle.std.specs.Int.{w128}
use Rattle.std.proofs.lemmas.Int.{ints}
use Rattle.mon_value.specs.Grids.{most_aligned}
use Rattle.mon_value.specs.declared.values.Value.TheVariants as value
use Rattle.mon_fold.specs.SlidingWindows.{points_between}
use Rattle.mon_fold.proofs.SlidingLemmas.{counts-among, gone-held, gone-magnitude, left-alike, left-within}
use Rattle.mon_fold.proofs.SlidingLemmas.{neither_alone, new-magnitude, none_or_some, slid-bound, slid-merged}
use Rattle.mon_fold.proofs.SlidingLemmas.{slid-sum, some_last, sum-magnitude}
use Rattle.mon_fold.proofs.sliding.slid_total.Goals as goal

pub returns-in_err-sum : goal.returns-in_err-sum
returns-in_err-sum c =
    let none : c.args.last.total ≡ None = search rules in
    let total = sym c.requires.totalled.total ∙ none in
    absurd (neither_alone c.args.all.now c.args.last.start c.args.last.end (some_last c.args.all.now c.args.start
    c.args.last.start c.args.end c.args.last.end c.requires.alike c.requires.earlier c.requires.shared
    c.requires.no_later c.requires.totalled.within) c.requires.totalled.within c.requires.alike
    (λ z is. none_or_some _ _ total is) (λ counts is. none_or_some _ _ total is))

pub sum_of_numbers-requires : goal.sum_of_numbers-requires
sum_of_numbers-requires c =
    record {
      within = omega (
        arith,
        c.requires.totalled.fits,
        gone-magnitude c.args.all.now c.args.start c.args.last.start c.args.end
            c.args.last.end c.requires.alike c.requires.earlier c.requires.shared c.requires.no_later
            c.requires.totalled.within,
      );
    }

pub overflow_sub-result : goal.overflow_sub-result
overflow_sub-result c =
    let total : c.args.last.total ≡ Some (value.Int c.in-Int.sum) = search rules in
    let last = sym c.requires.totalled.total ∙ total in
    let all = c.args.all.now in
    let z = c.in-Int.sum in
    let less = c.sum_of_numbers.result in
    let fits = c.requires.totalled.fits in
    let whole : unsigned_abs z ≤ most_aligned =
    omega (
      arith,
      slid-bound c.args.all.now c.args.start c.args.last.start c.args.end c.args.last.end
          c.requires.alike c.requires.earlier c.requires.shared c.requires.no_later c.requires.totalled.within z
          last,
    ) in
    let gone : unsigned_abs less ≤ most_aligned =
    rw c.sum_of_numbers.ensures
    (omega (
      arith,
      sum-magnitude (points_between c.args.end c.args.last.end all),
      gone-magnitude c.args.all.now
          c.args.start c.args.last.start c.args.end c.args.last.end c.requires.alike c.requires.earlier
          c.requires.shared c.requires.no_later c.requires.totalled.within,
    )) in
    omega (arith, ints)

pub sum_of_numbers-requires-in-Int : goal.sum_of_numbers-requires-in-Int
sum_of_numbers-requires-in-Int c =
    record {
      within = omega (
        arith,
        c.requires.sums,
        new-magnitude c.args.all.now c.args.start c.args.last.start c.args.end c.args.last.end
            c.requires.alike c.requires.earlier c.requires.shared c.requires.no_later c.requires.totalled.within,
      );
    }

pub overflow_add-result : goal.overflow_add-result
overflow_add-result c =
    let total : c.args.last.total ≡ Some (value.Int c.in-Int.sum) = search rules in
    let last = sym c.requires.totalled.total ∙ total in
    let all = c.args.all.now in
    let z = c.in-Int.sum in
    let less = c.sum_of_numbers.result in
    let fits = c.requires.totalled.fits in
    let whole : unsigned_abs z ≤ most_aligned =
    omega (
      arith,
      slid-bound c.args.all.now c.args.start c.args.last.start c.args.end c.args.last.end
          c.requires.alike c.requires.earlier c.requires.shared c.requires.no_later c.requires.totalled.within z
          last,
    ) in
    let gone : unsigned_abs less ≤ most_aligned =
    rw c.sum_of_numbers.ensures
    (omega (
      arith,
      sum-magnitude (points_between c.args.end c.args.last.end all),
      gone-magnitude c.args.all.now
          c.args.start c.args.last.start c.args.end c.args.last.end c.requires.alike c.requires.earlier
          c.requires.shared c.requires.no_later c.requires.totalled.within,
    )) in
    let more = c.sum_of_numbers-in-Int.result in
    let sums = c.requires.sums in
    let new : unsigned_abs more ≤ most_aligned =
    rw c.sum_of_numbers-in-Int.ensures
    (omega (
      arith,
      sum-magnitude (points_between c.args.start c.args.last.start all),
      new-magnitude c.args.all.now
          c.args.start c.args.last.start c.args.end c.args.last.end c.requires.alike c.requires.earlier
          c.requires.shared c.requires.no_later c.requires.totalled.within,
    )) in
    omega (arith, ints)

pub returns-in-Int : goal.returns-in-Int
returns-in-Int c =
    let total : c.args.last.total ≡ Some (value.Int c.in-Int.sum) = search rules in
    let last = sym c.requires.totalled.total ∙ total in
    let all = c.args.all.now in
    let z = c.in-Int.sum in
    let less = c.sum_of_numbers.result in
    let fits = c.requires.totalled.fits in
    let whole : unsigned_abs z ≤ most_aligned =
    omega (
      arith,
      slid-bound c.args.all.now c.args.start c.args.last.start c.args.end c.args.last.end
          c.requires.alike c.requires.earlier c.requires.shared c.requires.no_later c.requires.totalled.within z
          last,
    ) in
    let gone : unsigned_abs less ≤ most_aligned =
    rw c.sum_of_numbers.ensures
    (omega (
      arith,
      sum-magnitude (points_between c.args.end c.args.last.end all),
      gone-magnitude c.args.all.now
          c.args.start c.args.last.start c.args.end c.args.last.end c.requires.alike c.requires.earlier
          c.requires.shared c.requires.no_later c.requires.totalled.within,
    )) in
    let more = c.sum_of_numbers-in-Int.result in
    let sums = c.requires.sums in
    let new : unsigned_abs more ≤ most_aligned =
    rw c.sum_of_numbers-in-Int.ensures
    (omega (
      arith,
      sum-magnitude (points_between c.args.start c.args.last.start all),
      new-magnitude c.args.all.now
          c.args.start c.args.last.start c.args.end c.args.last.end c.requires.alike c.requires.earlier
          c.requires.shared c.requires.no_later c.requires.totalled.within,
    )) in
    let same : to_z w128 (of_z w128 (to_z w128 (of_z w128 (to_z w128 (of_z w128 z) -ℤ to_z w128 (of_z w128 less))) +ℤ
    to_z w128 (of_z w128 more))) ≡ (z -ℤ less) +ℤ more =
    omega (arith, ints) in
    let slid = slid-sum c.args.all.now c.args.start c.args.last.start c.args.end c.args.last.end c.requires.alike
    c.requires.earlier c.requires.shared c.requires.no_later c.requires.totalled.within z last in
    rw same (rw (c.sum_of_numbers.ensures, c.sum_of_numbers-in-Int.ensures) (sym slid))

pub take_off-requires-clause-alike : goal.take_off-requires-clause-alike
take_off-requires-clause-alike c =
    let total : c.args.last.total ≡ Some (value.Dist c.in-Dist.counts) = search rules in
    let last = sym c.requires.totalled.total ∙ total in
    counts-among c.args.all.now c.args.start c.args.last.start c.args.end c.args.last.end c.requires.alike
    c.requires.earlier c.requires.shared c.requires.no_later c.requires.totalled.within c.in-Dist.counts last
    c.args.end c.args.last.end

pub take_off-requires-clause-held : goal.take_off-requires-clause-held
take_off-requires-clause-held c =
    let total : c.args.last.total ≡ Some (value.Dist c.in-Dist.counts) = search rules in
    let last = sym c.requires.totalled.total ∙ total in
    gone-held c.args.all.now c.args.start c.args.last.start c.args.end c.args.last.end c.requires.alike
    c.requires.earlier c.requires.shared c.requires.no_later c.requires.totalled.within c.in-Dist.counts last

pub merge_into-requires-clause-alike : goal.merge_into-requires-clause-alike
merge_into-requires-clause-alike c =
    let total : c.args.last.total ≡ Some (value.Dist c.in-Dist.counts) = search rules in
    let last = sym c.requires.totalled.total ∙ total in
    left-alike c.args.all.now c.args.start c.args.last.start c.args.end c.args.last.end c.requires.alike
    c.requires.earlier c.requires.shared c.requires.no_later c.requires.totalled.within c.in-Dist.counts
    c.take_off.result last c.take_off.ensures.buckets c.take_off.ensures.taken

pub merge_into-requires-clause-within : goal.merge_into-requires-clause-within
merge_into-requires-clause-within c =
    let total : c.args.last.total ≡ Some (value.Dist c.in-Dist.counts) = search rules in
    let last = sym c.requires.totalled.total ∙ total in
    omega (
      arith,
      c.requires.sums,
      left-within c.args.all.now c.args.start c.args.last.start c.args.end c.args.last.end
          c.requires.alike c.requires.earlier c.requires.shared c.requires.no_later c.requires.totalled.within
          c.in-Dist.counts c.take_off.result last c.take_off.ensures.buckets c.take_off.ensures.taken,
    )

pub returns-in-Dist : goal.returns-in-Dist
returns-in-Dist c =
    let total : c.args.last.total ≡ Some (value.Dist c.in-Dist.counts) = search rules in
    let last = sym c.requires.totalled.total ∙ total in
    ap (λ counts. Some (value.Dist counts)) c.merge_into.ensures
    ∙ sym (slid-merged c.args.all.now c.args.start c.args.last.start c.args.end c.args.last.end c.requires.alike
    c.requires.earlier c.requires.shared c.requires.no_later c.requires.totalled.within c.in-Dist.counts
    c.take_off.result last c.take_off.ensures.buckets c.take_off.ensures.taken)
