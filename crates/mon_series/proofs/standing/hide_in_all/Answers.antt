use Rattle.std.proofs.Common.{◌≡◌, ◌∙◌, ℤ, IfSome, ap, arith, length, map, refl, rules, slice_get, subst, to_z, of_z, w64}
use Rattle.indexmap.specs.Layout.{length-set_value_at, set_value_at}
use Rattle.mon_series.specs.within.Hidden.{hiding}
use Rattle.mon_series.proofs.StandingLemmas.{changed_all, changed_count, changed_more, entry_there, next_unchanged}
use Rattle.mon_series.proofs.standing.hide_in_all.Goals as goal

pub loop-number-preserved : goal.loop-number-preserved
loop-number-preserved c =
    let entries = c.args.groups.now.entries in
    let n = c.loop-number.number in
    let before : ℤ = to_z w64 (of_z w64 c.args.before) in
    let count = ap length c.loop-number.invariant ∙ changed_count (hiding before) entries n in
    let there = entry_there entries n (omega (arith, count, c.loop-number-test.true)) in
    let now = ap (λ es. slice_get es n) c.loop-number.invariant
    ∙ next_unchanged (hiding before) entries n there.0 there.1 in
    subst (λ o. IfSome o (λ entry. c.hide_in.new.groups.entries
    ≡ set_value_at c.loop-number.groups.entries n (hiding before entry).1)) now c.hide_in.ensures.hidden
    ∙ ap (λ es. set_value_at es n (hiding before there.0).1) c.loop-number.invariant
    ∙ changed_more (hiding before) entries n there.0 (λ one. refl) there.1

pub loop-number-smaller : goal.loop-number-smaller
loop-number-smaller c =
    let n = c.loop-number.number in
    let before : ℤ = to_z w64 (of_z w64 c.args.before) in
    let there = entry_there c.loop-number.groups.entries n (omega (arith, c.loop-number-test.true)) in
    let put = subst (λ o. IfSome o (λ entry. c.hide_in.new.groups.entries
    ≡ set_value_at c.loop-number.groups.entries n (hiding before entry).1)) there.1 c.hide_in.ensures.hidden in
    omega (
      arith,
      ap length put,
      length-set_value_at c.loop-number.groups.entries n (hiding before there.0).1,
      c.loop-number-test.true,
    )

pub returns : goal.returns
returns c =
    let entries = c.args.groups.now.entries in
    let n = c.loop-number.number in
    let before : ℤ = to_z w64 (of_z w64 c.args.before) in
    let plain : before ≡ c.args.before = search rules in
    let count = ap length c.loop-number.invariant ∙ changed_count (hiding before) entries n in
    let whole = changed_all (hiding before) entries n (omega (arith, count, c.loop-number-test.false)) in
    record { hidden = c.loop-number.invariant ∙ whole ∙ ap (λ (b : ℤ). map (hiding b) entries) plain }
