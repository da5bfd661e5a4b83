use Rattle.std.proofs.Common.{◌≡◌, ◌+◌, ◌≤◌, ◌-ℤ◌, ◌+ℤ◌, unsigned_abs, arith}
use Rattle.std.proofs.lemmas.Int.{ints}
use Rattle.mon_fold.proofs.GrowthLemmas.{growth_both, growth_bound, large_both}
use Rattle.mon_fold.proofs.growth.slid_growth.Goals as goal

pub growth_of-requires-clause-fits : goal.growth_of-requires-clause-fits
growth_of-requires-clause-fits c =
    let last = c.args.last in
    let whole = large_both c.args.all.now last.start c.args.end last.end (omega (arith, c.if-last-end.true))
    c.if-end-last.true in
    let fits = c.requires.grown.fits in
    omega arith

pub growth_of-requires-then-end-last-clause-fits : goal.growth_of-requires-then-end-last-clause-fits
growth_of-requires-then-end-last-clause-fits c =
    let whole = large_both c.args.all.now c.args.start c.args.last.start c.args.end c.if-start-last.true
    (omega (arith, c.if-last-end.true)) in
    let fits = c.requires.fits in
    omega arith

pub overflow_sub-result : goal.overflow_sub-result
overflow_sub-result c =
    let all = c.args.all.now in
    let last = c.args.last in
    let whole = large_both all last.start c.args.end last.end (omega (arith, c.if-last-end.true)) c.if-end-last.true in
    let sum = c.requires.grown.sum in
    let fits = c.requires.grown.fits in
    let gone = c.growth_of.ensures in
    let most = growth_bound all last.start last.end in
    let less = growth_bound all c.args.end last.end in
    omega (arith, ints)

pub overflow_add-result : goal.overflow_add-result
overflow_add-result c =
    let all = c.args.all.now in
    let last = c.args.last in
    let whole = large_both all last.start c.args.end last.end (omega (arith, c.if-last-end.true)) c.if-end-last.true in
    let sum = c.requires.grown.sum in
    let fits = c.requires.grown.fits in
    let gone = c.growth_of.ensures in
    let new = c.growth_of-then-end-last.ensures in
    let most = growth_bound all last.start last.end in
    let less = growth_bound all c.args.end last.end in
    let more = growth_bound all c.args.start last.start in
    let now = large_both all c.args.start last.start c.args.end c.if-start-last.true
    (omega (arith, c.if-last-end.true)) in
    let within = c.requires.fits in
    omega (arith, ints)

pub returns-then-end-last : goal.returns-then-end-last
returns-then-end-last c =
    let all = c.args.all.now in
    let last = c.args.last in
    let whole = large_both all last.start c.args.end last.end (omega (arith, c.if-last-end.true)) c.if-end-last.true in
    let sum = c.requires.grown.sum in
    let fits = c.requires.grown.fits in
    let gone = c.growth_of.ensures in
    let new = c.growth_of-then-end-last.ensures in
    let most = growth_bound all last.start last.end in
    let less = growth_bound all c.args.end last.end in
    let more = growth_bound all c.args.start last.start in
    let now = large_both all c.args.start last.start c.args.end c.if-start-last.true
    (omega (arith, c.if-last-end.true)) in
    let within = c.requires.fits in
    let before = growth_both all last.start c.args.end last.end (omega (arith, c.if-last-end.true)) c.if-end-last.true in
    let after = growth_both all c.args.start last.start c.args.end c.if-start-last.true
    (omega (arith, c.if-last-end.true)) in
    omega (arith, ints)
