use Rattle.std.proofs.Common.{◌-◌, unsigned_abs, mul-le-mul_right, arith}
use Rattle.std.proofs.lemmas.Int.{ints}
use Rattle.mon_value.specs.Grids.{time_count}
use Rattle.mon_value.proofs.GridLemmas.{count_some, counted_exactly, get_or-times_back, length-times_back, one_time}
use Rattle.mon_value.proofs.grids.grids_reach_back.Goals as goal

pub returns-clause-number : goal.returns-clause-number
returns-clause-number c grid = length-times_back (time_count grid) grid.moment grid.every

pub returns-clause-steps : goal.returns-clause-steps
returns-clause-steps c grid k d lawful below =
    let every = lawful.every in
    get_or-times_back (time_count grid) k grid.moment grid.every d (unsigned_abs grid.every) (omega (arith, ints)) below

pub returns-clause-reach : goal.returns-clause-reach
returns-clause-reach c grid k lawful =
    let every = lawful.every in
    let within = lawful.within in
    let exactly = counted_exactly k (unsigned_abs grid.within) (unsigned_abs grid.every) (omega (arith, ints)) in
    (λ below. let past = exactly.0 below in omega (arith, ints), λ above. exactly.1 (omega (arith, ints)))

pub returns-clause-once : goal.returns-clause-once
returns-clause-once c grid same some = one_time grid same some

-- a later time is an earlier moment
pub returns-clause-least : goal.returns-clause-least
returns-clause-least c grid k d lawful below =
    let every = lawful.every in
    let here = get_or-times_back (time_count grid) k grid.moment grid.every d (unsigned_abs grid.every)
    (omega (arith, ints)) below in
    let most = mul-le-mul_right {m = k} {n = time_count grid - 1} (unsigned_abs grid.every) (omega arith) in
    rw here (omega (arith, ints))

pub returns-clause-last : goal.returns-clause-last
returns-clause-last c grid d lawful =
    let every = lawful.every in
    let within = lawful.within in
    let some = count_some (unsigned_abs grid.within) (unsigned_abs grid.every) (omega (arith, ints))
    (omega (arith, ints)) in
    get_or-times_back (time_count grid) (time_count grid - 1) grid.moment grid.every d (unsigned_abs grid.every)
    (omega (arith, ints)) (omega arith)
