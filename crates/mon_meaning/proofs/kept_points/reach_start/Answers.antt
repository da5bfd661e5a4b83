use Rattle.std.proofs.Common.{arith}
use Rattle.std.proofs.lemmas.Int.{ints}
use Rattle.mon_meaning.proofs.WindowLemmas.{least_bounds}
use Rattle.mon_meaning.proofs.kept_points.reach_start.Goals as goal

pub returns : goal.returns
returns c =
    let bounds = least_bounds c.args.grid.now c.requires.lawful in
    let least = c.least_time.ensures.least in
    let span = c.seconds_of.ensures.seconds in
    let some = c.requires.looks_back.0 in
    let most = c.requires.looks_back.1 in
    record { start = omega (arith, ints, bounds.0, bounds.1) }
