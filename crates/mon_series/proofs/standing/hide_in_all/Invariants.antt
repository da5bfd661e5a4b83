-- the series in front are hidden so far
use Rattle.std.proofs.Common.{◌≡◌, ◌++◌, ◌-◌, length, map, take, drop}
use Rattle.mon_series.specs.within.Hidden.{hiding}
use Rattle.mon_series.proofs.standing.hide_in_all.Given as goal

abbrev pub invariant-loop-number : goal.invariant-loop-number
invariant-loop-number l = l.groups.entries
    ≡ map (hiding l.before) (take l.number l.fn.groups.entries) ++ drop l.number l.fn.groups.entries

abbrev pub decreases-loop-number : goal.decreases-loop-number
decreases-loop-number l = length l.groups.entries - l.number
