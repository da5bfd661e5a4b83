-- the places so far are joined
use Rattle.std.proofs.Common.{◌≡◌, take}
use Rattle.mon_value.specs.Histories.{farther_each}
use Rattle.mon_topo.proofs.sights.join_ranges.Given as goal

abbrev pub invariant-loop-i : goal.invariant-loop-i
invariant-loop-i l = l.mine ≡ farther_each (λ range. range.length) l.initial.mine (take l.i l.theirs)
