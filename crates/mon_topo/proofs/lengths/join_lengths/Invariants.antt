-- the places so far are joined
use Rattle.std.proofs.Common.{◌≡◌, take}
use Rattle.mon_value.specs.Histories.{farther_each}
use Rattle.mon_topo.proofs.lengths.join_lengths.Given as goal

abbrev pub invariant-loop-i : goal.invariant-loop-i
invariant-loop-i l = l.mine ≡ farther_each (λ length. length) l.initial.mine (take l.i l.theirs)
