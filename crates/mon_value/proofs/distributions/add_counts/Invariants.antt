-- the counts so far are added
use Rattle.std.proofs.Common.{◌≡◌, take}
use Rattle.mon_value.specs.Groups.{counts_added}
use Rattle.mon_value.proofs.distributions.add_counts.Given as goal

abbrev pub invariant-loop-i : goal.invariant-loop-i
invariant-loop-i l = l.counts ≡ counts_added l.initial.counts (take l.i l.others)
