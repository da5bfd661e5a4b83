-- the parts so far are merged
use Rattle.std.proofs.Common.{◌≡◌, take}
use Rattle.mon_fold.specs.PartialGroups.{merged_parts}
use Rattle.mon_fold.proofs.aggregate_parts.merge_each.Given as goal

abbrev pub invariant-loop-i : goal.invariant-loop-i
invariant-loop-i l = l.into ≡ merged_parts l.fn.into (take l.i l.others)
