-- the groups of the rows so far
use Rattle.std.proofs.Common.{◌≡◌, take}
use Rattle.mon_fold.specs.GroupKeys.{owned_groups}
use Rattle.mon_fold.specs.PartialGroups.{partial_groups}
use Rattle.mon_fold.proofs.grouping.groups_of.Given as goal

abbrev pub invariant-loop-row : goal.invariant-loop-row
invariant-loop-row l = owned_groups l.groups.entries ≡ partial_groups l.by l.with (take l.row-index l.t.rows)
