-- the groups so far and those that are left are all
use Rattle.std.proofs.Common.{◌≡◌, ◌++◌}
use Rattle.std.specs.Vec.Iter.{into_iter_items}
use Rattle.mon_fold.specs.GroupKeys.{owned_groups}
use Rattle.mon_fold.proofs.grouping.groups_with_rows.Given as goal

abbrev pub invariant-loop-key : goal.invariant-loop-key
invariant-loop-key l = l.owned.entries ++ owned_groups (into_iter_items l.key-iterator) ≡ owned_groups l.fn.groups.entries
