-- the rows so far and those of the groups that are left are all
use Rattle.std.proofs.Common.{◌≡◌, ◌++◌, map}
use Rattle.std.specs.Vec.Iter.{into_iter_items}
use Rattle.mon_fold.specs.PartialGroups.{row_finished}
use Rattle.mon_fold.proofs.groups.finish_parts.Given as goal

abbrev pub invariant-loop-key : goal.invariant-loop-key
invariant-loop-key l = l.rows ++ map row_finished (into_iter_items l.key-iterator) ≡ map row_finished l.fn.parts.groups
