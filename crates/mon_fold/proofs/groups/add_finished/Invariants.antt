-- the cells so far and those of the parts that are left are all
use Rattle.std.proofs.Common.{◌≡◌, ◌++◌}
use Rattle.std.specs.List.{filter_map}
use Rattle.std.specs.Vec.Iter.{into_iter_items}
use Rattle.mon_fold.specs.PartialGroups.{part_finished}
use Rattle.mon_fold.proofs.groups.add_finished.Given as goal

abbrev pub invariant-loop-part : goal.invariant-loop-part
invariant-loop-part l = l.cells ++ filter_map part_finished (into_iter_items l.part-iterator) ≡ l.fn.cells
    ++ filter_map part_finished l.fn.parts
