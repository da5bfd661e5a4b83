-- the free room and all pairs are the room and the pairs of the rows that are left
use Rattle.std.proofs.Common.{◌≡◌, ◌+◌, drop, length}
use Rattle.std.specs.List.{flat_map}
use Rattle.mon_table.specs.RightSides.{left_pairs}
use Rattle.mon_table.proofs.pairs.test_room.Given as goal

abbrev pub invariant-loop-left : goal.invariant-loop-left
invariant-loop-left l =
    l.free + length (flat_map (left_pairs l.right_rows) l.lefts) ≡ l.room
    + length (flat_map (left_pairs l.right_rows) (drop l.left-index l.lefts))
