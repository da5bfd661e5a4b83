-- the part of the items so far
use Rattle.std.proofs.Common.{◌≡◌, take}
use Rattle.mon_fold.proofs.pieces.part_of_items.Given as goal

abbrev pub invariant-loop-item : goal.invariant-loop-item
invariant-loop-item g l = l.part ≡ g.F.Fold.part_of l.fold (take l.item-index l.items)
