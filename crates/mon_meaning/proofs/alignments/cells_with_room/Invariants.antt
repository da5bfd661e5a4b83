-- the cells so far
use Rattle.std.proofs.Common.{◌≡◌, take}
use Rattle.mon_meaning.proofs.alignments.cells_with_room.Given as goal

abbrev pub invariant-loop-cell : goal.invariant-loop-cell
invariant-loop-cell l = l.own.items ≡ take l.cell-index l.cells
