-- the part of the items of the pieces so far
use Rattle.std.proofs.Common.{◌≡◌, take}
use Rattle.mon_fold.proofs.PiecesLemmas.{items_of_pieces}
use Rattle.mon_fold.proofs.pieces.fold_pieces.Given as goal

abbrev pub invariant-loop-piece : goal.invariant-loop-piece
invariant-loop-piece g l = l.whole ≡ g.F.Fold.part_of l.fold (items_of_pieces (take l.piece-index l.pieces))
