-- How loops over pieces and parts end.
use Rattle.std.proofs.Common.{◌≡◌, List, [], ◌∷◌, refl}
use Rattle.mon_fold.specs.declared.answers.Piece.{Piece}
use Rattle.mixer.specs.within.Joined.{AllCanJoin, pieces_joined}

pub none_joined : (pieces : List Piece) → pieces_joined pieces [] ≡ pieces
none_joined [] = refl
none_joined (piece ∷ pieces) = refl

pub none_can : (pieces : List Piece) → AllCanJoin pieces []
none_can [] = tt
none_can (piece ∷ pieces) = tt
