-- A part more that a zone hands up.
use Rattle.std.proofs.Common.{◌≡◌, ◌≤◌, ℕ, ◌+◌, Bool, true, false, List, ◌∷◌, ap, arith}
use Rattle.typed_trees.specs.Levels.{is_leaf, TopPart}
use Rattle.typed_trees.specs.Nodes.{level_of}
use Rattle.mon_fold.specs.declared.answers.Piece.{Piece}
use Rattle.mixer.specs.within.Mixtures.{joins_from}
use Rattle.mixer.specs.within.ZonePieces.{CanHandUp, CanHandUpAll, CanHandUpBy, behind_part, joins_of_parts}
use Rattle.mixer.proofs.NodePieces.{can_more}

by_more : (b : Bool) (base more : ℕ) (part : TopPart) (pieces : List Piece) → base ≤ more → CanHandUpBy b base part
    pieces
    → CanHandUpBy b more part pieces
by_more true base more part pieces less can = can
by_more false base more part pieces less can =
    (can_more is_leaf base more part.1 pieces less can.0, λ few. can.1 (omega (arith, less, few)))

-- what can be handed up can be where more was done before
pub first_more : (base more : ℕ) (part : TopPart) (parts : List TopPart) (pieces : List Piece) → base ≤ more
    → CanHandUpAll base (part ∷ parts) pieces → CanHandUp more part pieces
first_more base more part parts pieces less can = by_more (is_leaf (level_of part.1)) base more part pieces less can.0

-- the pairs that are counted, with those that are left
pub joins_next : (part : TopPart) (left : List TopPart) (pieces behind : List Piece) (load more all : ℕ)
    → behind ≡ behind_part part pieces → more ≡ load + joins_from is_leaf part.1 pieces
    → load + joins_of_parts (part ∷ left) pieces ≡ all → more + joins_of_parts left behind ≡ all
joins_next part left pieces behind load more all is counted so_far =
    let same = ap (joins_of_parts left) is in
    omega (arith, same, counted, so_far)
