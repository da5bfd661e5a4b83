-- What a zone hands up of its parts, of the pieces of its leaves.
use Rattle.std.specs.Prelude.{◌≡◌, ◌<◌, ◌+◌, ℕ, Bool, true, false, List, [], ◌∷◌, drop, length}
use Rattle.mon_value.specs.Groups.{top_rows}
use Rattle.typed_trees.specs.Levels.{is_leaf, PartUse, TopPart}
use Rattle.typed_trees.specs.Nodes.{columns_of, level_of}
use Rattle.typed_trees.specs.Levels as up
use Rattle.typed_trees.specs.Soundness.{IsWithinRows}
use Rattle.mon_fold.specs.declared.answers.Piece.{Piece}
use Rattle.mon_fold.specs.declared.answers.Piece.TheVariants as piece
use Rattle.mon_meaning.specs.GoingUp.{CanGoUp}
use Rattle.mon_meaning.specs.Standing.{StandsFor}
use Rattle.mixer.specs.Mixing.{part_count}
use Rattle.mixer.specs.within.Mixtures.{CanMix, joins_from, rows_from}

-- a piece of several children, cut where it is to be cut
abbrev pub piece_cut : PartUse → Piece → Piece
piece_cut use_of (piece.Groups groups) = piece.Groups groups
piece_cut up.AsRows (piece.Table table) = piece.Table table
piece_cut (up.ToGroup by with) (piece.Table table) = piece.Table table
piece_cut (up.ToCut most column) (piece.Table table) =
    piece.Table (record { columns = table.columns; rows = top_rows most column table.rows })

-- ---- one part

-- the pieces behind those of a part
abbrev pub behind_part : TopPart → List Piece → List Piece
behind_part part pieces = drop (part_count is_leaf part.1) pieces

abbrev pub IsHandedOn : PartUse → List Piece → Piece → Type 0
IsHandedOn use_of [] made = ⊥
IsHandedOn use_of (piece ∷ pieces) made = made ≡ piece_cut use_of piece

-- what goes up of a part: the leaves' piece, where leaves do all of it, and else one of the rows that are made of
-- theirs
abbrev pub IsHandedUpBy : Bool → TopPart → List Piece → Piece → Type 0
IsHandedUpBy true part pieces made = IsHandedOn part.0 pieces made
IsHandedUpBy false part pieces made = StandsFor (columns_of part.1) (part.0, rows_from is_leaf part.1 pieces) made

abbrev pub IsHandedUp : TopPart → List Piece → Piece → Type 0
IsHandedUp part pieces made = IsHandedUpBy (is_leaf (level_of part.1)) part pieces made

-- that it can be made, where the load before is `base`
abbrev pub CanHandUpBy : Bool → ℕ → TopPart → List Piece → Type 0
CanHandUpBy true base part pieces = 0 < length pieces
CanHandUpBy false base part pieces =
    CanMix base is_leaf part.1 pieces
    × (IsWithinRows (base + joins_from is_leaf part.1 pieces)
    → CanGoUp (columns_of part.1) part.0 (rows_from is_leaf part.1 pieces))

abbrev pub CanHandUp : ℕ → TopPart → List Piece → Type 0
CanHandUp base part pieces = CanHandUpBy (is_leaf (level_of part.1)) base part pieces

-- ---- all parts

abbrev pub AreHandedUp : List TopPart → List Piece → List Piece → Type 0
AreHandedUp [] pieces [] = Unit {0}
AreHandedUp [] pieces (made ∷ more) = ⊥
AreHandedUp (part ∷ parts) pieces [] = ⊥
AreHandedUp (part ∷ parts) pieces (made ∷ more) =
    IsHandedUp part pieces made × AreHandedUp parts (behind_part part pieces) more

abbrev pub CanHandUpAll : ℕ → List TopPart → List Piece → Type 0
CanHandUpAll base [] pieces = Unit {0}
CanHandUpAll base (part ∷ parts) pieces =
    CanHandUp base part pieces × CanHandUpAll base parts (behind_part part pieces)

-- the pairs of the joins that the zone does
abbrev pub joins_of_parts : List TopPart → List Piece → ℕ
joins_of_parts [] pieces = 0
joins_of_parts (part ∷ parts) pieces =
    joins_from is_leaf part.1 pieces + joins_of_parts parts (behind_part part pieces)
