-- Pieces of several children for the same parts, put together.
use Rattle.std.specs.Prelude.{◌≡◌, List, [], ◌∷◌, ◌++◌}
use Rattle.typed_trees.specs.Nodes.{columns_of}
use Rattle.typed_trees.specs.Levels.{TopPart}
use Rattle.mon_fold.specs.PartialGroups.{CanMergeGroups, merged_groups}
use Rattle.mon_fold.specs.declared.answers.Piece.{Piece}
use Rattle.mon_fold.specs.declared.answers.Piece.TheVariants as piece
use Rattle.mon_meaning.specs.GoingUp.{CanGoUp}
use Rattle.mon_meaning.specs.Standing.{StandsFor}

-- two pieces of one part: the rows of both tables, or the groups of both
abbrev pub piece_joined : Piece → Piece → Piece
piece_joined (piece.Table table) (piece.Table other) =
    piece.Table (record { columns = table.columns; rows = table.rows ++ other.rows })
piece_joined (piece.Table table) (piece.Groups groups) = piece.Table table
piece_joined (piece.Groups groups) (piece.Table table) = piece.Groups groups
piece_joined (piece.Groups groups) (piece.Groups others) =
    piece.Groups (record {
      columns = groups.columns;
      kinds = groups.kinds;
      groups = merged_groups groups.groups others.groups;
    })

abbrev pub CanJoin : Piece → Piece → Type 0
CanJoin (piece.Table table) other = Unit {0}
CanJoin (piece.Groups groups) (piece.Table table) = Unit {0}
CanJoin (piece.Groups groups) (piece.Groups others) =
    (groups.columns ≡ others.columns) × ((groups.kinds ≡ others.kinds) × CanMergeGroups groups.groups others.groups)

-- the pieces of two children
abbrev pub pieces_joined : List Piece → List Piece → List Piece
pieces_joined [] others = []
pieces_joined (piece ∷ pieces) [] = piece ∷ pieces
pieces_joined (piece ∷ pieces) (other ∷ others) = piece_joined piece other ∷ pieces_joined pieces others

abbrev pub AllCanJoin : List Piece → List Piece → Type 0
AllCanJoin [] others = Unit {0}
AllCanJoin (piece ∷ pieces) [] = Unit {0}
AllCanJoin (piece ∷ pieces) (other ∷ others) = CanJoin piece other × AllCanJoin pieces others

-- pieces with those of more children
abbrev pub with_children : List Piece → List (List Piece) → List Piece
with_children pieces [] = pieces
with_children pieces (child ∷ children) = with_children (pieces_joined pieces child) children

abbrev pub CanJoinChildren : List Piece → List (List Piece) → Type 0
CanJoinChildren pieces [] = Unit {0}
CanJoinChildren pieces (child ∷ children) =
    AllCanJoin pieces child × CanJoinChildren (pieces_joined pieces child) children

-- ---- without a child

abbrev pub CanBeEmpty : TopPart → Type 0
CanBeEmpty part = CanGoUp (columns_of part.1) part.0 []

-- a piece without rows for each part
abbrev pub AllStandEmpty : List TopPart → List Piece → Type 0
AllStandEmpty [] [] = Unit {0}
AllStandEmpty [] (piece ∷ pieces) = ⊥
AllStandEmpty (part ∷ parts) [] = ⊥
AllStandEmpty (part ∷ parts) (piece ∷ pieces) =
    StandsFor (columns_of part.1) (part.0, []) piece × AllStandEmpty parts pieces

-- ---- all children

abbrev pub CanJoinAll : List (List Piece) → Type 0
CanJoinAll [] = Unit {0}
CanJoinAll (child ∷ children) = CanJoinChildren child children

-- the pieces of all children for some parts
abbrev pub AreTogether : List TopPart → List (List Piece) → List Piece → Type 0
AreTogether parts [] pieces = AllStandEmpty parts pieces
AreTogether parts (child ∷ children) pieces = pieces ≡ with_children child children
