-- The rows that are made of pieces, which stand for the topmost parts of a tree from the left.
use Rattle.std.specs.Prelude.{◌≡◌, ◌<◌, ◌+◌, ℕ, Bool, true, false, List, [], ◌∷◌, drop, map, if◌then◌else◌}
use Rattle.std.specs.List.{AllByRecursion}
use Rattle.mon_value.specs.declared.tables.TimedRow.{TimedRow}
use Rattle.typed_trees.specs.Nodes as node
use Rattle.typed_trees.specs.Nodes.{NodeTree, level_of}
use Rattle.typed_trees.specs.Soundness.{IsWithinRows}
use Rattle.typed_trees.specs.declared.levels.Level.{Level}
use Rattle.mon_fold.specs.PartialGroups.{row_finished}
use Rattle.mon_fold.specs.declared.answers.Piece.{Piece}
use Rattle.mon_fold.specs.declared.answers.Piece.TheVariants as piece
use Rattle.mon_meaning.specs.Operations.{CanOperate, operation_load, operation_rows}
use Rattle.mon_meaning.specs.within.Paths.{Leads, first_input}
use Rattle.typed_trees.specs.ExplanationParts.{nodes}
use Rattle.mixer.specs.Mixing.{part_count}

-- the rows of a table, or those that groups finish to
abbrev pub finished_rows : Piece → List TimedRow
finished_rows (piece.Table table) = table.rows
finished_rows (piece.Groups groups) = map row_finished groups.groups

abbrev pub first_piece_rows : List Piece → List TimedRow
first_piece_rows [] = []
first_piece_rows (piece ∷ pieces) = finished_rows piece

-- whether there is a piece of a node: it is done here, or rows begin there, or it groups what is done here
abbrev pub is_piece : (Level → Bool) → NodeTree → Bool
is_piece here (node.Fetch info schema metric) = true
is_piece here (node.Filter info by input) = here info.level
is_piece here (node.Align info by input) = true
is_piece here (node.GroupBy info by with input) = if here info.level then true else here (level_of input)
is_piece here (node.Value info items input) = here info.level
is_piece here (node.Top info most column input) = here info.level
is_piece here (node.Join info left right) = here info.level
is_piece here (node.Union info left right) = here info.level

-- what flows first into a node of which there is no piece
pub record IsInput (here : Level → Bool) (tree input : NodeTree) : Type 0 where
  pub first : input ≡ first_input tree
  pub above : is_piece here tree ≡ false
  pub smaller : nodes input < nodes tree

-- the way from the top of a tree down to the first piece
pub record IsWayDown (here : Level → Bool) (above : List NodeTree) (top : NodeTree) : Type 0 where
  pub end : NodeTree
  pub leads : Leads above top end
  pub passed : AllByRecursion (λ tree. is_piece here tree ≡ false) above
  pub ends : is_piece here end ≡ true

-- ---- rows

abbrev pub rows_from : (Level → Bool) → NodeTree → List Piece → List TimedRow
rows_from here (node.Fetch info schema metric) pieces = first_piece_rows pieces
rows_from here (node.Filter info by input) pieces =
    if here info.level then first_piece_rows pieces
    else operation_rows (node.Filter info by input) (rows_from here input pieces) []
rows_from here (node.Align info by input) pieces = first_piece_rows pieces
rows_from here (node.GroupBy info by with input) pieces =
    if (if here info.level then true else here (level_of input)) then first_piece_rows pieces
    else operation_rows (node.GroupBy info by with input) (rows_from here input pieces) []
rows_from here (node.Value info items input) pieces =
    if here info.level then first_piece_rows pieces
    else operation_rows (node.Value info items input) (rows_from here input pieces) []
rows_from here (node.Top info most column input) pieces =
    if here info.level then first_piece_rows pieces
    else operation_rows (node.Top info most column input) (rows_from here input pieces) []
rows_from here (node.Join info left right) pieces =
    if here info.level then first_piece_rows pieces
    else operation_rows (node.Join info left right) (rows_from here left pieces)
    (rows_from here right (drop (part_count here left) pieces))
rows_from here (node.Union info left right) pieces =
    if here info.level then first_piece_rows pieces
    else operation_rows (node.Union info left right) (rows_from here left pieces)
    (rows_from here right (drop (part_count here left) pieces))

-- how many pieces the right side of a node takes
abbrev pub other_count : (Level → Bool) → NodeTree → ℕ
other_count here (node.Fetch info schema metric) = 0
other_count here (node.Filter info by input) = 0
other_count here (node.Align info by input) = 0
other_count here (node.GroupBy info by with input) = 0
other_count here (node.Value info items input) = 0
other_count here (node.Top info most column input) = 0
other_count here (node.Join info left right) = part_count here right
other_count here (node.Union info left right) = part_count here right

-- the rows of a node's right side, and none where it has no such side
abbrev pub other_piece_rows : (Level → Bool) → NodeTree → List Piece → List TimedRow
other_piece_rows here (node.Fetch info schema metric) pieces = []
other_piece_rows here (node.Filter info by input) pieces = []
other_piece_rows here (node.Align info by input) pieces = []
other_piece_rows here (node.GroupBy info by with input) pieces = []
other_piece_rows here (node.Value info items input) pieces = []
other_piece_rows here (node.Top info most column input) pieces = []
other_piece_rows here (node.Join info left right) pieces = rows_from here right pieces
other_piece_rows here (node.Union info left right) pieces = rows_from here right pieces

-- ---- the work of joining

abbrev pub joins_from : (Level → Bool) → NodeTree → List Piece → ℕ
joins_from here (node.Fetch info schema metric) pieces = 0
joins_from here (node.Filter info by input) pieces = if here info.level then 0 else joins_from here input pieces
joins_from here (node.Align info by input) pieces = 0
joins_from here (node.GroupBy info by with input) pieces =
    if (if here info.level then true else here (level_of input)) then 0 else joins_from here input pieces
joins_from here (node.Value info items input) pieces = if here info.level then 0 else joins_from here input pieces
joins_from here (node.Top info most column input) pieces = if here info.level then 0 else joins_from here input pieces
joins_from here (node.Join info left right) pieces =
    if here info.level then 0
    else joins_from here left pieces
    + (joins_from here right (drop (part_count here left) pieces)
    + operation_load (node.Join info left right) (rows_from here left pieces)
    (rows_from here right (drop (part_count here left) pieces)))
joins_from here (node.Union info left right) pieces =
    if here info.level then 0
    else joins_from here left pieces + joins_from here right (drop (part_count here left) pieces)

abbrev pub other_joins : (Level → Bool) → NodeTree → List Piece → ℕ
other_joins here (node.Fetch info schema metric) pieces = 0
other_joins here (node.Filter info by input) pieces = 0
other_joins here (node.Align info by input) pieces = 0
other_joins here (node.GroupBy info by with input) pieces = 0
other_joins here (node.Value info items input) pieces = 0
other_joins here (node.Top info most column input) pieces = 0
other_joins here (node.Join info left right) pieces = joins_from here right pieces
other_joins here (node.Union info left right) pieces = joins_from here right pieces

-- ---- that they can be made

abbrev pub Unless : Bool → Type 0 → Type 0
Unless true P = Unit {0}
Unless false P = P

-- the pieces behind those of what flows into a node first
abbrev pub pieces_behind_first : (Level → Bool) → NodeTree → List Piece → List Piece
pieces_behind_first here tree pieces = drop (part_count here (first_input tree)) pieces

-- a node's operation can be done, where the load so far is within the rows that a table may have
abbrev pub Operates : ℕ → (Level → Bool) → NodeTree → List Piece → Type 0
Operates base here tree pieces =
    IsWithinRows (base + joins_from here (first_input tree) pieces + other_joins here tree
    (pieces_behind_first here tree pieces))
    → CanOperate tree (rows_from here (first_input tree) pieces)
    (other_piece_rows here tree (pieces_behind_first here tree pieces))

-- each operation above the pieces can be done, where the load before is `base`
abbrev pub CanMix : ℕ → (Level → Bool) → NodeTree → List Piece → Type 0
CanMix base here (node.Fetch info schema metric) pieces = Unit {0}
CanMix base here (node.Filter info by input) pieces =
    Unless (here info.level) (Operates base here (node.Filter info by input) pieces × CanMix base here input pieces)
CanMix base here (node.Align info by input) pieces = Unit {0}
CanMix base here (node.GroupBy info by with input) pieces =
    Unless (if here info.level then true else here (level_of input))
    (Operates base here (node.GroupBy info by with input) pieces × CanMix base here input pieces)
CanMix base here (node.Value info items input) pieces =
    Unless (here info.level) (Operates base here (node.Value info items input) pieces × CanMix base here input pieces)
CanMix base here (node.Top info most column input) pieces =
    Unless (here info.level) (Operates base here (node.Top info most column input) pieces × CanMix base here input
    pieces)
CanMix base here (node.Join info left right) pieces =
    Unless (here info.level)
    (Operates base here (node.Join info left right) pieces
    × (CanMix base here left pieces × CanMix base here right (drop (part_count here left) pieces)))
CanMix base here (node.Union info left right) pieces =
    Unless (here info.level)
    (Operates base here (node.Union info left right) pieces
    × (CanMix base here left pieces × CanMix base here right (drop (part_count here left) pieces)))

-- the same of a node's right side
abbrev pub OtherCanMix : ℕ → (Level → Bool) → NodeTree → List Piece → Type 0
OtherCanMix base here (node.Fetch info schema metric) pieces = Unit {0}
OtherCanMix base here (node.Filter info by input) pieces = Unit {0}
OtherCanMix base here (node.Align info by input) pieces = Unit {0}
OtherCanMix base here (node.GroupBy info by with input) pieces = Unit {0}
OtherCanMix base here (node.Value info items input) pieces = Unit {0}
OtherCanMix base here (node.Top info most column input) pieces = Unit {0}
OtherCanMix base here (node.Join info left right) pieces = CanMix base here right pieces
OtherCanMix base here (node.Union info left right) pieces = CanMix base here right pieces

-- what a node adds to the pairs of what flows into it first: those of its right side, and its own
abbrev pub own_joins : (Level → Bool) → NodeTree → List TimedRow → List Piece → ℕ
own_joins here tree rows pieces =
    other_joins here tree pieces + operation_load tree rows (other_piece_rows here tree pieces)
