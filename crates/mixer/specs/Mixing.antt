-- What a zone makes of the pieces of its leaves, and the root of those of its zones. A piece goes by the rows that it
-- stands for: where groups go up, merging and finishing them is to group the rows; where the first rows do, cutting
-- them again is to cut the rows.
use Rattle.std.specs.Prelude.{ℕ, ℤ, ◌≡◌, ◌+◌, Bool, List, [], ◌∷◌, ◌++◌, IsPermutation, map, length, take, drop}
use Rattle.std.specs.Prelude.{filter, sum_by, if◌then◌else◌}
use Rattle.std.specs.List.{filter_map, flat_map, zip}
use Rattle.mon_value.specs.Groups.{group_rows, top_rows}
use Rattle.mon_value.specs.Tables.{pairs_of}
use Rattle.mon_value.specs.declared.rows.Row.{Row}
use Rattle.mon_value.specs.declared.tables.TimedRow.{TimedRow}
use Rattle.mql_ast.specs.Rows.{predicate_truth}
use Rattle.mixer.specs.Divisions.{all_rows, together}
use Rattle.typed_trees.specs.LevelLoads.{counted_if, is_zone, leaf_load, root_load, zone_load}
use Rattle.typed_trees.specs.Levels.{is_leaf, is_root, PieceMeant, in_zone, leaf_part, top_parts}
use Rattle.typed_trees.specs.Meaning.{value_row}
use Rattle.typed_trees.specs.Nodes as node
use Rattle.typed_trees.specs.Nodes.{NodeTree, TypedTree, columns_of}
use Rattle.typed_trees.specs.declared.levels.Level.{Level}

-- ---- pieces of several children

-- pieces for the same parts, put together
abbrev pub joined_pieces : List PieceMeant → List PieceMeant → List PieceMeant
joined_pieces [] others = []
joined_pieces (piece ∷ pieces) [] = []
joined_pieces (piece ∷ pieces) (other ∷ others) = (piece.0, piece.1 ++ other.1) ∷ joined_pieces pieces others

-- a piece without rows for each part
abbrev pub no_pieces : (Level → Bool) → NodeTree → List PieceMeant
no_pieces here tree = map (λ part. (part.0, [])) (top_parts here tree)

-- the pieces of all children
abbrev pub pieces_together : (Level → Bool) → NodeTree → List (List PieceMeant) → List PieceMeant
pieces_together here tree [] = no_pieces here tree
pieces_together here tree (child ∷ children) = joined_pieces child (pieces_together here tree children)

-- pieces of the same parts, whose rows may stand in another order
abbrev pub SamePieces : List PieceMeant → List PieceMeant → Type 0
SamePieces [] [] = Unit {0}
SamePieces [] (other ∷ others) = ⊥
SamePieces (piece ∷ pieces) [] = ⊥
SamePieces (piece ∷ pieces) (other ∷ others) =
    (piece.0 ≡ other.0) × (IsPermutation piece.1 other.1 × SamePieces pieces others)

-- ---- the rows of a tree

-- the first of some tables
abbrev pub first_table : List (List TimedRow) → List TimedRow
first_table [] = []
first_table (rows ∷ tables) = rows

-- how many parts of a tree are topmost
abbrev pub part_count : (Level → Bool) → NodeTree → ℕ
part_count here tree = length (top_parts here tree)

-- the rows of a tree, made of those of its topmost parts
abbrev pub rows_mixed : (Level → Bool) → NodeTree → List (List TimedRow) → List TimedRow
rows_mixed here (node.Fetch info schema metric) tables = first_table tables
rows_mixed here (node.Filter info by input) tables =
    if here info.level then first_table tables
    else filter (λ row. predicate_truth by info.columns row.cells) (rows_mixed here input tables)
rows_mixed here (node.Align info by input) tables = first_table tables
rows_mixed here (node.GroupBy info by with input) tables =
    if here info.level then first_table tables else group_rows by with (rows_mixed here input tables)
rows_mixed here (node.Value info items input) tables =
    if here info.level then first_table tables
    else filter_map (value_row (columns_of input) items) (rows_mixed here input tables)
rows_mixed here (node.Top info most column input) tables =
    if here info.level then first_table tables else top_rows most column (rows_mixed here input tables)
rows_mixed here (node.Join info left right) tables =
    if here info.level then first_table tables
    else flat_map
    (pairs_of (columns_of left) (columns_of right) (rows_mixed here right (drop (part_count here left) tables)))
    (rows_mixed here left (take (part_count here left) tables))
rows_mixed here (node.Union info left right) tables =
    if here info.level then first_table tables
    else rows_mixed here left (take (part_count here left) tables)
    ++ rows_mixed here right (drop (part_count here left) tables)

-- the rows of a tree's topmost parts at some levels, made of those at lower ones
abbrev pub parts_mixed : (Level → Bool) → (Level → Bool) → NodeTree → List (List TimedRow) → List (List TimedRow)
parts_mixed below here (node.Fetch info schema metric) tables = first_table tables ∷ []
parts_mixed below here (node.Filter info by input) tables =
    if here info.level then rows_mixed below (node.Filter info by input) tables ∷ []
    else parts_mixed below here input tables
parts_mixed below here (node.Align info by input) tables = first_table tables ∷ []
parts_mixed below here (node.GroupBy info by with input) tables =
    if here info.level then rows_mixed below (node.GroupBy info by with input) tables ∷ []
    else parts_mixed below here input tables
parts_mixed below here (node.Value info items input) tables =
    if here info.level then rows_mixed below (node.Value info items input) tables ∷ []
    else parts_mixed below here input tables
parts_mixed below here (node.Top info most column input) tables =
    if here info.level then rows_mixed below (node.Top info most column input) tables ∷ []
    else parts_mixed below here input tables
parts_mixed below here (node.Join info left right) tables =
    if here info.level then rows_mixed below (node.Join info left right) tables ∷ []
    else parts_mixed below here left (take (part_count below left) tables)
    ++ parts_mixed below here right (drop (part_count below left) tables)
parts_mixed below here (node.Union info left right) tables =
    if here info.level then rows_mixed below (node.Union info left right) tables ∷ []
    else parts_mixed below here left (take (part_count below left) tables)
    ++ parts_mixed below here right (drop (part_count below left) tables)

-- ---- the work of joining

-- how many pairs the joins at some levels make, of the tables of a tree's topmost parts
abbrev pub joins_mixed : (Level → Bool) → (Level → Bool) → NodeTree → List (List TimedRow) → ℕ
joins_mixed below counts (node.Fetch info schema metric) tables = 0
joins_mixed below counts (node.Filter info by input) tables =
    if below info.level then 0 else joins_mixed below counts input tables
joins_mixed below counts (node.Align info by input) tables = 0
joins_mixed below counts (node.GroupBy info by with input) tables =
    if below info.level then 0 else joins_mixed below counts input tables
joins_mixed below counts (node.Value info items input) tables =
    if below info.level then 0 else joins_mixed below counts input tables
joins_mixed below counts (node.Top info most column input) tables =
    if below info.level then 0 else joins_mixed below counts input tables
joins_mixed below counts (node.Join info left right) tables =
    if below info.level then 0
    else joins_mixed below counts left (take (part_count below left) tables)
    + joins_mixed below counts right (drop (part_count below left) tables)
    + counted_if (counts info.level) (length (rows_mixed below (node.Join info left right) tables))
joins_mixed below counts (node.Union info left right) tables =
    if below info.level then 0
    else joins_mixed below counts left (take (part_count below left) tables)
    + joins_mixed below counts right (drop (part_count below left) tables)

-- ---- zones and the root

-- the rows that each piece stands for
abbrev pub piece_rows : List PieceMeant → List (List TimedRow)
piece_rows pieces = map (λ piece. piece.1) pieces

-- rows for each topmost part of a zone, as pieces
abbrev pub zone_pieces : NodeTree → List (List TimedRow) → List PieceMeant
zone_pieces tree tables = zip (map (λ part. part.0) (top_parts in_zone tree)) tables

-- what a zone hands up of what its leaves hand up
abbrev pub zone_mixed : TypedTree → List (List PieceMeant) → List PieceMeant
zone_mixed typed leaves =
    zone_pieces typed.tree
    (parts_mixed is_leaf in_zone typed.tree (piece_rows (pieces_together is_leaf typed.tree leaves)))

-- the root's table of what its zones hand up
abbrev pub root_mixed : TypedTree → List (List PieceMeant) → List TimedRow
root_mixed typed zones = rows_mixed in_zone typed.tree (piece_rows (pieces_together in_zone typed.tree zones))

-- the pairs that a zone makes itself, of what its leaves hand up
abbrev pub zone_joins : TypedTree → List (List PieceMeant) → ℕ
zone_joins typed leaves =
    joins_mixed is_leaf is_zone typed.tree (piece_rows (pieces_together is_leaf typed.tree leaves))

-- the pairs that the root makes itself, of what its zones hand up
abbrev pub root_joins : TypedTree → List (List PieceMeant) → ℕ
root_joins typed zones =
    joins_mixed in_zone is_root typed.tree (piece_rows (pieces_together in_zone typed.tree zones))

-- what a zone hands up over rows that are divided into its leaves
abbrev pub zone_answer : TypedTree → ℤ → List (List Row) → List PieceMeant
zone_answer typed moment leaves = zone_mixed typed (map (λ rows. leaf_part typed rows moment) leaves)

-- the table of a query over rows that are divided into zones and leaves
abbrev pub mixed_table : TypedTree → List (List (List Row)) → ℤ → List TimedRow
mixed_table typed zones moment = root_mixed typed (map (zone_answer typed moment) zones)

-- how much the leaves and the zones do of it, and then the root
abbrev pub mixed_load : TypedTree → List (List (List Row)) → ℤ → ℕ
mixed_load typed zones moment =
    sum_by (λ zone. sum_by (λ rows. leaf_load typed rows moment) zone + zone_load typed (together zone) moment) zones
    + root_load typed (all_rows zones) moment
