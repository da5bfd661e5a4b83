-- The level at which an operation is done, and what a leaf and a zone hand up of a query.
use Rattle.std.specs.Prelude.{ℕ, ◌+◌, ◌==◌, ◌&&◌, Bool, true, false, List, [], ◌∷◌, Option, Some, None, slice_get}
use Rattle.std.specs.Prelude.{if◌then◌else◌, ℤ, not, sum_by, ◌++◌, length, map}
use Rattle.std.specs.List.{list_any}
use Rattle.std.specs.Option.{option_map_or}
use Rattle.mon_value.specs.Same.{same_text}
use Rattle.mon_value.specs.declared.columns.Anchor.{Anchor}
use Rattle.mon_value.specs.declared.columns.Anchor.TheVariants as anchor
use Rattle.mon_value.specs.declared.columns.Column.{Column}
use Rattle.mon_value.specs.declared.schemas.Field.{Field}
use Rattle.mon_value.specs.declared.schemas.TargetSchema.{TargetSchema}
use Rattle.mon_schema.specs.Names.{SchemaLists, target_named}
use Rattle.mon_value.specs.Groups.{group_keys, top_rows}
use Rattle.mon_value.specs.declared.aggregates.Aggregate.{Aggregate}
use Rattle.mon_value.specs.declared.grids.Grid.{Grid}
use Rattle.mon_value.specs.declared.rows.Row.{Row}
use Rattle.mon_value.specs.declared.tables.TimedRow.{TimedRow}
use Rattle.typed_trees.specs.declared.levels.Level.{Level}
use Rattle.typed_trees.specs.declared.levels.Level.TheVariants as level
use Rattle.typed_trees.specs.Meaning.{grid_of, rows_meant}
use Rattle.typed_trees.specs.Nodes as node
use Rattle.typed_trees.specs.Nodes.{NodeTree, TypedTree, level_of}

-- The level at which an operation is done, by what its columns are anchored to.

abbrev pub is_leaf : Level → Bool
is_leaf level.Leaf = true
is_leaf level.Zone = false
is_leaf level.Root = false

abbrev pub is_root : Level → Bool
is_root level.Leaf = false
is_root level.Zone = false
is_root level.Root = true

-- the higher of two levels
abbrev pub higher_level : Level → Level → Level
higher_level level.Leaf other = other
higher_level level.Zone level.Root = level.Root
higher_level level.Zone other = level.Zone
higher_level level.Root other = level.Root

abbrev pub same_anchor : Anchor → Anchor → Bool
same_anchor (anchor.Field schema field) (anchor.Field other place) = same_text schema other && (field == place)
same_anchor (anchor.Field schema field) anchor.Location = false
same_anchor anchor.Location (anchor.Field schema field) = false
same_anchor anchor.Location anchor.Location = true

-- whether the field at a place is marked as the location
abbrev pub marks_location : ℕ → List Field → Bool
marks_location place fields = option_map_or (λ (field : Field). field.location) (slice_get fields place) false

-- whether an anchor says where a target is
abbrev pub is_location_anchor : SchemaLists → Anchor → Bool
is_location_anchor held anchor.Location = true
is_location_anchor held (anchor.Field schema field) =
    option_map_or (λ (target : TargetSchema). marks_location field target.fields)
    (target_named schema held.targets) false

-- whether a column says where its targets are
abbrev pub is_located : SchemaLists → Column → Bool
is_located held column = option_map_or (is_location_anchor held) column.anchor false

-- what two columns that hold the same are both anchored to: the same, or at least the location
abbrev pub common_anchor : SchemaLists → Option Anchor → Option Anchor → Option Anchor
common_anchor held (Some a) (Some b) =
    if same_anchor a b then Some a
    else if is_location_anchor held a && is_location_anchor held b then Some anchor.Location
    else None
common_anchor held (Some a) None = None
common_anchor held None b = None

abbrev pub is_anchored : Anchor → Column → Bool
is_anchored wanted column = option_map_or (same_anchor wanted) column.anchor false

-- whether each of a schema's fields, those from place `next` on, is the anchor of a column
abbrev pub have_fields : List ℕ → ℕ → List Field → List Column → Bool
have_fields schema next [] columns = true
have_fields schema next (field ∷ fields) columns =
    list_any (is_anchored (anchor.Field schema next)) columns && have_fields schema (next + 1) fields columns

-- whether the columns tell the whole target of the schema that an anchor names
abbrev pub names_target : SchemaLists → List Column → Anchor → Bool
names_target held columns anchor.Location = false
names_target held columns (anchor.Field schema field) =
    option_map_or (λ (target : TargetSchema). have_fields schema 0 target.fields columns)
    (target_named schema held.targets) false

-- whether the columns tell the whole target of one schema, so that rows that agree in them lie on one leaf
abbrev pub tell_target : SchemaLists → List Column → Bool
tell_target held columns = list_any (λ column. option_map_or (names_target held columns) column.anchor false) columns

-- a zone, where one of the columns says where its targets are, or else the root
abbrev pub located_level : SchemaLists → List Column → Level
located_level held columns = if list_any (is_located held) columns then level.Zone else level.Root

-- the level at which rows that agree in some columns can be brought together, where they come from a level
abbrev pub meeting_level : SchemaLists → Level → List Column → Level
meeting_level held level.Leaf columns =
    if tell_target held columns then level.Leaf else located_level held columns
meeting_level held level.Zone columns = located_level held columns
meeting_level held level.Root columns = level.Root

-- What a leaf and a zone hand up of a query. Each evaluates, over the rows that it has, the parts of the tree that
-- are done at its level or below. Of each part that is topmost among these one piece goes up: the rows of the part;
-- or their groups, where a `group_by` that is done higher up stands directly above the part; or the rows that come
-- first at each time, where a `top` does.

-- ---- which parts of a tree have a piece

-- what of a part's rows goes up: all of them; their groups by the cells at some places, with aggregates that aren't
-- finished; so many that come first at each time by a column
pub data PartUse : Type 0 where
  AsRows : PartUse
  ToGroup : List ℕ → List Aggregate → PartUse
  ToCut : ℕ → ℕ → PartUse

-- a part of a tree, and what of it goes up
abbrev pub TopPart : Type 0
TopPart = PartUse × NodeTree

-- a part alone where it is done here, and else the parts below it
abbrev pub part_or : Bool → PartUse → NodeTree → List TopPart → List TopPart
part_or here use_of part below = if here then (use_of, part) ∷ [] else below

-- the topmost parts that are done at some levels, from the left. Points are aligned where they are fetched.
abbrev pub top_parts : (Level → Bool) → NodeTree → List TopPart
top_parts here (node.Fetch info schema metric) = (AsRows, node.Fetch info schema metric) ∷ []
top_parts here (node.Filter info by input) =
    part_or (here info.level) AsRows (node.Filter info by input) (top_parts here input)
top_parts here (node.Align info by input) = (AsRows, node.Align info by input) ∷ []
top_parts here (node.GroupBy info by with input) =
    part_or (here info.level) AsRows (node.GroupBy info by with input)
    (part_or (here (level_of input)) (ToGroup by with) input (top_parts here input))
top_parts here (node.Value info items input) =
    part_or (here info.level) AsRows (node.Value info items input) (top_parts here input)
top_parts here (node.Top info most column input) =
    part_or (here info.level) AsRows (node.Top info most column input)
    (part_or (here (level_of input)) (ToCut most column) input (top_parts here input))
top_parts here (node.Join info left right) =
    part_or (here info.level) AsRows (node.Join info left right) (top_parts here left ++ top_parts here right)
top_parts here (node.Union info left right) =
    part_or (here info.level) AsRows (node.Union info left right) (top_parts here left ++ top_parts here right)

-- what a zone does, with its leaves
abbrev pub in_zone : Level → Bool
in_zone level = not (is_root level)

-- ---- what a piece stands for

-- the rows of a part, and what of them goes up
abbrev pub PieceMeant : Type 0
PieceMeant = PartUse × List TimedRow

abbrev pub piece_meant : Grid → List Row → TopPart → PieceMeant
piece_meant grid rows part = (part.0, rows_meant grid part.1 rows)

-- the pieces of some levels over rows, in the order of the tree
abbrev pub pieces_meant : (Level → Bool) → Grid → NodeTree → List Row → List PieceMeant
pieces_meant here grid tree rows = map (piece_meant grid rows) (top_parts here tree)

-- a leaf's part of a query that is asked at a moment, over the leaf's rows
abbrev pub leaf_part : TypedTree → List Row → ℤ → List PieceMeant
leaf_part typed rows moment = pieces_meant is_leaf (grid_of typed moment) typed.tree rows

-- a zone's part of it, over the rows of the zone's leaves
abbrev pub zone_part : TypedTree → List Row → ℤ → List PieceMeant
zone_part typed rows moment = pieces_meant in_zone (grid_of typed moment) typed.tree rows

-- ---- what is sent

-- how many rows, or groups, go up of some rows
abbrev pub sent_of : PartUse → List TimedRow → ℕ
sent_of AsRows rows = length rows
sent_of (ToGroup by with) rows = length (group_keys by rows)
sent_of (ToCut most column) rows = length (top_rows most column rows)

abbrev pub pieces_sent : List PieceMeant → ℕ
pieces_sent pieces = sum_by (λ piece. sent_of piece.0 piece.1) pieces

-- how many rows and groups a leaf sends
abbrev pub sent_amount : TypedTree → List Row → ℤ → ℕ
sent_amount typed rows moment = pieces_sent (leaf_part typed rows moment)
