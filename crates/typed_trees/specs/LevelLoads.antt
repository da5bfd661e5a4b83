-- How much of a query's work each level does. The load counts points and rows where they are aligned or joined, and
-- each alignment and each join is done at one level.
use Rattle.std.specs.Prelude.{ℕ, ℤ, ◌+◌, Bool, true, false, List, length, if◌then◌else◌}
use Rattle.mon_value.specs.declared.grids.Grid.{Grid}
use Rattle.mon_value.specs.declared.rows.Row.{Row}
use Rattle.typed_trees.specs.Levels.{is_leaf, is_root}
use Rattle.typed_trees.specs.Meaning.{points_reached, grid_of, rows_meant}
use Rattle.typed_trees.specs.Nodes as node
use Rattle.typed_trees.specs.Nodes.{NodeTree, TypedTree}
use Rattle.typed_trees.specs.declared.levels.Level.{Level}
use Rattle.typed_trees.specs.declared.levels.Level.TheVariants as level

abbrev pub is_zone : Level → Bool
is_zone level.Leaf = false
is_zone level.Zone = true
is_zone level.Root = false

abbrev pub counted_if : Bool → ℕ → ℕ
counted_if counts load = if counts then load else 0

-- the load of those alignments and joins that are done at some levels
abbrev pub load_at : (Level → Bool) → Grid → NodeTree → List Row → ℕ
load_at here grid (node.Fetch info schema metric) rows = 0
load_at here grid (node.Filter info by input) rows = load_at here grid input rows
load_at here grid (node.Align info by input) rows =
    counted_if (here info.level)
    (length (points_reached grid by input rows) + length (rows_meant grid (node.Align info by input) rows))
load_at here grid (node.GroupBy info by with input) rows = load_at here grid input rows
load_at here grid (node.Value info items input) rows = load_at here grid input rows
load_at here grid (node.Top info most column input) rows = load_at here grid input rows
load_at here grid (node.Join info left right) rows =
    load_at here grid left rows + load_at here grid right rows
    + counted_if (here info.level) (length (rows_meant grid (node.Join info left right) rows))
load_at here grid (node.Union info left right) rows = load_at here grid left rows + load_at here grid right rows

-- what a leaf does of a query that is asked at a moment, over the leaf's rows
abbrev pub leaf_load : TypedTree → List Row → ℤ → ℕ
leaf_load typed rows moment = load_at is_leaf (grid_of typed moment) typed.tree rows

-- what a zone does of it itself, over the rows of its leaves
abbrev pub zone_load : TypedTree → List Row → ℤ → ℕ
zone_load typed rows moment = load_at is_zone (grid_of typed moment) typed.tree rows

-- what the root does of it itself, over all rows
abbrev pub root_load : TypedTree → List Row → ℤ → ℕ
root_load typed rows moment = load_at is_root (grid_of typed moment) typed.tree rows
