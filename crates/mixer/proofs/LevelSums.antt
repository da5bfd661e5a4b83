-- Each alignment and each join is done at one level, so that the levels' loads are the whole load.
use Rattle.std.proofs.Common.{◌≡◌, ℕ, ◌+◌, Bool, true, false, List, [], length, refl, ap, arith}
use Rattle.mon_value.specs.declared.grids.Grid.{Grid}
use Rattle.mon_value.specs.declared.rows.Row.{Row}
use Rattle.typed_trees.specs.LevelLoads.{counted_if, is_zone, load_at}
use Rattle.typed_trees.specs.Levels.{is_leaf, is_root}
use Rattle.typed_trees.specs.Meaning.{load_of, points_reached, rows_meant}
use Rattle.typed_trees.specs.Nodes as node
use Rattle.typed_trees.specs.Nodes.{NodeTree}
use Rattle.typed_trees.specs.declared.levels.Level.{Level}
use Rattle.typed_trees.specs.declared.levels.Level.TheVariants as level
use Rattle.mon_value.specs.declared.tables.TimedRow.{TimedRow}
use Rattle.mixer.proofs.ApartPieces.{no_rows}

counted_once : (l : Level) (n : ℕ)
    → counted_if (is_leaf l) n + counted_if (is_zone l) n + counted_if (is_root l) n ≡ n
counted_once level.Leaf n = omega arith
counted_once level.Zone n = omega arith
counted_once level.Root n = omega arith

pub level_loads : (grid : Grid) (tree : NodeTree) (rows : List Row)
    → load_at is_leaf grid tree rows + load_at is_zone grid tree rows + load_at is_root grid tree rows
    ≡ load_of grid tree rows
level_loads grid (node.Fetch info schema metric) rows = refl
level_loads grid (node.Filter info by input) rows = level_loads grid input rows
level_loads grid (node.Align info by input) rows =
    counted_once info.level
    (length (points_reached grid by input rows) + length (rows_meant grid (node.Align info by input) rows))
level_loads grid (node.GroupBy info by with input) rows = level_loads grid input rows
level_loads grid (node.Value info items input) rows = level_loads grid input rows
level_loads grid (node.Top info most column input) rows = level_loads grid input rows
level_loads grid (node.Join info left right) rows =
    omega (
      arith,
      level_loads grid left rows,
      level_loads grid right rows,
      counted_once info.level (length (rows_meant grid (node.Join info left right) rows)),
    )
level_loads grid (node.Union info left right) rows =
    omega (arith, level_loads grid left rows, level_loads grid right rows)

none_by : (b : Bool) (n : ℕ) → n ≡ 0 → counted_if b n ≡ 0
none_by true n e = e
none_by false n e = refl

-- without rows there is no work
pub no_load : (counts : Level → Bool) (grid : Grid) (tree : NodeTree) → load_at counts grid tree [] ≡ 0
no_load counts grid (node.Fetch info schema metric) = refl
no_load counts grid (node.Filter info by input) = no_load counts grid input
no_load counts grid (node.Align info by input) =
    none_by (counts info.level) (0 + length (rows_meant grid (node.Align info by input) []))
    (ap (λ (rows : List TimedRow). 0 + length rows) (no_rows grid (node.Align info by input)))
no_load counts grid (node.GroupBy info by with input) = no_load counts grid input
no_load counts grid (node.Value info items input) = no_load counts grid input
no_load counts grid (node.Top info most column input) = no_load counts grid input
no_load counts grid (node.Join info left right) =
    omega (
      arith,
      no_load counts grid left,
      no_load counts grid right,
      none_by (counts info.level) (length (rows_meant grid (node.Join info left right) []))
          (ap (λ (rows : List TimedRow). length rows) (no_rows grid (node.Join info left right))),
    )
no_load counts grid (node.Union info left right) =
    omega (arith, no_load counts grid left, no_load counts grid right)
