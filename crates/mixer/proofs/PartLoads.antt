-- The load of the parts that are done at some levels is what these levels do.
use Rattle.std.proofs.Common.{◌≡◌, ◌∙◌, ℕ, ◌+◌, Bool, true, false, List, [], ◌++◌, length, refl, ap, arith}
use Rattle.std.specs.List.{sum_by}
use Rattle.std.proofs.lemmas.List.Sums.{sum_by-append, sum_by-cons}
use Rattle.mon_value.specs.declared.grids.Grid.{Grid}
use Rattle.mon_value.specs.declared.rows.Row.{Row}
use Rattle.mon_value.specs.declared.columns.Column.{Column}
use Rattle.mon_schema.specs.Names.{SchemaLists}
use Rattle.typed_trees.specs.Branches.{common_columns}
use Rattle.typed_trees.specs.FixedColumns.{meeting_columns}
use Rattle.typed_trees.specs.LevelLoads.{counted_if, is_zone, load_at}
use Rattle.typed_trees.specs.Levels.{higher_level, is_leaf, meeting_level, AsRows, PartUse, TopPart, in_zone, part_or}
use Rattle.typed_trees.specs.Levels.{top_parts}
use Rattle.typed_trees.specs.Meaning.{load_of, points_reached, rows_meant}
use Rattle.typed_trees.specs.Nodes as node
use Rattle.typed_trees.specs.Nodes.{NodeTree, columns_of, level_of}
use Rattle.typed_trees.specs.declared.levels.Level.{Level}
use Rattle.typed_trees.specs.declared.levels.Level.TheVariants as level
use Rattle.typed_rows.proofs.TypedTrees.{AreRows}
use Rattle.mixer.proofs.JoinLoads.{IsClosed, local_closed, uncounted}
use Rattle.mixer.proofs.LeafHomes.{TargetSays}
use Rattle.mixer.proofs.PointLevels.{points_level}
use Rattle.mixer.proofs.LevelledTrees.{AreLevelled, leaf_local, moved, no_top, zone_higher}

counted : (b : Bool) (n : ℕ) → b ≡ true → counted_if b n ≡ n
counted true n e = refl
counted false n e = absurd cc

split_by : (b : Bool) (use_of : PartUse) (tree : NodeTree) (rest : List TopPart) (f : TopPart → ℕ) (n : ℕ)
    → (b ≡ true → n ≡ f (use_of, tree)) → (b ≡ false → n ≡ sum_by f rest)
    → n ≡ sum_by f (part_or b use_of tree rest)
split_by true use_of tree rest f n own more =
    omega (arith, own refl, sum_by-cons f (use_of, tree) [])
split_by false use_of tree rest f n own more = more refl

module _ (held : SchemaLists) (grid : Grid) (rows : List Row) (here : Level → Bool) (leaf_here : here level.Leaf
    ≡ true) where
  abbrev part_load : TopPart → ℕ
  part_load part = load_of grid part.1 rows

  -- all of a tree that is done here is the work of these levels
  whole_load : (tree : NodeTree) → AreRows held tree → AreLevelled held tree → IsClosed here tree
      → here (level_of tree) ≡ true → load_at here grid tree rows ≡ load_of grid tree rows
  whole_load (node.Fetch info schema metric) ruled own closed e = refl
  whole_load (node.Filter info by input) ruled own closed e =
      whole_load input ruled.1 own.1 closed.1 (closed.0 e)
  whole_load (node.Align info by input) ruled own closed e =
      counted (here info.level)
      (length (points_reached grid by input rows) + length (rows_meant grid (node.Align info by input) rows)) e
  whole_load (node.GroupBy info by with input) ruled own closed e =
      whole_load input ruled.1 own.1 closed.1 (closed.0 e)
  whole_load (node.Value info items input) ruled own closed e =
      whole_load input ruled.1 own.1 closed.1 (closed.0 e)
  whole_load (node.Top info most column input) ruled own closed e =
      whole_load input ruled.1 own.1 closed.1 (closed.0 e)
  whole_load (node.Join info left right) ruled own closed e =
      let below = closed.0 e in
      omega (
        arith,
        whole_load left ruled.1.0 own.1.0 closed.1.0 below.0,
        whole_load right ruled.1.1 own.1.1 closed.1.1 below.1,
        counted (here info.level) (length (rows_meant grid (node.Join info left right) rows)) e,
      )
  whole_load (node.Union info left right) ruled own closed e =
      let below = closed.0 e in
      omega (
        arith,
        whole_load left ruled.1.0 own.1.0 closed.1.0 below.0,
        whole_load right ruled.1.1 own.1.1 closed.1.1 below.1,
      )

  pub load_of_parts : (tree : NodeTree) → AreRows held tree → AreLevelled held tree → IsClosed here tree
      → load_at here grid tree rows ≡ sum_by (λ (part : TopPart). load_of grid part.1 rows) (top_parts here tree)
  load_of_parts (node.Fetch info schema metric) ruled own closed = refl
  load_of_parts (node.Filter info by input) ruled own closed =
      let tree = node.Filter info by input in
      split_by (here info.level) _ tree (top_parts here input) part_load (load_at here grid tree rows)
      (λ e. whole_load tree ruled own closed e) (λ e. load_of_parts input ruled.1 own.1 closed.1)
  load_of_parts (node.Align info by input) ruled own closed =
      let leaf : info.level ≡ level.Leaf =
      own.0 ∙ points_level held ruled.target ruled.found input ruled.points own.1 in
      let tree = node.Align info by input in
      omega (
        arith,
        counted (here info.level)
            (length (points_reached grid by input rows) + length (rows_meant grid (node.Align info by input) rows))
            (ap here leaf ∙ leaf_here),
        sum_by-cons part_load (AsRows, tree) [],
      )
  load_of_parts (node.GroupBy info by with input) ruled own closed =
      let tree = node.GroupBy info by with input in
      split_by (here info.level) _ tree (part_or (here (level_of input)) _ input (top_parts here input))
      part_load (load_at here grid tree rows)
      (λ e. whole_load tree ruled own closed e)
      (λ e. split_by (here (level_of input)) _ input (top_parts here input) part_load
      (load_at here grid input rows) (λ f. whole_load input ruled.1 own.1 closed.1 f)
      (λ f. load_of_parts input ruled.1 own.1 closed.1))
  load_of_parts (node.Value info items input) ruled own closed =
      let tree = node.Value info items input in
      split_by (here info.level) _ tree (top_parts here input) part_load (load_at here grid tree rows)
      (λ e. whole_load tree ruled own closed e) (λ e. load_of_parts input ruled.1 own.1 closed.1)
  load_of_parts (node.Top info most column input) ruled own closed =
      let tree = node.Top info most column input in
      split_by (here info.level) _ tree (part_or (here (level_of input)) _ input (top_parts here input))
      part_load (load_at here grid tree rows)
      (λ e. whole_load tree ruled own closed e)
      (λ e. split_by (here (level_of input)) _ input (top_parts here input) part_load
      (load_at here grid input rows) (λ f. whole_load input ruled.1 own.1 closed.1 f)
      (λ f. load_of_parts input ruled.1 own.1 closed.1))
  load_of_parts (node.Join info left right) ruled own closed =
      let tree = node.Join info left right in
      let lefts = top_parts here left in
      let rights = top_parts here right in
      split_by (here info.level) _ tree (lefts ++ rights) part_load (load_at here grid tree rows)
      (λ e. whole_load tree ruled own closed e)
      (λ e. omega (
        arith,
        load_of_parts left ruled.1.0 own.1.0 closed.1.0,
        load_of_parts right ruled.1.1 own.1.1 closed.1.1,
        uncounted (here info.level) (length (rows_meant grid tree rows)) e,
        sum_by-append part_load lefts rights,
      ))
  load_of_parts (node.Union info left right) ruled own closed =
      let tree = node.Union info left right in
      let lefts = top_parts here left in
      let rights = top_parts here right in
      split_by (here info.level) _ tree (lefts ++ rights) part_load (load_at here grid tree rows)
      (λ e. whole_load tree ruled own closed e)
      (λ e. omega (
        arith,
        load_of_parts left ruled.1.0 own.1.0 closed.1.0,
        load_of_parts right ruled.1.1 own.1.1 closed.1.1,
        sum_by-append part_load lefts rights,
      ))

-- ---- what a leaf does

pub leaf_load_parts : (held : SchemaLists) (grid : Grid) (rows : List Row) (tree : NodeTree) → AreRows held tree
    → AreLevelled held tree
    → load_at is_leaf grid tree rows ≡ sum_by (λ (part : TopPart). load_of grid part.1 rows) (top_parts is_leaf tree)
leaf_load_parts held grid rows tree ruled own =
    load_of_parts held grid rows is_leaf refl tree ruled own
    (local_closed (TargetSays held) held is_leaf tree (leaf_local held tree own))

-- ---- what a zone does with its leaves

counted_twice : (l : Level) (n : ℕ) → counted_if (in_zone l) n ≡ counted_if (is_leaf l) n + counted_if (is_zone l) n
counted_twice level.Leaf n = omega arith
counted_twice level.Zone n = omega arith
counted_twice level.Root n = omega arith

pub zone_and_leaves : (grid : Grid) (tree : NodeTree) (rows : List Row)
    → load_at in_zone grid tree rows ≡ load_at is_leaf grid tree rows + load_at is_zone grid tree rows
zone_and_leaves grid (node.Fetch info schema metric) rows = refl
zone_and_leaves grid (node.Filter info by input) rows = zone_and_leaves grid input rows
zone_and_leaves grid (node.Align info by input) rows =
    counted_twice info.level
    (length (points_reached grid by input rows) + length (rows_meant grid (node.Align info by input) rows))
zone_and_leaves grid (node.GroupBy info by with input) rows = zone_and_leaves grid input rows
zone_and_leaves grid (node.Value info items input) rows = zone_and_leaves grid input rows
zone_and_leaves grid (node.Top info most column input) rows = zone_and_leaves grid input rows
zone_and_leaves grid (node.Join info left right) rows =
    omega (
      arith,
      zone_and_leaves grid left rows,
      zone_and_leaves grid right rows,
      counted_twice info.level (length (rows_meant grid (node.Join info left right) rows)),
    )
zone_and_leaves grid (node.Union info left right) rows =
    omega (arith, zone_and_leaves grid left rows, zone_and_leaves grid right rows)

-- what is done in zones takes only what is done there or at leaves
meets_in_zone : (held : SchemaLists) (l : Level) (columns : List Column) → in_zone (meeting_level held l columns) ≡ true
    → in_zone l ≡ true
meets_in_zone held level.Leaf columns e = refl
meets_in_zone held level.Zone columns e = refl
meets_in_zone held level.Root columns e = absurd cc

pub zone_closed : (held : SchemaLists) (tree : NodeTree) → AreLevelled held tree → IsClosed in_zone tree
zone_closed held (node.Fetch info schema metric) own = tt
zone_closed held (node.Filter info by input) own =
    (λ e. moved in_zone info.level (level_of input) own.0 e, zone_closed held input own.1)
zone_closed held (node.Align info by input) own = tt
zone_closed held (node.GroupBy info by with input) own = (
  λ e. meets_in_zone held (level_of input) (meeting_columns by input) (moved in_zone info.level _ own.0 e),
  zone_closed held input own.1,
)
zone_closed held (node.Value info items input) own =
    (λ e. moved in_zone info.level (level_of input) own.0 e, zone_closed held input own.1)
zone_closed held (node.Top info most column input) own =
    (λ e. absurd (no_top in_zone info.level own.0 refl e), zone_closed held input own.1)
zone_closed held (node.Join info left right) own = (
  λ e. zone_higher (level_of left) (level_of right)
      (meets_in_zone held (higher_level (level_of left) (level_of right)) (common_columns held (columns_of left)
      (columns_of right))
      (moved in_zone info.level _ own.0 e)),
  (zone_closed held left own.1.0, zone_closed held right own.1.1),
)
zone_closed held (node.Union info left right) own = (
  λ e. zone_higher (level_of left) (level_of right) (moved in_zone info.level _ own.0 e),
  (zone_closed held left own.1.0, zone_closed held right own.1.1),
)
