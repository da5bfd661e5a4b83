-- The pairs that a zone or the root makes of pieces are the load that is its own.
use Rattle.std.proofs.Common.{◌≡◌, ◌∙◌, ℕ, ◌+◌, Bool, true, false, cond, List, ◌++◌, map, length, take, drop, refl}
use Rattle.std.proofs.Common.{sym, ap, arith}
use Rattle.std.proofs.lemmas.List.Sorted.{length_permutation}
use Rattle.mon_value.specs.declared.columns.Anchor.{Anchor}
use Rattle.mon_value.specs.declared.grids.Grid.{Grid}
use Rattle.mon_value.specs.declared.rows.Row.{Row}
use Rattle.mon_value.specs.declared.tables.TimedRow.{TimedRow}
use Rattle.mon_value.specs.declared.values.Value.{Value}
use Rattle.mon_schema.specs.Names.{SchemaLists}
use Rattle.typed_trees.specs.LevelLoads.{counted_if, load_at}
use Rattle.typed_trees.specs.Meaning.{rows_meant}
use Rattle.typed_trees.specs.Nodes as node
use Rattle.typed_trees.specs.Nodes.{NodeTree, level_of}
use Rattle.typed_trees.specs.Levels.{AsRows, TopPart, part_or, top_parts}
use Rattle.typed_trees.specs.declared.levels.Level.{Level}
use Rattle.typed_trees.specs.declared.levels.Level.TheVariants as level
use Rattle.typed_rows.proofs.TypedTrees.{AreRows}
use Rattle.mixer.specs.Mixing.{joins_mixed, part_count, rows_mixed}
use Rattle.mixer.proofs.PointLevels.{points_level}
use Rattle.mixer.proofs.LevelledTrees.{AreLevelled}
use Rattle.mixer.proofs.LocalTrees.{IsLocal}
use Rattle.mixer.proofs.MixedTrees.{any_use, drop_parts, rows_mixed-meant, tables_of, take_parts}
use Rattle.mixer.proofs.SameTables.{SameTables, rows_mixed-same, same_drop, same_take}

pub uncounted : (b : Bool) (n : ℕ) → b ≡ false → counted_if b n ≡ 0
uncounted true n e = absurd cc
uncounted false n e = refl

-- ---- tables whose rows stand in another order

number_if : (b : Bool) (n m : ℕ) → n ≡ m → cond b 0 n ≡ cond b 0 m
number_if b n m e = ap (λ k. cond b 0 k) e

pub joins_mixed-same : (below counts : Level → Bool) (tree : NodeTree) (ps qs : List (List TimedRow)) → SameTables ps qs
    → joins_mixed below counts tree ps ≡ joins_mixed below counts tree qs
joins_mixed-same below counts (node.Fetch info schema metric) ps qs same = refl
joins_mixed-same below counts (node.Filter info by input) ps qs same =
    number_if (below info.level) _ _ (joins_mixed-same below counts input ps qs same)
joins_mixed-same below counts (node.Align info by input) ps qs same = refl
joins_mixed-same below counts (node.GroupBy info by with input) ps qs same =
    number_if (below info.level) _ _ (joins_mixed-same below counts input ps qs same)
joins_mixed-same below counts (node.Value info items input) ps qs same =
    number_if (below info.level) _ _ (joins_mixed-same below counts input ps qs same)
joins_mixed-same below counts (node.Top info most column input) ps qs same =
    number_if (below info.level) _ _ (joins_mixed-same below counts input ps qs same)
joins_mixed-same below counts (node.Join info left right) ps qs same =
    let n = part_count below left in
    let tree = node.Join info left right in
    let pairs : length (rows_mixed below tree ps) ≡ length (rows_mixed below tree qs) =
    sym (length_permutation (rows_mixed below tree ps) (rows_mixed below tree qs)
    (rows_mixed-same below tree ps qs same)) in
    let one = joins_mixed-same below counts left (take n ps) (take n qs) (same_take n ps qs same) in
    let other = joins_mixed-same below counts right (drop n ps) (drop n qs) (same_drop n ps qs same) in
    λ i. cond (below info.level) 0 (one i + other i + counted_if (counts info.level) (pairs i))
joins_mixed-same below counts (node.Union info left right) ps qs same =
    let n = part_count below left in
    let one = joins_mixed-same below counts left (take n ps) (take n qs) (same_take n ps qs same) in
    let other = joins_mixed-same below counts right (drop n ps) (drop n qs) (same_drop n ps qs same) in
    λ i. cond (below info.level) 0 (one i + other i)

-- ---- the load of a level

-- what is done at some levels takes only what is done there too
abbrev pub IsClosed : (Level → Bool) → NodeTree → Type 0
IsClosed below (node.Fetch info schema metric) = Unit {0}
IsClosed below (node.Filter info by input) =
    (below info.level ≡ true → below (level_of input) ≡ true) × IsClosed below input
IsClosed below (node.Align info by input) = Unit {0}
IsClosed below (node.GroupBy info by with input) =
    (below info.level ≡ true → below (level_of input) ≡ true) × IsClosed below input
IsClosed below (node.Value info items input) =
    (below info.level ≡ true → below (level_of input) ≡ true) × IsClosed below input
IsClosed below (node.Top info most column input) =
    (below info.level ≡ true → below (level_of input) ≡ true) × IsClosed below input
IsClosed below (node.Join info left right) =
    (below info.level ≡ true → (below (level_of left) ≡ true) × (below (level_of right) ≡ true))
    × (IsClosed below left × IsClosed below right)
IsClosed below (node.Union info left right) =
    (below info.level ≡ true → (below (level_of left) ≡ true) × (below (level_of right) ≡ true))
    × (IsClosed below left × IsClosed below right)

module _ (held : SchemaLists) (grid : Grid) (rows : List Row) (below counts : Level → Bool)
    (apart : (l : Level) → below l ≡ true → counts l ≡ false) (above : counts level.Leaf ≡ false) where
  -- what is done below counts nothing
  none_below : (tree : NodeTree) → AreRows held tree → AreLevelled held tree → IsClosed below tree
      → below (level_of tree) ≡ true → load_at counts grid tree rows ≡ 0
  none_below (node.Fetch info schema metric) ruled own closed e = refl
  none_below (node.Filter info by input) ruled own closed e = none_below input ruled.1 own.1 closed.1 (closed.0 e)
  none_below (node.Align info by input) ruled own closed e = uncounted (counts info.level) _ (apart info.level e)
  none_below (node.GroupBy info by with input) ruled own closed e =
      none_below input ruled.1 own.1 closed.1 (closed.0 e)
  none_below (node.Value info items input) ruled own closed e = none_below input ruled.1 own.1 closed.1 (closed.0 e)
  none_below (node.Top info most column input) ruled own closed e =
      none_below input ruled.1 own.1 closed.1 (closed.0 e)
  none_below (node.Join info left right) ruled own closed e =
      omega (
        arith,
        none_below left ruled.1.0 own.1.0 closed.1.0 (closed.0 e).0,
        none_below right ruled.1.1 own.1.1 closed.1.1 (closed.0 e).1,
        uncounted (counts info.level) (length (rows_meant grid (node.Join info left right) rows)) (apart info.level e),
      )
  none_below (node.Union info left right) ruled own closed e =
      omega (
        arith,
        none_below left ruled.1.0 own.1.0 closed.1.0 (closed.0 e).0,
        none_below right ruled.1.1 own.1.1 closed.1.1 (closed.0 e).1,
      )

  one_by : (b : Bool) (tree : NodeTree) (rest : List TopPart) (make : List (List TimedRow) → ℕ) (n : ℕ)
      → (b ≡ true → n ≡ 0)
      → (b ≡ false → make (map (λ (part : TopPart). rows_meant grid part.1 rows) rest) ≡ n)
      → cond b 0 (make (map (λ (part : TopPart). rows_meant grid part.1 rows) (part_or b AsRows tree rest))) ≡ n
  one_by true tree rest make n none own = sym (none refl)
  one_by false tree rest make n none own = own refl

  pub joins_mixed-load : (tree : NodeTree) → AreRows held tree → AreLevelled held tree → IsClosed below tree
      → joins_mixed below counts tree (tables_of grid rows below tree) ≡ load_at counts grid tree rows
  joins_mixed-load (node.Fetch info schema metric) ruled own closed = refl
  joins_mixed-load (node.Filter info by input) ruled own closed =
      let tree = node.Filter info by input in
      one_by (below info.level) tree (top_parts below input) (joins_mixed below counts input)
      (load_at counts grid tree rows) (λ e. none_below tree ruled own closed e)
      (λ e. joins_mixed-load input ruled.1 own.1 closed.1)
  joins_mixed-load (node.Align info by input) ruled own closed =
      let leaf : info.level ≡ level.Leaf =
      own.0 ∙ points_level held ruled.target ruled.found input ruled.points own.1 in
      sym (uncounted (counts info.level) _ (ap counts leaf ∙ above))
  joins_mixed-load (node.GroupBy info by with input) ruled own closed =
      let tree = node.GroupBy info by with input in
      one_by (below info.level) tree (part_or (below (level_of input)) _ input (top_parts below input))
      (joins_mixed below counts input)
      (load_at counts grid tree rows) (λ e. none_below tree ruled own closed e)
      (λ e. ap (joins_mixed below counts input) (any_use grid rows below _ input)
      ∙ joins_mixed-load input ruled.1 own.1 closed.1)
  joins_mixed-load (node.Value info items input) ruled own closed =
      let tree = node.Value info items input in
      one_by (below info.level) tree (top_parts below input) (joins_mixed below counts input)
      (load_at counts grid tree rows) (λ e. none_below tree ruled own closed e)
      (λ e. joins_mixed-load input ruled.1 own.1 closed.1)
  joins_mixed-load (node.Top info most column input) ruled own closed =
      let tree = node.Top info most column input in
      one_by (below info.level) tree (part_or (below (level_of input)) _ input (top_parts below input))
      (joins_mixed below counts input)
      (load_at counts grid tree rows) (λ e. none_below tree ruled own closed e)
      (λ e. ap (joins_mixed below counts input) (any_use grid rows below _ input)
      ∙ joins_mixed-load input ruled.1 own.1 closed.1)
  joins_mixed-load (node.Join info left right) ruled own closed =
      let tree = node.Join info left right in
      let n = part_count below left in
      let lefts = top_parts below left in
      let rights = top_parts below right in
      let table : TopPart → List TimedRow = λ part. rows_meant grid part.1 rows in
      let one : joins_mixed below counts left (take n (map table (lefts ++ rights))) ≡ load_at counts grid left rows =
      ap (joins_mixed below counts left) (take_parts table lefts rights)
      ∙ joins_mixed-load left ruled.1.0 own.1.0 closed.1.0 in
      let other : joins_mixed below counts right (drop n (map table (lefts ++ rights)))
      ≡ load_at counts grid right rows =
      ap (joins_mixed below counts right) (drop_parts table lefts rights)
      ∙ joins_mixed-load right ruled.1.1 own.1.1 closed.1.1 in
      let make : List (List TimedRow) → ℕ = λ tables.
      joins_mixed below counts left (take n tables) + joins_mixed below counts right (drop n tables)
      + counted_if (counts info.level) (length (rows_mixed below tree tables)) in
      one_by (below info.level) tree (lefts ++ rights) make (load_at counts grid tree rows)
      (λ e. none_below tree ruled own closed e)
      (λ e.
      let whole : map table (lefts ++ rights) ≡ tables_of grid rows below tree =
      ap (λ b. map table (part_or b AsRows tree (lefts ++ rights))) (sym e) in
      let pairs : length (rows_mixed below tree (map table (lefts ++ rights))) ≡ length (rows_meant grid tree rows) =
      ap (λ (l : List TimedRow). length l) (ap (rows_mixed below tree) whole ∙ rows_mixed-meant grid rows below tree) in
      λ i. one i + other i + counted_if (counts info.level) (pairs i))
  joins_mixed-load (node.Union info left right) ruled own closed =
      let tree = node.Union info left right in
      let n = part_count below left in
      let lefts = top_parts below left in
      let rights = top_parts below right in
      let table : TopPart → List TimedRow = λ part. rows_meant grid part.1 rows in
      let one : joins_mixed below counts left (take n (map table (lefts ++ rights))) ≡ load_at counts grid left rows =
      ap (joins_mixed below counts left) (take_parts table lefts rights)
      ∙ joins_mixed-load left ruled.1.0 own.1.0 closed.1.0 in
      let other : joins_mixed below counts right (drop n (map table (lefts ++ rights)))
      ≡ load_at counts grid right rows =
      ap (joins_mixed below counts right) (drop_parts table lefts rights)
      ∙ joins_mixed-load right ruled.1.1 own.1.1 closed.1.1 in
      let make : List (List TimedRow) → ℕ = λ tables.
      joins_mixed below counts left (take n tables) + joins_mixed below counts right (drop n tables) in
      one_by (below info.level) tree (lefts ++ rights) make (load_at counts grid tree rows)
      (λ e. none_below tree ruled own closed e) (λ e i. one i + other i)

-- levels that are local to a home are closed
module _ {H : Type 0} (Says : H → Anchor → Value → Type 0) (held : SchemaLists) (here : Level → Bool) where
  pub local_closed : (tree : NodeTree) → IsLocal Says held here tree → IsClosed here tree
  local_closed (node.Fetch info schema metric) local = tt
  local_closed (node.Filter info by input) local = (local.0, local_closed input local.1)
  local_closed (node.Align info by input) local = tt
  local_closed (node.GroupBy info by with input) local = ((λ e. (local.0 e).0), local_closed input local.1)
  local_closed (node.Value info items input) local = (local.0, local_closed input local.1)
  local_closed (node.Top info most column input) local = ((λ e. absurd (local.0 e)), local_closed input local.1)
  local_closed (node.Join info left right) local =
      ((λ e. (local.0 e).0), (local_closed left local.1.0, local_closed right local.1.1))
  local_closed (node.Union info left right) local =
      (local.0, (local_closed left local.1.0, local_closed right local.1.1))
