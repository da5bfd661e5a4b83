-- Operations on rows of two sides that share no home: what they make of both is what they make of the one, and then
-- what they make of the other.
use Rattle.std.proofs.Common.{◌≡◌, ◌∙◌, ℕ, Bool, true, false, cond, List, [], ◌∷◌, ◌++◌, map, append-nil, refl, sym}
use Rattle.std.proofs.Common.{ap, subst}
use Rattle.std.specs.List.{AllByRecursion, filter, flat_map}
use Rattle.std.proofs.lemmas.Bool.{false_from_ne_true}
use Rattle.std.proofs.lemmas.List.{map-append}
use Rattle.std.proofs.lemmas.List.Concat.{flat_map-append}
use Rattle.std.proofs.lemmas.List.Elements.{filter-append}
use Rattle.mon_value.specs.Grids.{aligned_values}
use Rattle.mon_value.specs.Groups.{group_key, group_row, group_rows, rows_by_group}
use Rattle.mon_value.specs.Tables.{is_pair, pair_of, pairs_of}
use Rattle.mon_value.specs.Same.{same_row}
use Rattle.mon_value.specs.Order.{row_of}
use Rattle.mon_value.specs.LeafHistories.{points_by_series}
use Rattle.mon_value.specs.declared.aggregates.Aggregate.{Aggregate}
use Rattle.mon_value.specs.declared.aligners.Aligner.{Aligner}
use Rattle.mon_value.specs.declared.columns.Anchor.{Anchor}
use Rattle.mon_value.specs.declared.columns.Anchor.TheVariants as anchor
use Rattle.mon_value.specs.declared.columns.Column.{Column}
use Rattle.mon_value.specs.declared.grids.Grid.{Grid}
use Rattle.mon_value.specs.declared.rows.Point.{Point}
use Rattle.mon_value.specs.declared.rows.Row.{Row}
use Rattle.mon_value.specs.declared.rows.SeriesKey.{SeriesKey}
use Rattle.mon_value.specs.declared.tables.TimedRow.{TimedRow}
use Rattle.mon_value.specs.declared.values.Value.{Value}
use Rattle.mon_value.proofs.SameLemmas.{same_row-Decides}
use Rattle.mon_schema.specs.Names.{SchemaLists}
use Rattle.typed_trees.specs.Branches.{common_columns}
use Rattle.typed_trees.specs.Groupings.{key_columns_at}
use Rattle.typed_trees.specs.Levels.{is_location_anchor, same_anchor}
use Rattle.typed_trees.specs.Meaning.{aligned_rows}
use Rattle.mon_meaning.proofs.ApartKeys.{items_by_key-apart}
use Rattle.mon_meaning.proofs.ApartSeries.{series-apart}
use Rattle.typed_trees.specs.FixedColumns.{fixed_columns}
use Rattle.typed_trees.specs.declared.fixed.Fixed.{Fixed}
use Rattle.mixer.proofs.FixedHomes.{Fixes, literals}
use Rattle.mixer.proofs.HeldCells as held_cells
use Rattle.mixer.proofs.HeldCells.{Stems, Tell}
use Rattle.mixer.proofs.PairHomes as pair_homes
use Rattle.mixer.proofs.StemmingRows.{AllStem, keys_stem, pair_agrees}

-- ---- points by their series

abbrev SeriesGroup : Type 0
SeriesGroup = SeriesKey × List Point

module _ (P Q : SeriesKey → Type 0) (apart : (key : SeriesKey) → P key → Q key → ⊥) where
  -- series that stand on one side alone are aligned there
  pub aligned-apart : (by : Aligner) (grid : Grid) (xs ys : List Row) → AllByRecursion (λ (row : Row). P row.key) xs
      → AllByRecursion (λ (row : Row). Q row.key) ys
      → aligned_rows by grid (xs ++ ys) ≡ aligned_rows by grid xs ++ aligned_rows by grid ys
  aligned-apart by grid xs ys p q =
      let made : SeriesGroup → List TimedRow = λ series. map (row_of series.0) (aligned_values by grid series.1) in
      ap (flat_map made) (series-apart P Q apart xs ys p q) ∙ flat_map-append made (points_by_series xs)
      (points_by_series ys)

-- ---- groups

module _ {H : Type 0} (Says : H → Anchor → Value → Type 0) (P Q : H → Type 0)
    (apart : (home : H) → P home → Q home → ⊥) (columns : List Column) (by : List ℕ) (fixed : List Fixed)
    (tell : Tell Says (key_columns_at columns by ++ fixed_columns columns fixed)) where
  abbrev Listed : (H → Type 0) → TimedRow → Type 0
  Listed R key = Stems Says (Fixes Says R fixed columns) (key_columns_at columns by) key.cells

  -- homes that say the same of the listed cells and the same literals are one, so no group has rows of both sides
  cells_apart : (key : TimedRow) → Listed P key → Listed Q key → ⊥
  cells_apart key p q =
      let listed = key_columns_at columns by in
      let others = fixed_columns columns fixed in
      let agree = literals Says p.home q.home columns fixed p.from.1 q.from.1 in
      let one : p.home ≡ q.home =
      tell p.home q.home (key.cells ++ agree.cells)
      (held_cells.Holds-append Says p.home listed others key.cells agree.cells p.holds agree.left)
      (held_cells.Holds-append Says q.home listed others key.cells agree.cells q.holds agree.right) in
      apart q.home (subst P one p.from.0) q.from.0

  groups-apart : (xs ys : List TimedRow) → AllStem Says (Fixes Says P fixed columns) columns xs
      → AllStem Says (Fixes Says Q fixed columns) columns ys
      → rows_by_group by (xs ++ ys) ≡ rows_by_group by xs ++ rows_by_group by ys
  groups-apart xs ys p q =
      items_by_key-apart same_row same_row-Decides (group_key by) (Listed P) (Listed Q) cells_apart xs ys
      (keys_stem Says (Fixes Says P fixed columns) columns by xs p)
      (keys_stem Says (Fixes Says Q fixed columns) columns by ys q)

  pub group_rows-apart : (with : List Aggregate) (xs ys : List TimedRow)
      → AllStem Says (Fixes Says P fixed columns) columns xs
      → AllStem Says (Fixes Says Q fixed columns) columns ys
      → group_rows by with (xs ++ ys) ≡ group_rows by with xs ++ group_rows by with ys
  group_rows-apart with xs ys p q =
      ap (map (group_row with)) (groups-apart xs ys p q)
      ∙ map-append (group_row with) (rows_by_group by xs) (rows_by_group by ys)

-- ---- pairs of which some rows have none

none_by : (b : Bool) (x : TimedRow) (xs : List TimedRow) → b ≡ false → xs ≡ [] → cond b (x ∷ xs) xs ≡ []
none_by b x xs e none = ap (λ c. cond c (x ∷ xs) xs) e ∙ none

module _ {H : Type 0} (Says : H → Anchor → Value → Type 0) (held : SchemaLists)
    (at_least : (home : H) (a : Anchor) (x : Value) → is_location_anchor held a ≡ true → Says home a x
    → Says home anchor.Location x)
    (alike : (home : H) (a b : Anchor) (x : Value) → same_anchor a b ≡ true → Says home b x → Says home a x)
    (P Q : H → Type 0) (apart : (home : H) → P home → Q home → ⊥) where
  -- ---- pairs

  no_pair : (lefts rights : List Column) → Tell Says (common_columns held lefts rights) → (left right : TimedRow)
      → Stems Says P lefts left.cells → Stems Says Q rights right.cells → is_pair lefts rights left right ≡ false
  no_pair lefts rights tell left right p q =
      false_from_ne_true (is_pair lefts rights left right)
      (λ pair. let agree = pair_homes.agree_in Says held at_least alike p.home q.home rights right.cells q.holds lefts
      left.cells p.holds (pair_agrees lefts rights left right pair) in
      let one : p.home ≡ q.home = tell p.home q.home agree.cells agree.left agree.right in
      apart q.home (subst P one p.from) q.from)

  no_pair_back : (lefts rights : List Column) → Tell Says (common_columns held lefts rights)
      → (left right : TimedRow) → Stems Says Q lefts left.cells → Stems Says P rights right.cells
      → is_pair lefts rights left right ≡ false
  no_pair_back lefts rights tell left right q p =
      false_from_ne_true (is_pair lefts rights left right)
      (λ pair. let agree = pair_homes.agree_in Says held at_least alike q.home p.home rights right.cells p.holds lefts
      left.cells q.holds (pair_agrees lefts rights left right pair) in
      let one : q.home ≡ p.home = tell q.home p.home agree.cells agree.left agree.right in
      apart q.home (subst P (sym one) p.from) q.from)

  none_behind : (lefts rights : List Column) → Tell Says (common_columns held lefts rights) → (left : TimedRow)
      → Stems Says P lefts left.cells → (others : List TimedRow) → AllStem Says Q rights others
      → filter (is_pair lefts rights left) others ≡ []
  none_behind lefts rights tell left p [] q = refl
  none_behind lefts rights tell left p (right ∷ others) q =
      none_by (is_pair lefts rights left right) right (filter (is_pair lefts rights left) others)
      (no_pair lefts rights tell left right p q.0) (none_behind lefts rights tell left p others q.1)

  none_before : (lefts rights : List Column) → Tell Says (common_columns held lefts rights) → (left : TimedRow)
      → Stems Says Q lefts left.cells → (others : List TimedRow) → AllStem Says P rights others
      → filter (is_pair lefts rights left) others ≡ []
  none_before lefts rights tell left q [] p = refl
  none_before lefts rights tell left q (right ∷ others) p =
      none_by (is_pair lefts rights left right) right (filter (is_pair lefts rights left) others)
      (no_pair_back lefts rights tell left right q p.0) (none_before lefts rights tell left q others p.1)

  front_pairs : (lefts rights : List Column) → Tell Says (common_columns held lefts rights)
      → (us vs rows : List TimedRow) → AllStem Says Q rights vs → AllStem Says P lefts rows
      → flat_map (pairs_of lefts rights (us ++ vs)) rows ≡ flat_map (pairs_of lefts rights us) rows
  front_pairs lefts rights tell us vs [] q p = refl
  front_pairs lefts rights tell us vs (left ∷ rows) q p =
      let test = is_pair lefts rights left in
      let first : pairs_of lefts rights (us ++ vs) left ≡ pairs_of lefts rights us left =
      ap (map (pair_of lefts rights left))
      (filter-append test us vs ∙ ap (λ more. filter test us ++ more) (none_behind lefts rights tell left p.0 vs q)
      ∙ append-nil (filter test us)) in
      let rest = front_pairs lefts rights tell us vs rows q p.1 in
      λ i. first i ++ rest i

  back_pairs : (lefts rights : List Column) → Tell Says (common_columns held lefts rights)
      → (us vs rows : List TimedRow) → AllStem Says P rights us → AllStem Says Q lefts rows
      → flat_map (pairs_of lefts rights (us ++ vs)) rows ≡ flat_map (pairs_of lefts rights vs) rows
  back_pairs lefts rights tell us vs [] p q = refl
  back_pairs lefts rights tell us vs (left ∷ rows) p q =
      let test = is_pair lefts rights left in
      let first : pairs_of lefts rights (us ++ vs) left ≡ pairs_of lefts rights vs left =
      ap (map (pair_of lefts rights left))
      (filter-append test us vs ∙ ap (λ more. more ++ filter test vs) (none_before lefts rights tell left q.0 us p)) in
      let rest = back_pairs lefts rights tell us vs rows p q.1 in
      λ i. first i ++ rest i

  -- no row of the one side has a pair on the other
  pub pairs-apart : (lefts rights : List Column) → Tell Says (common_columns held lefts rights)
      → (xs ys us vs : List TimedRow) → AllStem Says P lefts xs → AllStem Says Q lefts ys
      → AllStem Says P rights us → AllStem Says Q rights vs
      → flat_map (pairs_of lefts rights (us ++ vs)) (xs ++ ys)
      ≡ flat_map (pairs_of lefts rights us) xs ++ flat_map (pairs_of lefts rights vs) ys
  pairs-apart lefts rights tell xs ys us vs p q pr qr =
      let left = front_pairs lefts rights tell us vs xs qr p in
      let right = back_pairs lefts rights tell us vs ys pr q in
      flat_map-append (pairs_of lefts rights (us ++ vs)) xs ys ∙ (λ i. left i ++ right i)
