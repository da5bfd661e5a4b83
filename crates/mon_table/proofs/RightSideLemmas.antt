-- The rows that are found by the places of the columns are the pairs of the tables.
use Rattle.std.proofs.Common.{◌≡◌, ℕ, ◌+◌, ◌&&◌, ◌||◌, Bool, true, false, not, cond, List, [], ◌∷◌, ◌++◌}
use Rattle.std.proofs.Common.{length, map, drop, Some, refl, sym, ap, ◌∙◌, arith}
use Rattle.std.specs.Cmp.Lexicographic.{pointwise}
use Rattle.std.specs.List.{AllByRecursion, cons_option, filter, flat_map, list_all, slice_get, zip}
use Rattle.std.specs.Ordering.{int_eq}
use Rattle.std.proofs.lemmas.List.Elements.{filter_map-append}
use Rattle.mon_value.specs.Tables.{IsWhole, Named, cells_agree, has_name, is_pair, join_of, pair_of, pairs_of}
use Rattle.mon_value.specs.Groups.{cells_at, group_key}
use Rattle.mon_value.specs.Same.{same_row, same_text, same_value}
use Rattle.mon_value.specs.declared.columns.Column.{Column}
use Rattle.mon_value.specs.declared.tables.Table.{Table}
use Rattle.mon_value.specs.declared.tables.TimedRow.{TimedRow}
use Rattle.mon_value.specs.declared.values.Value.{Value}
use Rattle.mon_table.proofs.PlaceLemmas.{next_place, there}
use Rattle.mon_value.proofs.PlainLemmas.{and_assoc}
use Rattle.mon_table.specs.Places.{left_places, left_places_of, own_places, right_places, right_places_of}
use Rattle.mon_table.specs.RightSides.{left_pairs, pair_row, right_side}

-- ---- the cells that two rows share

-- one left cell with the right cells of its name, before any others
module _ (column : Column) (cell : Value) (left : List Value) (place : ℕ) (at : slice_get left place ≡ Some cell)
    (right : List Value) (xs ys : List Value) where
  abbrev lefts_of : List Column → List ℕ
  lefts_of columns = left_places_of column.name place columns

  abbrev rights_of : ℕ → List Column → List ℕ
  rights_of next columns = right_places_of column.name next columns

  abbrev Meets : List Column → List Value → ℕ → Type 0
  Meets columns cells next =
      (list_all (λ other. cells_agree (column, cell) other) (zip columns cells) && pointwise same_value xs ys)
      ≡ pointwise same_value (cells_at (lefts_of columns) left ++ xs) (cells_at (rights_of next columns) right ++ ys)

  meets_at : (other : Column) (columns : List Column) (value : Value) (cells : List Value) (next : ℕ) (b : Bool)
      → same_text column.name other.name ≡ b
      → slice_get right next ≡ Some value → Meets columns cells (next + 1)
      → (((not b || same_value cell value) && list_all (λ named. cells_agree (column, cell) named) (zip columns cells))
      && pointwise same_value xs ys)
      ≡ pointwise same_value (cells_at (cond b (place ∷ lefts_of columns) (lefts_of columns)) left ++ xs)
      (cells_at (cond b (next ∷ rights_of (next + 1) columns) (rights_of (next + 1) columns)) right ++ ys)
  meets_at other columns value cells next true e here ih =
      and_assoc (same_value cell value) (list_all (λ named. cells_agree (column, cell) named) (zip columns cells))
      (pointwise same_value xs ys)
      ∙ ap (λ rest. same_value cell value && rest) ih
      ∙ (λ i. pointwise same_value (cons_option (sym at i) (cells_at (lefts_of columns) left) ++ xs)
      (cons_option (sym here i) (cells_at (rights_of (next + 1) columns) right) ++ ys))
  meets_at other columns value cells next false e here ih = ih

  meets : (columns : List Column) (cells : List Value) (next : ℕ) → drop next right ≡ cells → length cells
      ≡ length columns → Meets columns cells next
  meets [] [] next rest same = refl
  meets [] (value ∷ cells) next rest same = refl
  meets (other ∷ columns) [] next rest same = absurd (omega arith)
  meets (other ∷ columns) (value ∷ cells) next rest same =
      meets_at other columns value cells next (same_text column.name other.name) refl
      (there right next value cells rest)
      (meets columns cells (next + 1) (next_place right next value cells rest) (omega arith))

-- all left cells with all right cells
module _ (rights : List Column) (left right : List Value) (whole : length right ≡ length rights) where
  agree_all : (columns : List Column) (cells : List Value) (next : ℕ) → drop next left ≡ cells → length cells
      ≡ length columns
      → list_all (λ cell. list_all (λ other. cells_agree cell other) (zip rights right)) (zip columns cells)
      ≡ pointwise same_value (cells_at (left_places next columns rights) left) (cells_at (right_places columns rights)
      right)
  agree_all [] [] next rest same = refl
  agree_all [] (value ∷ cells) next rest same = refl
  agree_all (column ∷ columns) [] next rest same = absurd (omega arith)
  agree_all (column ∷ columns) (value ∷ cells) next rest same =
      let here = left_places_of column.name next rights in
      let more = left_places (next + 1) columns rights in
      let here' = right_places_of column.name 0 rights in
      let more' = right_places columns rights in
      ap (λ others. list_all (λ other. cells_agree (column, value) other) (zip rights right) && others)
      (agree_all columns cells (next + 1) (next_place left next value cells rest) (omega arith))
      ∙ meets column value left next (there left next value cells rest) right (cells_at more left)
      (cells_at more' right) rights right 0 refl whole
      ∙ (λ i. pointwise same_value (sym (filter_map-append (slice_get left) here more) i)
      (sym (filter_map-append (slice_get right) here' more') i))

-- two rows are a pair exactly where their keys are the same
pair_by_key : (lefts rights : List Column) (left right : TimedRow) → length left.cells ≡ length lefts
    → length right.cells ≡ length rights
    → is_pair lefts rights left right ≡ same_row (group_key (left_places 0 lefts rights) left)
    (group_key (right_places lefts rights) right)
pair_by_key lefts rights left right whole whole' =
    ap (λ rest. int_eq left.time right.time && rest) (agree_all rights left.cells right.cells whole' lefts left.cells 0
    refl whole)

-- ---- the cells of the right alone

abbrev has_own_name : List Column → Named → Bool
has_own_name lefts cell = not (has_name cell.0.name lefts)

own_at : (lefts : List Column) (right : List Value) (column : Column) (columns : List Column) (value : Value)
    (cells : List Value) (next : ℕ) (b : Bool)
    → slice_get right next ≡ Some value
    → cells_at (own_places (next + 1) lefts columns) right ≡ map (λ cell. cell.1)
    (filter (has_own_name lefts) (zip columns cells))
    → cells_at (cond b (own_places (next + 1) lefts columns) (next ∷ own_places (next + 1) lefts columns)) right
    ≡ map (λ cell. cell.1) (cond (not b) ((column, value) ∷ filter (has_own_name lefts) (zip columns cells))
    (filter (has_own_name lefts) (zip columns cells)))
own_at lefts right column columns value cells next true here ih = ih
own_at lefts right column columns value cells next false here ih = λ i. cons_option (here i) (ih i)

own_cells : (lefts columns : List Column) (right cells : List Value) (next : ℕ) → drop next right ≡ cells
    → length cells ≡ length columns
    → cells_at (own_places next lefts columns) right ≡ map (λ cell. cell.1)
    (filter (has_own_name lefts) (zip columns cells))
own_cells lefts [] right [] next rest same = refl
own_cells lefts [] right (value ∷ cells) next rest same = refl
own_cells lefts (column ∷ columns) right [] next rest same = absurd (omega arith)
own_cells lefts (column ∷ columns) right (value ∷ cells) next rest same =
    own_at lefts right column columns value cells next (has_name column.name lefts) (there right next value cells rest)
    (own_cells lefts columns right cells (next + 1) (next_place right next value cells rest) (omega arith))

-- ---- rows

module _ (a b : Table) where
  abbrev pair : TimedRow → TimedRow → TimedRow
  pair = pair_row (own_places 0 a.columns b.columns)

  row_of_pair : (left right : TimedRow) → length right.cells ≡ length b.columns → pair left right ≡ pair_of a.columns
      b.columns left right
  row_of_pair left right whole =
      ap (λ (cells : List Value). record { time = left.time; cells = left.cells ++ cells })
      (own_cells a.columns b.columns right.cells right.cells 0 refl whole)

  pairs_at : (left right : TimedRow) (c : Bool) (found pairs : List TimedRow) → length right.cells ≡ length b.columns
      → map (pair left) found ≡ map (pair_of a.columns b.columns left) pairs
      → map (pair left) (cond c (right ∷ found) found) ≡ map (pair_of a.columns b.columns left)
      (cond c (right ∷ pairs) pairs)
  pairs_at left right true found pairs whole ih = λ i. row_of_pair left right whole i ∷ ih i
  pairs_at left right false found pairs whole ih = ih

  abbrev keys_meet : TimedRow → TimedRow → Bool
  keys_meet left right = same_row (group_key (left_places 0 a.columns b.columns) left)
      (group_key (right_places a.columns b.columns) right)

  pairs_of_left : (left : TimedRow) (rows : List TimedRow) → length left.cells ≡ length a.columns
      → AllByRecursion (λ row. length row.cells ≡ length b.columns) rows
      → map (pair left) (filter (keys_meet left) rows) ≡ pairs_of a.columns b.columns rows left
  pairs_of_left left [] whole all = refl
  pairs_of_left left (right ∷ rows) whole all =
      let found = filter (keys_meet left) rows in
      ap (λ c. map (pair left) (cond c (right ∷ found) found))
      (sym (pair_by_key a.columns b.columns left right whole all.0))
      ∙ pairs_at left right (is_pair a.columns b.columns left right) found (filter (is_pair a.columns b.columns left)
      rows) all.0 (pairs_of_left left rows whole all.1)

  pairs_of_lefts : (rows : List TimedRow) → AllByRecursion (λ row. length row.cells ≡ length a.columns) rows → IsWhole b
      → flat_map (left_pairs (right_side a b)) rows ≡ flat_map (pairs_of a.columns b.columns b.rows) rows
  pairs_of_lefts [] all all' = refl
  pairs_of_lefts (left ∷ rows) all all' = λ i. pairs_of_left left b.rows all.0 all' i ++ pairs_of_lefts rows all.1 all'
      i

  -- what is found for all left rows is the join
  pub rows_joined : IsWhole a → IsWhole b → flat_map (left_pairs (right_side a b)) a.rows ≡ (join_of a b).rows
  rows_joined whole whole' = pairs_of_lefts a.rows whole whole'
