-- The rows of `value`: types, and widths.
use Rattle.std.proofs.lemmas.Bool.{or_parts}
use Rattle.std.proofs.Common.{◌≡◌, ◌∙◌, ◌≤◌, ℕ, ℤ, ◌+◌, ◌^◌, Bool, true, false, cond, Option, Some, None, List, []}
use Rattle.std.proofs.Common.{◌∷◌, ◌++◌, length, subst, refl, ap, sym, arith}
use Rattle.std.specs.Prelude.{option_map, slice_get, is_none}
use Rattle.std.specs.List.{AllByRecursion, filter_map, flat_map, list_any, sum_by}
use Rattle.std.specs.Option.{option_map_or}
use Rattle.std.specs.Ordering.{int_eq}
use Rattle.mon_value.specs.Tables.{FitColumns, HasType}
use Rattle.mon_value.specs.Groups.{rows_at}
use Rattle.mon_value.specs.Values.{magnitude}
use Rattle.mon_value.specs.declared.columns.Column.{Column}
use Rattle.mon_value.specs.declared.tables.TimedRow.{TimedRow}
use Rattle.mon_value.specs.declared.values.Value.{Value}
use Rattle.mon_value.specs.declared.values.Value.TheVariants as value
use Rattle.mon_value.specs.declared.values.ValueType.TheVariants as type
use Rattle.mql_ast.specs.Rows.{column_named, place_of, FitWidths, meets_no_values, sum_value}
use Rattle.mql_ast.specs.Trees as tree
use Rattle.mql_ast.specs.Trees.{ItemTree, SumTree}
use Rattle.mql_ast.specs.declared.names.Name.{Name}
use Rattle.typed_trees.specs.declared.faults.TypeKind.TheVariants.{UnknownColumn}
use Rattle.typed_trees.specs.declared.widths.Width.{Width}
use Rattle.typed_trees.specs.Faults.{fault_where}
use Rattle.typed_trees.specs.Items.{item_column, item_name, item_sum_faults, key_columns, operand_faults, plain_column}
use Rattle.typed_trees.specs.Items.{renamed_column, sum_width, value_columns}
use Rattle.typed_trees.specs.Meaning.{key_cells, value_row}
use Rattle.typed_trees.specs.Soundness.{FitTable, HasLiterals, TotalsFit}
use Rattle.typed_rows.proofs.JoinedRows.{FitColumns-append, FitWidths-append, all-map, column_of_all}
use Rattle.typed_rows.proofs.KeptRows.{all-filter}
use Rattle.typed_rows.proofs.KnownSums.{KnownNumber, cell_of, number_known, width_known}
use Rattle.typed_rows.proofs.MadeCells.{IsThere, MadeCell, all-filter_map, cell_there, from_item}
use Rattle.typed_rows.proofs.MadeCells.{get_made, is_there, kept_at, kept_shaped, kept_within, length_fit, made_shaped}
use Rattle.typed_rows.proofs.MadeCells.{made_sums, made_within, Side, side_of, front, back}
use Rattle.typed_rows.proofs.SumBounds.{AreLawful, IsLawful, IsSound, amount, sum_within}
use Rattle.typed_rows.proofs.SumTotals.{summed, total_within}
use Rattle.typed_rows.proofs.Totals.{cell_within, counted, total_at, totals_from}
use Rattle.mon_value.proofs.PlainLemmas.{get_back, get_front, nothing_is, all_both, all_append, same_item}
use Rattle.typed_trees.proofs.FetchColumnLemmas.{both_none}

-- ---- one item

-- the column of a sum, and what stands in it
pub record SumMade (columns : List Column) (o : Option Column) (sum : SumTree) : Type 0 where
  pub column : Column
  pub is : o ≡ Some column
  pub cell : (cells : List Value) → FitColumns columns cells → FitWidths columns cells
      → meets_no_values sum columns cells ≡ false
      → MadeCell (Some column) (sum_value sum columns cells)
  pub total : (time : ℤ) (rows : List TimedRow) → TotalsFit 0 columns (rows_at time rows) → length rows ≤ 2 ^ 24
      → sum_by (summed time columns sum) rows ≤ 2 ^ column.total_bits
  pub sound : IsSound column

alone_cell : (columns : List Column) (n : List ℕ) (place : ℕ) (c : Column) → slice_get columns place ≡ Some c
    → (cells : List Value)
    → FitColumns columns cells → FitWidths columns cells
    → MadeCell (Some (renamed_column n c)) (slice_get cells place)
alone_cell columns n place c e cells fit within =
    let cell = cell_of columns cells fit place c e in
    let P : Option Value → Type 0 = λ o. option_map_or magnitude o 0 ≤ 2 ^ c.cell_bits in
    let Q : Option Value → Type 0 = λ o. MadeCell (Some (renamed_column n c)) o in
    let bound : magnitude cell.value ≤ 2 ^ c.cell_bits =
    subst P cell.is (cell_within columns cells within place c e) in
    subst Q (sym cell.is) (cell.of, bound)

pub alone_total : (columns : List Column) (place : ℕ) (c : Column) → slice_get columns place ≡ Some c
    → (time : ℤ) (rows : List TimedRow)
    → TotalsFit 0 columns (rows_at time rows) → sum_by (counted time place) rows ≤ 2 ^ c.total_bits
alone_total columns place c e time rows fit =
    let here : 0 + place ≡ place = omega arith in
    let P : ℕ → Type 0 = λ n. sum_by (counted time n) rows ≤ 2 ^ c.total_bits in
    subst P here (total_at time rows 0 columns fit place c e)

renamed_sound : (n : List ℕ) (c : Column) → IsSound c → IsSound (renamed_column n c)
renamed_sound n c sound = record {
  width = record { ordered = sound.width.ordered; narrow = sound.width.narrow };
  numbers = sound.numbers;
  bounded = sound.bounded;
}

alone_made : (columns : List Column) → AreLawful columns → (n : List ℕ) (name : Name) (o : Option Column)
    → slice_get columns (place_of name.text columns) ≡ o → (at : ℕ) → fault_where (is_none o) at UnknownColumn ≡ []
    → SumMade columns (option_map (renamed_column n) o) (tree.Column name)
alone_made columns lawful n name None e at none = absurd cc
alone_made columns lawful n name (Some c) e at none = record {
  column = renamed_column n c;
  is = refl;
  cell = λ cells fit within some. alone_cell columns n (place_of name.text columns) c e cells fit within;
  total = λ time rows fit few. alone_total columns (place_of name.text columns) c e time rows fit;
  sound = renamed_sound n c (column_of_all IsSound columns (place_of name.text columns) c lawful e);
}

number_cell : (n : List ℕ) (w : Width) (o : Option Value) → KnownNumber o → amount o ≤ 2 ^ w.cell
    → MadeCell (Some (plain_column n type.Int w)) o
number_cell n w None known within = absurd (nothing_is _ known.is)
number_cell n w (Some (value.Int z)) known within = (tt, within)
number_cell n w (Some (value.Bool b)) known within =
    let P : Value → Type 0 = λ x. HasType type.Int x in
    (subst P (sym (same_item _ _ known.is)) tt, within)
number_cell n w (Some (value.Text s)) known within =
    let P : Value → Type 0 = λ x. HasType type.Int x in
    (subst P (sym (same_item _ _ known.is)) tt, within)
number_cell n w (Some (value.Dist counts)) known within =
    let P : Value → Type 0 = λ x. HasType type.Int x in
    (subst P (sym (same_item _ _ known.is)) tt, within)

pub no_cells : (columns : List Column) → FitWidths columns []
no_cells [] = tt
no_cells (c ∷ cs) = tt

number_made : (columns : List Column) → AreLawful columns → (n : List ℕ) (e : SumTree) → HasLiterals e
    → operand_faults columns e ≡ []
    → SumMade columns (option_map (plain_column n type.Int) (sum_width columns e)) e
number_made columns lawful n e literal none =
    let known = width_known columns e none in
    let width : IsLawful known.width =
    (sum_within columns [] (no_cells columns) lawful e literal none known.width known.is).1 in
    record {
      column = plain_column n type.Int known.width;
      is = ap (λ (o : Option Width). option_map (plain_column n type.Int) o) known.is;
      cell = λ cells fit within some.
          number_cell n known.width (sum_value e columns cells) (number_known columns cells fit e none some)
          (sum_within columns cells within lawful e literal none known.width known.is).0;
      total = λ time rows fit few. (total_within columns rows time fit few lawful e literal none known.width
          known.is).0;
      sound = record {
        width = record { ordered = width.ordered; narrow = width.narrow };
        numbers = tt;
        bounded = tt;
      };
    }

sum_made : (columns : List Column) → AreLawful columns → (label : Option Name) (e : SumTree) → HasLiterals e
    → item_sum_faults columns (record { name = label; sum = e }) ≡ []
    → SumMade columns (item_column columns (record { name = label; sum = e })) e
sum_made columns lawful label (tree.Column name) literal none =
    alone_made columns lawful (item_name (record { name = label; sum = tree.Column name })).text name
    (column_named name.text columns) refl name.at none
sum_made columns lawful label (tree.Number at z) literal none =
    number_made columns lawful (item_name (record { name = label; sum = tree.Number at z })).text (tree.Number at z)
    literal none
sum_made columns lawful label (tree.Plus left right) literal none =
    number_made columns lawful (item_name (record { name = label; sum = tree.Plus left right })).text
    (tree.Plus left right) literal none
sum_made columns lawful label (tree.Minus left right) literal none =
    number_made columns lawful (item_name (record { name = label; sum = tree.Minus left right })).text
    (tree.Minus left right) literal none
sum_made columns lawful label (tree.Percentile at name p) literal none =
    number_made columns lawful (item_name (record { name = label; sum = tree.Percentile at name p })).text
    (tree.Percentile at name p) literal none

-- ---- all items

abbrev pub ItemMade : List Column → ItemTree → Type 0
ItemMade columns item = SumMade columns (item_column columns item) item.sum

pub items_made : (columns : List Column) → AreLawful columns → (items : List ItemTree)
    → AllByRecursion (λ (item : ItemTree). HasLiterals item.sum) items → flat_map (item_sum_faults columns) items ≡ []
    → AllByRecursion (ItemMade columns) items
items_made columns lawful [] literals none = tt
items_made columns lawful (item ∷ items) literals none =
    let parts = both_none (item_sum_faults columns item) (flat_map (item_sum_faults columns) items) none in (
      sum_made columns lawful item.name item.sum literals.0 parts.0,
      items_made columns lawful items literals.1
          parts.1,
    )

abbrev misses : List Column → List Value → ItemTree → Bool
misses columns cells item = meets_no_values item.sum columns cells

own_cell : (columns : List Column) (o : Option Column) (cells : List Value) (p : Option Value) (c : Column)
    → o ≡ Some c
    → MadeCell (Some c) p → MadeCell o p
own_cell columns o cells p c e made =
    let P : Option Column → Type 0 = λ q. MadeCell q p in
    subst P (sym e) made

item_cells : (columns : List Column) (cells : List Value) → FitColumns columns cells → FitWidths columns cells
    → (items : List ItemTree)
    → AllByRecursion (ItemMade columns) items → list_any (misses columns cells) items ≡ false
    → AllByRecursion (λ (item : ItemTree). MadeCell (item_column columns item) (sum_value item.sum columns cells))
    items
item_cells columns cells fit within [] made some = tt
item_cells columns cells fit within (item ∷ items) made some =
    let parts = or_parts (misses columns cells item) (list_any (misses columns cells) items) some in (
      own_cell columns (item_column columns item) cells (sum_value item.sum columns cells) made.0.column made.0.is
          (made.0.cell cells fit within parts.0),
      item_cells columns cells fit within items made.1 parts.1,
    )

columns_there : (columns : List Column) (items : List ItemTree) → AllByRecursion (ItemMade columns) items
    → AllByRecursion (λ (item : ItemTree). IsThere (item_column columns item)) items
columns_there columns [] made = tt
columns_there columns (item ∷ items) made =
    (is_there (item_column columns item) made.0.column made.0.is, columns_there columns items made.1)

cells_there : (columns : List Column) (cells : List Value) (items : List ItemTree)
    → AllByRecursion (λ (item : ItemTree). MadeCell (item_column columns item) (sum_value item.sum columns cells))
    items
    → AllByRecursion (λ (item : ItemTree). IsThere (sum_value item.sum columns cells)) items
cells_there columns cells [] made = tt
cells_there columns cells (item ∷ items) made = (
  cell_there (item_column columns item) (sum_value item.sum columns cells) made.0,
  cells_there columns cells
      items made.1,
)

-- ---- rows

abbrev items_of : List Column → List ItemTree → List Value → List Value
items_of columns items cells = filter_map (λ (item : ItemTree). sum_value item.sum columns cells) items

abbrev row_made : List Column → List ItemTree → TimedRow → TimedRow
row_made columns items row = record
    { time = row.time; cells = key_cells columns row.cells ++ items_of columns items row.cells }

-- a row that is made, and why
record RowMade (columns : List Column) (items : List ItemTree) (row made : TimedRow) : Type 0 where
  some : list_any (misses columns row.cells) items ≡ false
  is : row_made columns items row ≡ made

pub row_by : (b : Bool) (x y : TimedRow) → cond b None (Some x) ≡ Some y → (b ≡ false) × (x ≡ y)
row_by true x y e = absurd cc
row_by false x y e = (refl, same_item x y e)

made_row : (columns : List Column) (items : List ItemTree) (row made : TimedRow)
    → value_row columns items row ≡ Some made
    → RowMade columns items row made
made_row columns items row made e =
    let parts = row_by (list_any (misses columns row.cells) items) (row_made columns items row) made e in
    record { some = parts.0; is = parts.1 }

-- rows that fit columns in types and widths
abbrev pub FitsBoth : List Column → TimedRow → Type 0
FitsBoth columns row = FitColumns columns row.cells × FitWidths columns row.cells

made_fits : (columns : List Column) (items : List ItemTree) → AllByRecursion (ItemMade columns) items
    → (row made : TimedRow)
    → FitsBoth columns row → value_row columns items row ≡ Some made → FitsBoth (value_columns columns items) made
made_fits columns items all row made fit e =
    let parts = made_row columns items row made e in
    let cells = item_cells columns row.cells fit.0 fit.1 items all parts.some in
    let P : TimedRow → Type 0 = λ r. FitsBoth (value_columns columns items) r in
    let keys = kept_shaped (λ (column : Column). column.key) columns row.cells fit.0 in
    subst P parts.is (
      FitColumns-append (key_columns columns) (filter_map (item_column columns) items)
          (key_cells columns row.cells) (items_of columns items row.cells)
          keys (made_shaped (item_column columns) (λ (item : ItemTree). sum_value item.sum columns row.cells)
          items cells),
      FitWidths-append (key_columns columns) (filter_map (item_column columns) items)
          (key_cells columns row.cells) (items_of columns items row.cells)
          keys (kept_within (λ (column : Column). column.key) columns row.cells fit.0 fit.1)
          (made_within (item_column columns) (λ (item : ItemTree). sum_value item.sum columns row.cells) items
          cells),
    )

-- ---- totals

abbrev at_time : ℤ → ℤ → Option Value → ℕ
at_time time own cell = cond (int_eq own time) (amount cell) 0

same_amount : (time own : ℤ) (a b : Option Value) → a ≡ b → at_time time own a ≤ at_time time own b
same_amount time own a b e =
    let P : Option Value → Type 0 = λ o. at_time time own a ≤ at_time time own o in
    subst P e (omega arith)

-- a key counts what it did
key_counts : (columns : List Column) (items : List ItemTree) (time : ℤ) (place at : ℕ) (column : Column)
    → slice_get columns at ≡ Some column
    → ((cells : List Value) → FitColumns columns cells
    → slice_get (key_cells columns cells) place ≡ slice_get cells at)
    → (row made : TimedRow) → FitsBoth columns row → value_row columns items row ≡ Some made
    → counted time place made ≤ counted time at row
key_counts columns items time place at column e key row made fit is =
    let parts = made_row columns items row made is in
    let cell = cell_of columns row.cells fit.0 at column e in
    let found : slice_get (key_cells columns row.cells) place ≡ Some cell.value = key row.cells fit.0 ∙ cell.is in
    let kept : slice_get (key_cells columns row.cells ++ items_of columns items row.cells) place ≡ slice_get
    row.cells at =
    get_front (key_cells columns row.cells) (items_of columns items row.cells) place cell.value found
    ∙ sym cell.is in
    let P : TimedRow → Type 0 = λ r. counted time place r ≤ counted time at row in
    subst P parts.is
    (same_amount time row.time (slice_get (key_cells columns row.cells ++ items_of columns items row.cells)
    place) (slice_get row.cells at) kept)

-- an item counts what its sum comes to
item_counts : (columns : List Column) (items : List ItemTree) → AllByRecursion (ItemMade columns) items
    → (time : ℤ) (k : ℕ) (item : ItemTree)
    → slice_get items k ≡ Some item → (row made : TimedRow) → FitsBoth columns row
    → value_row columns items row ≡ Some made
    → counted time (length (key_columns columns) + k) made ≤ summed time columns item.sum row
item_counts columns items all time k item e row made fit is =
    let parts = made_row columns items row made is in
    let cells = item_cells columns row.cells fit.0 fit.1 items all parts.some in
    let keys = key_cells columns row.cells in
    let rest = items_of columns items row.cells in
    let long : length keys ≡ length (key_columns columns) =
    length_fit (key_columns columns) keys
    (kept_shaped (λ (column : Column). column.key) columns row.cells fit.0) in
    let place : slice_get (keys ++ rest) (length (key_columns columns) + k) ≡ sum_value item.sum columns row.cells =
    ap (λ n. slice_get (keys ++ rest) (n + k)) (sym long) ∙ get_back keys rest k
    ∙ get_made (λ (i : ItemTree). sum_value i.sum columns row.cells) items
    (cells_there columns row.cells items cells) k item e in
    let P : TimedRow → Type 0 = λ r. counted time (length (key_columns columns) + k) r ≤ summed time columns
    item.sum row in
    subst P parts.is
    (same_amount time row.time (slice_get (keys ++ rest) (length (key_columns columns) + k))
    (sum_value item.sum columns row.cells) place)

column_total : (columns : List Column) → AreLawful columns → (items : List ItemTree)
    → AllByRecursion (ItemMade columns) items
    → (rows : List TimedRow) → AllByRecursion (FitsBoth columns) rows → length rows ≤ 2 ^ 24 → (time : ℤ)
    → TotalsFit 0 columns (rows_at time rows) → (place : ℕ) (column : Column)
    → Side (key_columns columns) (filter_map (item_column columns) items) place column
    → sum_by (counted time place) (filter_map (value_row columns items) rows) ≤ 2 ^ column.total_bits
column_total columns lawful items all rows fit few time totals place column (front e) =
    let kept = kept_at (λ (c : Column). c.key) columns place column e in
    let less : sum_by (counted time place) (filter_map (value_row columns items) rows) ≤ sum_by
    (counted time kept.at) rows =
    made_sums (value_row columns items) (counted time place) (counted time kept.at) rows
    (all-map (FitsBoth columns) (λ row. (made : TimedRow) → value_row columns items row ≡ Some made
    → counted time place made ≤ counted time kept.at row) rows
    (λ row both made is. key_counts columns items time place kept.at column kept.is kept.cell row made
    both is) fit) in
    omega (arith, less, alone_total columns kept.at column kept.is time rows totals)
column_total columns lawful items all rows fit few time totals place column (back k is e) =
    let own = from_item (item_column columns) items (columns_there columns items all) k column e in
    let made = column_of_all (ItemMade columns) items k own.item all own.is in
    let same : made.column ≡ column = same_item made.column column (sym made.is ∙ own.made) in
    let here = length (key_columns columns) + k in
    let less : sum_by (counted time here) (filter_map (value_row columns items) rows) ≤ sum_by
    (summed time columns own.item.sum) rows =
    made_sums (value_row columns items) (counted time here) (summed time columns own.item.sum) rows
    (all-map (FitsBoth columns) (λ row. (result : TimedRow) → value_row columns items row ≡ Some result
    → counted time here result ≤ summed time columns own.item.sum row) rows
    (λ row both result step. item_counts columns items all time k own.item own.is row result both step)
    fit) in
    let total = made.total time rows totals few in
    let P : ℕ → Type 0 = λ n. sum_by (counted time n) (filter_map (value_row columns items) rows) ≤ 2 ^
    column.total_bits in
    let Q : Column → Type 0 = λ c. sum_by (summed time columns own.item.sum) rows ≤ 2 ^ c.total_bits in
    subst P (sym is) (omega (arith, less, subst Q same total))

-- the rows of `value`
pub FitTable-value : (columns : List Column) (items : List ItemTree) (rows : List TimedRow) → FitTable columns rows
    → AreLawful columns
    → AllByRecursion (λ (item : ItemTree). HasLiterals item.sum) items → flat_map (item_sum_faults columns) items ≡ []
    → length rows ≤ 2 ^ 24 → FitTable (value_columns columns items) (filter_map (value_row columns items) rows)
FitTable-value columns items rows fit lawful literals none few =
    let all = items_made columns lawful items literals none in
    let both : AllByRecursion (FitsBoth columns) rows =
    all_both (λ row. FitColumns columns row.cells) (λ row. FitWidths columns row.cells) rows fit.shaped
    fit.widths in
    let made : AllByRecursion (FitsBoth (value_columns columns items)) (filter_map (value_row columns items) rows) =
    all-filter_map (FitsBoth columns) (FitsBoth (value_columns columns items)) (value_row columns items) rows
    (λ row result p e. made_fits columns items all row result p e) both in
    record {
      shaped = all-map (FitsBoth (value_columns columns items))
          (λ row. FitColumns (value_columns columns items) row.cells) _ (λ row p. p.0) made;
      widths = all-map (FitsBoth (value_columns columns items))
          (λ row. FitWidths (value_columns columns items) row.cells) _ (λ row p. p.1) made;
      totals = λ time. totals_from time (filter_map (value_row columns items) rows) 0 (value_columns columns items)
          (λ place column e.
          let here : place ≡ 0 + place = omega arith in
          let P : ℕ → Type 0 = λ n. sum_by (counted time n) (filter_map (value_row columns items) rows) ≤ 2 ^
          column.total_bits in
          subst P here
          (column_total columns lawful items all rows both few time (fit.totals time) place column
          (side_of (key_columns columns) (filter_map (item_column columns) items) place column e)));
    }

items_sound : (columns : List Column) (items : List ItemTree) → AllByRecursion (ItemMade columns) items
    → AllByRecursion (λ (item : ItemTree). (c : Column) → item_column columns item ≡ Some c → IsSound c) items
items_sound columns [] made = tt
items_sound columns (item ∷ items) made = (
  (λ c e. let same : made.0.column ≡ c =
      same_item made.0.column c (sym made.0.is ∙ e) in subst IsSound same made.0.sound),
  items_sound columns items made.1,
)

-- the columns of `value` are neither too wide nor of bounds that are none
pub value_lawful : (columns : List Column) (items : List ItemTree) → AreLawful columns
    → AllByRecursion (λ (item : ItemTree). HasLiterals item.sum) items → flat_map (item_sum_faults columns) items ≡ []
    → AreLawful (value_columns columns items)
value_lawful columns items lawful literals none =
    all_append IsSound (key_columns columns) (filter_map (item_column columns) items)
    (all-filter IsSound (λ (column : Column). column.key) columns lawful)
    (all-filter_map (λ (item : ItemTree). (c : Column) → item_column columns item ≡ Some c → IsSound c) IsSound
    (item_column columns) items
    (λ item c step e. step c e) (items_sound columns items (items_made columns lawful items literals none)))
