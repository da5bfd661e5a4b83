-- The rows of joins: types, and widths.
use Rattle.std.proofs.Common.{◌≡◌, ◌≤◌, ℕ, ℤ, ◌+◌, ◌*◌, ◌^◌, Bool, not, Option, Some, None, zero, suc, List, [], ◌∷◌}
use Rattle.std.proofs.Common.{◌++◌, map, length, subst, refl, sym, arith}
use Rattle.std.specs.Prelude.{slice_get, unwrap_or, option_map}
use Rattle.std.specs.List.{AllByRecursion, filter, flat_map, sum_by}
use Rattle.std.specs.Option.{option_map_or}
use Rattle.std.proofs.lemmas.Nat.{pow-add}
use Rattle.std.proofs.Math.Nat.{mul-le-mul_right, pow-le-pow_right}
use Rattle.mon_value.specs.Tables.{FitColumns, HasType, has_name, is_pair, pair_of, pairs_of, right_cells}
use Rattle.mon_value.specs.Tables.{right_columns}
use Rattle.mon_value.specs.Groups.{rows_at}
use Rattle.mon_value.specs.Values.{magnitude}
use Rattle.mon_value.specs.declared.columns.Column.{Column}
use Rattle.mon_value.specs.declared.tables.TimedRow.{TimedRow}
use Rattle.mon_value.specs.declared.values.Value.{Value}
use Rattle.mon_value.specs.declared.values.ValueType.{ValueType}
use Rattle.mon_schema.specs.Names.{SchemaLists}
use Rattle.mql_ast.specs.Rows.{column_named, FitWidths}
use Rattle.typed_trees.specs.Branches.{anchored_with, as_joined, common_column, join_columns, left_column}
use Rattle.typed_trees.specs.Soundness.{FitTable, TotalsFit}
use Rattle.typed_rows.proofs.KeptRows.{all-filter}
use Rattle.typed_rows.proofs.Totals.{cell_within, counted, counted_rows, totals_from}
use Rattle.typed_rows.proofs.MadeCells.{kept_shaped, kept_within}
use Rattle.mon_value.proofs.PlainLemmas.{all_both, all_append}

pub bits_more : (n cell total : ℕ) → n ≤ 2 ^ (cell + 24) → cell + 24 ≤ total → n ≤ 2 ^ total
bits_more n cell total h wide = omega (arith, h, pow-le-pow_right {n = 2} (omega arith) wide)

-- ---- columns whose sums are bounded by the number of rows

-- a column as wide as so many cells as a table has rows
abbrev pub IsRowWide : Column → Type 0
IsRowWide column = column.cell_bits + 24 ≤ column.total_bits

pub all-map : {A : Type 0} (P Q : A → Type 0) (xs : List A) → ((x : A) → P x → Q x) → AllByRecursion P xs
    → AllByRecursion Q xs
all-map P Q [] f all = tt
all-map P Q (x ∷ xs) f all = (f x all.0, all-map P Q xs f all.1)

pub column_of_all : {A : Type 0} (P : A → Type 0) (xs : List A) (place : ℕ) (x : A) → AllByRecursion P xs
    → slice_get xs place ≡ Some x → P x
column_of_all P [] place x all e = cc
column_of_all P (y ∷ ys) zero x all e = let same : y ≡ x = cc in subst P same all.0
column_of_all P (y ∷ ys) (suc place) x all e = column_of_all P ys place x all.1 e

chained : (sum product bound powers total : ℕ) → sum ≤ product → product ≤ bound → bound ≡ powers → powers ≤ total
    → sum ≤ total
chained sum product bound powers total a b c d = omega (arith, a, b, c, d)

pub row_wide : (sum rows cell total : ℕ) → sum ≤ rows * 2 ^ cell → rows ≤ 2 ^ 24 → cell + 24 ≤ total → sum ≤ 2 ^ total
row_wide sum rows cell total within few wide =
    chained sum (rows * 2 ^ cell) (2 ^ 24 * 2 ^ cell) (2 ^ (24 + cell)) (2 ^ total) within
    (mul-le-mul_right (2 ^ cell) few) (sym (pow-add 2 24 cell))
    (pow-le-pow_right {n = 2} (omega arith) (omega (arith, wide)))

-- so few rows sum to no more in a column
pub place_bound : (columns : List Column) (rows : List TimedRow)
    → AllByRecursion (λ row. FitWidths columns row.cells) rows
    → length rows ≤ 2 ^ 24 → (time : ℤ) (place : ℕ) (column : Column) → slice_get columns place ≡ Some column
    → sum_by (counted time place) rows ≤ 2 ^ (column.cell_bits + 24)
place_bound columns rows fit few time place column e =
    let cells : AllByRecursion (λ (row : TimedRow). option_map_or magnitude (slice_get row.cells place) 0 ≤ 2 ^
    column.cell_bits) rows =
    all-map (λ (row : TimedRow). FitWidths columns row.cells)
    (λ (row : TimedRow). option_map_or magnitude (slice_get row.cells place) 0 ≤ 2 ^ column.cell_bits) rows
    (λ row within. cell_within columns row.cells within place column e) fit in
    row_wide (sum_by (counted time place) rows) (length rows) column.cell_bits (column.cell_bits + 24)
    (counted_rows time place (2 ^ column.cell_bits) rows cells) few (omega arith)

-- so few rows sum to no more in any column
pub totals-row_wide : (columns : List Column) (rows : List TimedRow)
    → AllByRecursion (λ row. FitWidths columns row.cells) rows
    → length rows ≤ 2 ^ 24 → AllByRecursion IsRowWide columns → (time : ℤ) → TotalsFit 0 columns (rows_at time rows)
totals-row_wide columns rows fit few wide time = totals_from time rows 0 columns
    (λ place column e.
    let here : place ≡ 0 + place = omega arith in
    let P : ℕ → Type 0 = λ n. sum_by (counted time n) rows ≤ 2 ^ column.total_bits in
    subst P here
    (bits_more (sum_by (counted time place) rows) column.cell_bits column.total_bits
    (place_bound columns rows fit few time place column e)
    (column_of_all IsRowWide columns place column wide e)))

-- ---- cells of pairs

pub FitColumns-append : (cs ds : List Column) (xs ys : List Value) → FitColumns cs xs → FitColumns ds ys
    → FitColumns (cs ++ ds) (xs ++ ys)
FitColumns-append [] ds [] ys fit more = more
FitColumns-append [] ds (x ∷ xs) ys fit more = absurd fit
FitColumns-append (c ∷ cs) ds [] ys fit more = absurd fit
FitColumns-append (c ∷ cs) ds (x ∷ xs) ys fit more = (fit.0, FitColumns-append cs ds xs ys fit.1 more)

-- where cells fit in number, their widths go together
pub FitWidths-append : (cs ds : List Column) (xs ys : List Value) → FitColumns cs xs → FitWidths cs xs
    → FitWidths ds ys → FitWidths (cs ++ ds) (xs ++ ys)
FitWidths-append [] ds [] ys shaped fit more = more
FitWidths-append [] ds (x ∷ xs) ys shaped fit more = absurd shaped
FitWidths-append (c ∷ cs) ds [] ys shaped fit more = absurd shaped
FitWidths-append (c ∷ cs) ds (x ∷ xs) ys shaped fit more = (fit.0, FitWidths-append cs ds xs ys shaped.1 fit.1 more)

-- columns that change neither their types nor their cell bits
pub FitColumns-map : (f : Column → Column) → ((c : Column) → c.of ≡ (f c).of) → (cs : List Column) (xs : List Value)
    → FitColumns cs xs → FitColumns (map f cs) xs
FitColumns-map f same [] [] fit = tt
FitColumns-map f same [] (x ∷ xs) fit = absurd fit
FitColumns-map f same (c ∷ cs) [] fit = absurd fit
FitColumns-map f same (c ∷ cs) (x ∷ xs) fit =
    (let P : ValueType → Type 0 = λ of. HasType of x in subst P (same c) fit.0, FitColumns-map f same cs xs fit.1)

pub FitWidths-map : (f : Column → Column) → ((c : Column) → c.cell_bits ≡ (f c).cell_bits)
    → (cs : List Column) (xs : List Value)
    → FitWidths cs xs → FitWidths (map f cs) xs
FitWidths-map f same [] xs fit = tt
FitWidths-map f same (c ∷ cs) [] fit = tt
FitWidths-map f same (c ∷ cs) (x ∷ xs) fit =
    (let P : ℕ → Type 0 = λ bits. magnitude x ≤ 2 ^ bits in subst P (same c) fit.0, FitWidths-map f same cs xs fit.1)

of_left_by : (held : SchemaLists) (c : Column) (o : Option Column)
    → c.of ≡ (as_joined (unwrap_or (option_map (anchored_with held c) o) c)).of
of_left_by held c None = refl
of_left_by held c (Some other) = refl

bits_left_by : (held : SchemaLists) (c : Column) (o : Option Column)
    → c.cell_bits ≡ (as_joined (unwrap_or (option_map (anchored_with held c) o) c)).cell_bits
bits_left_by held c None = refl
bits_left_by held c (Some other) = refl

-- whether a right column has a name of its own
abbrev is_own : List Column → Column → Bool
is_own lefts column = not (has_name column.name lefts)

-- a pair of fitting rows fits the join's columns
pub pair_fits : (held : SchemaLists) (lefts rights : List Column) (left right : TimedRow) → FitColumns lefts left.cells
    → FitColumns rights right.cells
    → FitColumns (join_columns held lefts rights) (pair_of lefts rights left right).cells
pair_fits held lefts rights left right fit other =
    FitColumns-append (map (left_column held rights) lefts) (map as_joined (right_columns lefts rights)) left.cells
    (right_cells lefts rights right)
    (FitColumns-map (left_column held rights) (λ c. of_left_by held c (column_named c.name rights)) lefts
    left.cells fit)
    (FitColumns-map as_joined (λ c. refl) (right_columns lefts rights) (right_cells lefts rights right)
    (kept_shaped (is_own lefts) rights right.cells other))

pair_widths : (held : SchemaLists) (lefts rights : List Column) (left right : TimedRow) → FitColumns lefts left.cells
    → FitColumns rights right.cells → FitWidths lefts left.cells → FitWidths rights right.cells
    → FitWidths (join_columns held lefts rights) (pair_of lefts rights left right).cells
pair_widths held lefts rights left right fit other widths more =
    FitWidths-append (map (left_column held rights) lefts) (map as_joined (right_columns lefts rights)) left.cells
    (right_cells lefts rights right)
    (FitColumns-map (left_column held rights) (λ c. of_left_by held c (column_named c.name rights)) lefts
    left.cells fit)
    (FitWidths-map (left_column held rights) (λ c. bits_left_by held c (column_named c.name rights)) lefts
    left.cells widths)
    (FitWidths-map as_joined (λ c. refl) (right_columns lefts rights) (right_cells lefts rights right)
    (kept_within (is_own lefts) rights right.cells other more))

-- ---- joins

pub all-made : {A B : Type 0} (P : A → Type 0) (Q : B → Type 0) (f : A → B) (xs : List A) → ((x : A) → P x → Q (f x))
    → AllByRecursion P xs → AllByRecursion Q (map f xs)
all-made P Q f [] step all = tt
all-made P Q f (x ∷ xs) step all = (step x all.0, all-made P Q f xs step all.1)

pub all-flat_map : {A B : Type 0} (P : A → Type 0) (Q : B → Type 0) (g : A → List B) (xs : List A)
    → ((x : A) → P x → AllByRecursion Q (g x)) → AllByRecursion P xs → AllByRecursion Q (flat_map g xs)
all-flat_map P Q g [] step all = tt
all-flat_map P Q g (x ∷ xs) step all =
    all_append Q (g x) (flat_map g xs) (step x all.0) (all-flat_map P Q g xs step all.1)

-- a column of which no sum is too wide
abbrev pub IsNarrow : Column → Type 0
IsNarrow column = column.total_bits ≤ 126

narrow_wide : (c : Column) → IsNarrow (as_joined c) → IsRowWide (as_joined c)
narrow_wide c narrow = omega (arith, narrow)

joined_wide : {A : Type 0} (g : A → Column) (xs : List A) → AllByRecursion IsNarrow (map (λ x. as_joined (g x)) xs)
    → AllByRecursion IsRowWide (map (λ x. as_joined (g x)) xs)
joined_wide g [] all = tt
joined_wide g (x ∷ xs) all = (narrow_wide (g x) all.0, joined_wide g xs all.1)

pub all-front : {A : Type 0} (P : A → Type 0) (xs ys : List A) → AllByRecursion P (xs ++ ys) → AllByRecursion P xs
    × AllByRecursion P ys
all-front P [] ys all = (tt, all)
all-front P (x ∷ xs) ys all = ((all.0, (all-front P xs ys all.1).0), (all-front P xs ys all.1).1)

-- the columns of a join that has no fault allow for a table's rows
pub join_columns-row_wide : (held : SchemaLists) (lefts rights : List Column)
    → AllByRecursion IsNarrow (join_columns held lefts rights)
    → AllByRecursion IsRowWide (join_columns held lefts rights)
join_columns-row_wide held lefts rights narrow =
    let parts = all-front IsNarrow (map (left_column held rights) lefts)
    (map as_joined (right_columns lefts rights)) narrow in
    all_append IsRowWide (map (left_column held rights) lefts) (map as_joined (right_columns lefts rights))
    (joined_wide (λ (column : Column). unwrap_or (common_column held rights column) column) lefts parts.0)
    (joined_wide (λ (column : Column). column) (right_columns lefts rights) parts.1)

-- the rows of a join
pub FitTable-join : (held : SchemaLists) (lefts rights : List Column) (rows others : List TimedRow)
    → FitTable lefts rows
    → FitTable rights others → AllByRecursion IsNarrow (join_columns held lefts rights)
    → length (flat_map (pairs_of lefts rights others) rows) ≤ 2 ^ 24
    → FitTable (join_columns held lefts rights) (flat_map (pairs_of lefts rights others) rows)
FitTable-join held lefts rights rows others fit other narrow few =
    let columns = join_columns held lefts rights in
    let P : TimedRow → Type 0 = λ row. FitColumns lefts row.cells × FitWidths lefts row.cells in
    let Q : TimedRow → Type 0 = λ row. FitColumns rights row.cells × FitWidths rights row.cells in
    let all : AllByRecursion P rows =
    all_both (λ row. FitColumns lefts row.cells) (λ row. FitWidths lefts row.cells) rows fit.shaped
    fit.widths in
    let more : AllByRecursion Q others =
    all_both (λ row. FitColumns rights row.cells) (λ row. FitWidths rights row.cells) others other.shaped
    other.widths in
    let shaped : AllByRecursion (λ row. FitColumns columns row.cells) (flat_map (pairs_of lefts rights others) rows) =
    all-flat_map P (λ row. FitColumns columns row.cells) (pairs_of lefts rights others) rows
    (λ left p. all-made Q (λ row. FitColumns columns row.cells) (pair_of lefts rights left)
    (filter (is_pair lefts rights left) others)
    (λ right q. pair_fits held lefts rights left right p.0 q.0)
    (all-filter Q (is_pair lefts rights left) others more)) all in
    let widths : AllByRecursion (λ row. FitWidths columns row.cells) (flat_map (pairs_of lefts rights others) rows) =
    all-flat_map P (λ row. FitWidths columns row.cells) (pairs_of lefts rights others) rows
    (λ left p. all-made Q (λ row. FitWidths columns row.cells) (pair_of lefts rights left)
    (filter (is_pair lefts rights left) others)
    (λ right q. pair_widths held lefts rights left right p.0 q.0 p.1 q.1)
    (all-filter Q (is_pair lefts rights left) others more)) all in
    record {
      shaped = shaped;
      widths = widths;
      totals = totals-row_wide columns (flat_map (pairs_of lefts rights others) rows) widths few
          (join_columns-row_wide held lefts rights narrow);
    }
