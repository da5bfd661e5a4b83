-- The sums of columns at a time, as sums over the rows.
use Rattle.std.proofs.Common.{◌≡◌, ◌∙◌, ◌≤◌, ℕ, ℤ, ◌+◌, ◌^◌, Bool, true, false, not, cond, Option, Some, None, List}
use Rattle.std.proofs.Common.{[], ◌∷◌, zero, suc, ◌*◌, length, subst, refl, ap, sym, arith}
use Rattle.std.specs.List.{AllByRecursion, cons_option, filter, sum_by}
use Rattle.std.specs.Option.{option_map_or}
use Rattle.std.specs.Ordering.{int_eq}
use Rattle.std.specs.Prelude.{slice_get}
use Rattle.std.proofs.Math.Nat.{suc-mul}
use Rattle.std.proofs.lemmas.List.Sums.{sum_by-cons}
use Rattle.std.proofs.lemmas.List.Filters.{sum_by-filter_both}
use Rattle.mon_value.specs.Groups.{rows_at, column_of}
use Rattle.mon_value.specs.Values.{magnitude}
use Rattle.mon_value.specs.declared.columns.Column.{Column}
use Rattle.mon_value.specs.declared.tables.TimedRow.{TimedRow}
use Rattle.mon_value.specs.declared.values.Value.{Value}
use Rattle.mql_ast.specs.Rows.{FitWidths}
use Rattle.typed_trees.specs.Soundness.{TotalsFit}
use Rattle.mon_value.proofs.PlainLemmas.{nothing_is, same_item}

pub within_by : (b : Bool) (n most : ℕ) → n ≤ most → cond b n 0 ≤ most
within_by true n most h = h
within_by false n most h = omega arith

-- how much a row counts in a column at a time
abbrev pub counted : ℤ → ℕ → TimedRow → ℕ
counted time place row = cond (int_eq row.time time) (option_map_or magnitude (slice_get row.cells place) 0) 0

pub by_cell : (cell : Option Value) (cells : List Value)
    → sum_by magnitude (cons_option cell cells) ≡ option_map_or magnitude cell 0 + sum_by magnitude cells
by_cell None cells = omega arith
by_cell (Some cell) cells = sum_by-cons magnitude cell cells

by_time : (b : Bool) (place : ℕ) (row : TimedRow) (rows : List TimedRow)
    → sum_by magnitude (column_of place (cond b (row ∷ rows) rows))
    ≡ cond b (option_map_or magnitude (slice_get row.cells place) 0) 0 + sum_by magnitude (column_of place rows)
by_time true place row rows = by_cell (slice_get row.cells place) (column_of place rows)
by_time false place row rows = omega arith

-- the sum of a column at a time
pub total-counted : (time : ℤ) (place : ℕ) (rows : List TimedRow)
    → sum_by magnitude (column_of place (rows_at time rows)) ≡ sum_by (counted time place) rows
total-counted time place [] = refl
total-counted time place (row ∷ rows) =
    by_time (int_eq row.time time) place row (rows_at time rows)
    ∙ ap (λ n. counted time place row + n) (total-counted time place rows)
    ∙ sym (sum_by-cons (counted time place) row rows)

-- rows that count no more in each column fit where the others do
pub TotalsFit-fewer : (time : ℤ) (rows fewer : List TimedRow)
    → ((place : ℕ) → sum_by (counted time place) fewer ≤ sum_by (counted time place) rows)
    → (next : ℕ) (columns : List Column) → TotalsFit next columns (rows_at time rows)
    → TotalsFit next columns (rows_at time fewer)
TotalsFit-fewer time rows fewer less next [] fit = tt
TotalsFit-fewer time rows fewer less next (column ∷ columns) fit = (
  omega (arith, total-counted time next rows, total-counted time next fewer, less next, fit.0),
  TotalsFit-fewer time rows fewer less (next + 1) columns fit.1,
)

pub sum_by-filter-le : {A : Type 0} (f : A → ℕ) (p : A → Bool) (xs : List A) → sum_by f (filter p xs) ≤ sum_by f xs
sum_by-filter-le f p xs = omega (arith, sum_by-filter_both p (λ x. not (p x)) (λ x. refl) f xs)

-- ---- one column

-- what a row counts is within its column's cell bits
abbrev pub CellWithin : List Column → ℕ → List Value → Type 0
CellWithin columns place cells =
    (column : Column) → slice_get columns place ≡ Some column
    → option_map_or magnitude (slice_get cells place) 0 ≤ 2 ^ column.cell_bits

pub cell_within : (columns : List Column) (cells : List Value) → FitWidths columns cells → (place : ℕ)
    → CellWithin columns place cells
cell_within [] cells fit place = λ column e. absurd (nothing_is column e)
cell_within (column ∷ columns) [] fit place = λ other e. omega arith
cell_within (column ∷ columns) (cell ∷ cells) fit zero = λ other e.
    let same : column ≡ other = same_item column other e in
    let P : Column → Type 0 = λ c. magnitude cell ≤ 2 ^ c.cell_bits in
    subst P same fit.0
cell_within (column ∷ columns) (cell ∷ cells) fit (suc place) = cell_within columns cells fit.1 place

-- so many rows count no more than each does so many times
pub counted_rows : (time : ℤ) (place most : ℕ) (rows : List TimedRow)
    → AllByRecursion (λ row. option_map_or magnitude (slice_get row.cells place) 0 ≤ most) rows
    → sum_by (counted time place) rows ≤ length rows * most
counted_rows time place most [] all = omega arith
counted_rows time place most (row ∷ rows) all =
    let one = within_by (int_eq row.time time) (option_map_or magnitude (slice_get row.cells place) 0) most all.0 in
    let more = counted_rows time place most rows all.1 in
    let sums = sum_by-cons (counted time place) row rows in
    let product = suc-mul (length rows) most in
    omega (arith, one, more, sums, product)

-- a column's sum at a time is within its bits
pub total_at : (time : ℤ) (rows : List TimedRow) (next : ℕ) (columns : List Column)
    → TotalsFit next columns (rows_at time rows)
    → (place : ℕ) (column : Column) → slice_get columns place ≡ Some column
    → sum_by (counted time (next + place)) rows ≤ 2 ^ column.total_bits
total_at time rows next [] fit place column e = absurd (nothing_is column e)
total_at time rows next (first ∷ columns) fit zero column e =
    let same : first ≡ column = same_item first column e in
    let P : Column → Type 0 = λ c. sum_by (counted time (next + 0)) rows ≤ 2 ^ c.total_bits in
    subst P same
    (let here : next + 0 ≡ next = omega arith in
    rw here (omega (arith, total-counted time next rows, fit.0)))
total_at time rows next (first ∷ columns) fit (suc place) column e =
    let moved : next + suc place ≡ (next + 1) + place = omega arith in
    rw moved (total_at time rows (next + 1) columns fit.1 place column e)

-- columns whose sums at a time are within their bits
pub totals_from : (time : ℤ) (rows : List TimedRow) (next : ℕ) (columns : List Column)
    → ((place : ℕ) (column : Column) → slice_get columns place ≡ Some column
    → sum_by (counted time (next + place)) rows ≤ 2 ^ column.total_bits)
    → TotalsFit next columns (rows_at time rows)
totals_from time rows next [] within = tt
totals_from time rows next (column ∷ columns) within = (
  let here : next + 0 ≡ next = omega arith in
      let own : sum_by (counted time (next + 0)) rows ≤ 2 ^ column.total_bits = within 0 column refl in
      let P : ℕ → Type 0 = λ n. sum_by (counted time n) rows ≤ 2 ^ column.total_bits in
      omega (arith, total-counted time next rows, subst P here own),
  totals_from time rows (next + 1) columns
      (λ place other e.
      let moved : next + suc place ≡ (next + 1) + place = omega arith in
      let P : ℕ → Type 0 = λ n. sum_by (counted time n) rows ≤ 2 ^ other.total_bits in
      subst P moved (within (suc place) other e)),
)
