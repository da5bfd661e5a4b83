-- The rows of unions: types, and widths.
use Rattle.std.proofs.Common.{◌≡◌, ◌≤◌, ℕ, ℤ, zero, suc, ◌+◌, ◌*◌, ◌-◌, ◌^◌, inl, inr, true, ◌&&◌, Some, List, [], ◌∷◌}
use Rattle.std.proofs.Common.{◌++◌, length, min, max, subst, refl, ap, sym, arith}
use Rattle.std.specs.Prelude.{slice_get}
use Rattle.std.specs.Cmp.Lexicographic.{pointwise}
use Rattle.std.specs.List.{AllByRecursion, sum_by}
use Rattle.std.specs.Ordering.{int_eq}
use Rattle.std.proofs.lemmas.Nat.{pow-add}
use Rattle.std.proofs.lemmas.List.Sums.{sum_by-append}
use Rattle.std.proofs.Math.Nat.{eq-or-lt_of_le, min-le_left, pow-le-pow_right}
use Rattle.mon_value.specs.Tables.{FitColumns, HasType}
use Rattle.mon_value.specs.Same.{same_text, same_truth}
use Rattle.mon_value.specs.Values.{magnitude}
use Rattle.mon_value.specs.declared.columns.Column.{Column}
use Rattle.mon_value.specs.declared.tables.TimedRow.{TimedRow}
use Rattle.mon_value.specs.declared.values.Value.{Value}
use Rattle.mon_value.specs.declared.values.Value.TheVariants as value
use Rattle.mon_value.specs.declared.values.ValueType.{ValueType}
use Rattle.mon_value.specs.declared.values.ValueType.TheVariants as type
use Rattle.mon_schema.specs.Names.{SchemaLists}
use Rattle.mql_ast.specs.Rows.{FitWidths}
use Rattle.typed_trees.specs.Branches.{same_column, same_columns, same_type, union_columns, united_column}
use Rattle.typed_trees.specs.Soundness.{FitTable}
use Rattle.typed_rows.proofs.Totals.{counted, total_at, totals_from}
use Rattle.typed_rows.proofs.JoinedRows.{IsNarrow, all-map, column_of_all, place_bound}
use Rattle.mon_value.proofs.PlainLemmas.{nothing_is, and_both, all_append, same_item}

-- ---- types

same_length : (xs ys : List ℤ) → pointwise int_eq xs ys ≡ true → length xs ≡ length ys
same_length [] [] same = refl
same_length [] (y ∷ ys) same = absurd cc
same_length (x ∷ xs) [] same = absurd cc
same_length (x ∷ xs) (y ∷ ys) same =
    ap (λ n. suc n) (same_length xs ys (and_both (int_eq x y) (pointwise int_eq xs ys) same).1)

-- a value of a type is of the same type
pub same_type-HasType : (a b : ValueType) (x : Value) → same_type a b ≡ true → HasType b x → HasType a x
same_type-HasType type.Int type.Int x same has = has
same_type-HasType type.Bool type.Bool x same has = has
same_type-HasType type.Text type.Text x same has = has
same_type-HasType (type.Dist bounds) (type.Dist others) (value.Dist counts) same has =
    omega (arith, same_length bounds others same, has)
same_type-HasType (type.Dist bounds) (type.Dist others) (value.Int z) same has = has
same_type-HasType (type.Dist bounds) (type.Dist others) (value.Bool b) same has = has
same_type-HasType (type.Dist bounds) (type.Dist others) (value.Text s) same has = has
same_type-HasType type.Int type.Bool x same has = absurd cc
same_type-HasType type.Int type.Text x same has = absurd cc
same_type-HasType type.Int (type.Dist others) x same has = absurd cc
same_type-HasType type.Bool type.Int x same has = absurd cc
same_type-HasType type.Bool type.Text x same has = absurd cc
same_type-HasType type.Bool (type.Dist others) x same has = absurd cc
same_type-HasType type.Text type.Int x same has = absurd cc
same_type-HasType type.Text type.Bool x same has = absurd cc
same_type-HasType type.Text (type.Dist others) x same has = absurd cc
same_type-HasType (type.Dist bounds) type.Int x same has = absurd cc
same_type-HasType (type.Dist bounds) type.Bool x same has = absurd cc
same_type-HasType (type.Dist bounds) type.Text x same has = absurd cc

types_same : (left right : Column) → same_column left right ≡ true → same_type left.of right.of ≡ true
types_same left right same =
    (and_both (same_type left.of right.of) (same_truth left.key right.key)
    (and_both (same_text left.name right.name) (same_type left.of right.of && same_truth left.key right.key)
    same).1).0

pub left_fits : (held : SchemaLists) (lefts rights : List Column) (xs : List Value) → same_columns lefts rights ≡ true
    → FitColumns lefts xs → FitColumns (union_columns held lefts rights) xs
left_fits held [] rights [] same fit = tt
left_fits held [] rights (x ∷ xs) same fit = absurd fit
left_fits held (l ∷ ls) [] xs same fit = absurd cc
left_fits held (l ∷ ls) (r ∷ rs) [] same fit = absurd fit
left_fits held (l ∷ ls) (r ∷ rs) (x ∷ xs) same fit =
    (fit.0, left_fits held ls rs xs (and_both (same_column l r) (same_columns ls rs) same).1 fit.1)

pub right_fits : (held : SchemaLists) (lefts rights : List Column) (xs : List Value) → same_columns lefts rights ≡ true
    → FitColumns rights xs → FitColumns (union_columns held lefts rights) xs
right_fits held [] [] [] same fit = tt
right_fits held [] [] (x ∷ xs) same fit = absurd fit
right_fits held [] (r ∷ rs) xs same fit = absurd cc
right_fits held (l ∷ ls) [] xs same fit = absurd cc
right_fits held (l ∷ ls) (r ∷ rs) [] same fit = absurd fit
right_fits held (l ∷ ls) (r ∷ rs) (x ∷ xs) same fit = (
  same_type-HasType l.of r.of x (types_same l r (and_both (same_column l r) (same_columns ls rs) same).0) fit.0,
  right_fits held ls rs xs (and_both (same_column l r) (same_columns ls rs) same).1 fit.1,
)

-- ---- widths of cells

wider : (n a b : ℕ) → n ≤ 2 ^ a → a ≤ b → n ≤ 2 ^ b
wider n a b within more = omega (arith, within, pow-le-pow_right {n = 2} (omega arith) more)

left_widths : (held : SchemaLists) (lefts rights : List Column) (xs : List Value) → FitWidths lefts xs
    → FitWidths (union_columns held lefts rights) xs
left_widths held [] rights xs fit = tt
left_widths held (l ∷ ls) [] xs fit = tt
left_widths held (l ∷ ls) (r ∷ rs) [] fit = tt
left_widths held (l ∷ ls) (r ∷ rs) (x ∷ xs) fit = (
  wider (magnitude x) l.cell_bits (max l.cell_bits r.cell_bits) fit.0 (omega arith),
  left_widths held ls rs xs
      fit.1,
)

right_widths : (held : SchemaLists) (lefts rights : List Column) (xs : List Value) → FitWidths rights xs
    → FitWidths (union_columns held lefts rights) xs
right_widths held [] rights xs fit = tt
right_widths held (l ∷ ls) [] xs fit = tt
right_widths held (l ∷ ls) (r ∷ rs) [] fit = tt
right_widths held (l ∷ ls) (r ∷ rs) (x ∷ xs) fit = (
  wider (magnitude x) r.cell_bits (max l.cell_bits r.cell_bits) fit.0 (omega arith),
  right_widths held ls rs xs
      fit.1,
)

-- ---- totals

-- a column of a union, and those that it is made of
record Made (held : SchemaLists) (lefts rights : List Column) (place : ℕ) (column : Column) : Type 0 where
  left : Column
  right : Column
  in_left : slice_get lefts place ≡ Some left
  in_right : slice_get rights place ≡ Some right
  is : column ≡ united_column held left right

made_of : (held : SchemaLists) (lefts rights : List Column) (place : ℕ) (column : Column)
    → slice_get (union_columns held lefts rights) place ≡ Some column → Made held lefts rights place column
made_of held [] rights place column e = absurd (nothing_is column e)
made_of held (l ∷ ls) [] place column e = absurd (nothing_is column e)
made_of held (l ∷ ls) (r ∷ rs) zero column e = record {
  left = l;
  right = r;
  in_left = refl;
  in_right = refl;
  is = sym (same_item (united_column held l r) column e);
}
made_of held (l ∷ ls) (r ∷ rs) (suc place) column e =
    let rest = made_of held ls rs place column e in
    record { left = rest.left; right = rest.right; in_left = rest.in_left; in_right = rest.in_right; is = rest.is }

-- two sums together have a bit more than the wider
pub both_sums : (x y a b : ℕ) → x ≤ 2 ^ a → y ≤ 2 ^ b → x + y ≤ 2 ^ (max a b + 1)
both_sums x y a b hx hy =
    let left : 2 ^ a ≤ 2 ^ max a b = pow-le-pow_right {n = 2} (omega arith) (omega arith) in
    let right : 2 ^ b ≤ 2 ^ max a b = pow-le-pow_right {n = 2} (omega arith) (omega arith) in
    let twice : 2 ^ (max a b + 1) ≡ 2 ^ max a b * 2 = pow-add 2 (max a b) 1 in
    omega (arith, hx, hy, left, right, twice)

-- within two powers of 2, and so within the lesser
least_bound : (n a b : ℕ) → n ≤ 2 ^ a → n ≤ 2 ^ b → n ≤ 2 ^ min a b
least_bound n a b ha hb =
    elim (eq-or-lt_of_le (min-le_left a b)) as (λ e. n ≤ 2 ^ min a b)
    [ inl e ↦ rw e ha | inr l ↦ (let e : min a b ≡ b = omega (arith, l) in rw e hb) ]

-- a union's bound, where it isn't too wide
united_bound : (n left right cell : ℕ) → n ≤ 2 ^ (max left right + 1) → n ≤ 2 ^ (cell + 24)
    → min (min (max left right + 1) (2 ^ 32 - 1)) (min (cell + 24) (2 ^ 32 - 1)) ≤ 126
    → n ≤ 2 ^ min (min (max left right + 1) (2 ^ 32 - 1)) (min (cell + 24) (2 ^ 32 - 1))
united_bound n left right cell ha hb narrow =
    let same : min (max left right + 1) (cell + 24) ≡ min (min (max left right + 1) (2 ^ 32 - 1))
    (min (cell + 24) (2 ^ 32 - 1)) = omega (arith, narrow) in
    let P : ℕ → Type 0 = λ bits. n ≤ 2 ^ bits in
    subst P same (least_bound n (max left right + 1) (cell + 24) ha hb)

-- the rows of a union
pub FitTable-union : (held : SchemaLists) (lefts rights : List Column) (rows others : List TimedRow)
    → FitTable lefts rows
    → FitTable rights others → same_columns lefts rights ≡ true
    → AllByRecursion IsNarrow (union_columns held lefts rights)
    → length (rows ++ others) ≤ 2 ^ 24 → FitTable (union_columns held lefts rights) (rows ++ others)
FitTable-union held lefts rights rows others fit other same narrow few =
    let columns = union_columns held lefts rights in
    let shaped : AllByRecursion (λ row. FitColumns columns row.cells) (rows ++ others) =
    all_append (λ row. FitColumns columns row.cells) rows others
    (all-map (λ row. FitColumns lefts row.cells) (λ row. FitColumns columns row.cells) rows
    (λ row f. left_fits held lefts rights row.cells same f) fit.shaped)
    (all-map (λ row. FitColumns rights row.cells) (λ row. FitColumns columns row.cells) others
    (λ row f. right_fits held lefts rights row.cells same f) other.shaped) in
    let widths : AllByRecursion (λ row. FitWidths columns row.cells) (rows ++ others) =
    all_append (λ row. FitWidths columns row.cells) rows others
    (all-map (λ row. FitWidths lefts row.cells) (λ row. FitWidths columns row.cells) rows
    (λ row f. left_widths held lefts rights row.cells f) fit.widths)
    (all-map (λ row. FitWidths rights row.cells) (λ row. FitWidths columns row.cells) others
    (λ row f. right_widths held lefts rights row.cells f) other.widths) in
    record {
      shaped = shaped;
      widths = widths;
      totals = λ time. totals_from time (rows ++ others) 0 columns
          (λ place column e.
          let made = made_of held lefts rights place column e in
          let place' = 0 + place in
          let left = total_at time rows 0 lefts (fit.totals time) place made.left made.in_left in
          let right = total_at time others 0 rights (other.totals time) place made.right made.in_right in
          let sums : sum_by (counted time place') (rows ++ others) ≡ sum_by (counted time place') rows + sum_by
          (counted time place') others =
          sum_by-append (counted time place') rows others in
          let here : place ≡ place' = omega arith in
          let P : ℕ → Type 0 = λ n. sum_by (counted time n) (rows ++ others) ≤ 2 ^ (column.cell_bits + 24) in
          let many : sum_by (counted time place') (rows ++ others) ≤ 2 ^ (column.cell_bits + 24) =
          subst P here (place_bound columns (rows ++ others) widths few time place column e) in
          let united = united_column held made.left made.right in
          let Q : Column → Type 0 = λ c. sum_by (counted time place') (rows ++ others) ≤ 2 ^ (c.cell_bits + 24) in
          let N : Column → Type 0 = λ c. IsNarrow c in
          let B : Column → Type 0 = λ c. sum_by (counted time place') (rows ++ others) ≤ 2 ^ c.total_bits in
          subst B (sym made.is)
          (united_bound (sum_by (counted time place') (rows ++ others)) made.left.total_bits
          made.right.total_bits united.cell_bits
          (rw sums (both_sums (sum_by (counted time place') rows) (sum_by (counted time place') others)
          made.left.total_bits made.right.total_bits left right))
          (subst Q made.is many)
          (subst N made.is (column_of_all IsNarrow columns place column narrow e))));
    }
