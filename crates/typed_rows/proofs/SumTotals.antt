-- What sums come to in all rows of a time is within their widths.
use Rattle.std.proofs.Common.{◌≡◌, ◌≤◌, ℕ, ℤ, ◌+◌, ◌*◌, ◌^◌, ◌+ℤ◌, ◌-ℤ◌, Bool, true, false, cond, Option, Some, None}
use Rattle.std.proofs.Common.{List, [], ◌∷◌, length, max, subst, refl, sym, arith, unsigned_abs}
use Rattle.std.specs.Prelude.{option_and_then, slice_get}
use Rattle.std.specs.List.{sum_by}
use Rattle.std.specs.Ordering.{int_eq}
use Rattle.std.proofs.Math.Nat.{suc-mul}
use Rattle.std.proofs.lemmas.List.Sums.{sum_by-cons}
use Rattle.mon_value.specs.Groups.{rows_at}
use Rattle.mon_value.specs.declared.columns.Column.{Column}
use Rattle.mon_value.specs.declared.tables.TimedRow.{TimedRow}
use Rattle.mql_ast.specs.Rows.{cell_named, column_named, place_of, sum_value}
use Rattle.mql_ast.specs.Trees as tree
use Rattle.mql_ast.specs.Trees.{SumTree}
use Rattle.typed_trees.specs.declared.widths.Width.{Width}
use Rattle.typed_trees.specs.Items.{operand_faults, optional_width_faults, sum_width, width_of_type, width_together}
use Rattle.typed_trees.specs.Soundness.{HasLiterals, TotalsFit}
use Rattle.typed_trees.specs.Branches.{added_width, point_width, width_of}
use Rattle.typed_rows.proofs.JoinedRows.{column_of_all, row_wide}
use Rattle.typed_rows.proofs.SumBounds.{AreLawful, IsLawful, IsSound, added_by, amount, both_by, column_by, lawful_sum}
use Rattle.typed_rows.proofs.SumBounds.{not_wide, number_within, numbers_at, percentile_column, taken_by}
use Rattle.typed_rows.proofs.SumBounds.{together_within}
use Rattle.typed_rows.proofs.Totals.{counted, total_at, within_by}
use Rattle.typed_rows.proofs.UnitedRows.{both_sums}
use Rattle.typed_trees.proofs.FetchColumnLemmas.{both_none}
use Rattle.mon_value.proofs.PlainLemmas.{same_item}

-- how much a sum comes to in a row of a time
abbrev pub summed : ℤ → List Column → SumTree → TimedRow → ℕ
summed time columns e row = cond (int_eq row.time time) (amount (sum_value e columns row.cells)) 0

-- so many rows come to no more than each does so many times
each_within : (time : ℤ) (most : ℕ) (f : TimedRow → ℕ) → ((row : TimedRow) → f row ≤ most) → (rows : List TimedRow)
    → sum_by (λ row. cond (int_eq row.time time) (f row) 0) rows ≤ length rows * most
each_within time most f within [] = omega arith
each_within time most f within (row ∷ rows) =
    let own : TimedRow → ℕ = λ row. cond (int_eq row.time time) (f row) 0 in
    omega (
      arith,
      within_by (int_eq row.time time) (f row) most (within row),
      each_within time most f within rows,
      sum_by-cons own row rows,
      suc-mul (length rows) most,
    )

-- what comes to no more than two others in each row
of_two : (f g h : TimedRow → ℕ) → ((row : TimedRow) → h row ≤ f row + g row) → (rows : List TimedRow)
    → sum_by h rows ≤ sum_by f rows + sum_by g rows
of_two f g h less [] = omega arith
of_two f g h less (row ∷ rows) =
    omega (
      arith,
      less row,
      of_two f g h less rows,
      sum_by-cons f row rows,
      sum_by-cons g row rows,
      sum_by-cons h
          row rows,
    )

two_by : (b : Bool) (n x y : ℕ) → n ≤ x + y → cond b n 0 ≤ cond b x 0 + cond b y 0
two_by true n x y h = h
two_by false n x y h = omega arith

-- within the bits of a sum over rows
abbrev pub IsTotalWithin : ℕ → Width → Type 0
IsTotalWithin n w = (n ≤ 2 ^ w.total) × IsLawful w

total_bits : (x y n : ℕ) (left right w : Width) → n ≤ x + y → x ≤ 2 ^ left.total → y ≤ 2 ^ right.total
    → added_width left right ≡ w
    → w.total ≤ 126 → n ≤ 2 ^ w.total
total_bits x y n left right w less hx hy is narrow =
    let P : Width → Type 0 = λ v. v.total ≤ 126 in
    let own : (added_width left right).total ≤ 126 = subst P (sym is) narrow in
    let exact : max left.total right.total + 1 ≡ (added_width left right).total = omega (arith, own) in
    let B : ℕ → Type 0 = λ bits. n ≤ 2 ^ bits in
    let Q : Width → Type 0 = λ v. n ≤ 2 ^ v.total in
    subst Q is (subst B exact (omega (arith, less, both_sums x y left.total right.total hx hy)))

plus_total : (n x y at : ℕ) (a b : Option Width) (w : Width) → n ≤ x + y → width_together a b ≡ Some w
    → optional_width_faults at (width_together a b) ≡ [] → ((v : Width) → a ≡ Some v → IsTotalWithin x v)
    → ((v : Width) → b ≡ Some v → IsTotalWithin y v) → IsTotalWithin n w
plus_total n x y at a b w less e none left right =
    let two = both_by a b w e in
    let P : Option Width → Type 0 = λ o. optional_width_faults at o ≡ [] in
    let narrow : w.total ≤ 126 = not_wide at w (subst P e none) in
    let l = left two.left two.of_left in
    let r = right two.right two.of_right in (
      total_bits x y n two.left two.right w less l.0 r.0 two.is narrow,
      lawful_sum two.left two.right w two.is l.1
          r.1 narrow,
    )

column_total : (columns : List Column) (rows : List TimedRow) (time : ℤ) → TotalsFit 0 columns (rows_at time rows)
    → AreLawful columns
    → (place : ℕ) (o : Option Column) → slice_get columns place ≡ o → (w : Width)
    → option_and_then (λ (column : Column). width_of_type column.of (width_of column)) o ≡ Some w
    → IsTotalWithin (sum_by (counted time place) rows) w
column_total columns rows time fit lawful place None e w h = absurd cc
column_total columns rows time fit lawful place (Some c) e w h =
    let same : width_of c ≡ w = column_by c.of (width_of c) w h in
    let P : Width → Type 0 = λ v. IsTotalWithin (sum_by (counted time place) rows) v in
    let here : 0 + place ≡ place = omega arith in
    let N : ℕ → Type 0 = λ n. sum_by (counted time n) rows ≤ 2 ^ c.total_bits in
    subst P same (
      subst N here (total_at time rows 0 columns fit place c e),
      (column_of_all IsSound columns place c lawful e).width,
    )

number_total : (n rows : ℕ) (w : Width) → point_width ≡ w → n ≤ rows * 2 ^ 63 → rows ≤ 2 ^ 24 → IsTotalWithin n w
number_total n rows w e h few =
    let P : Width → Type 0 = λ v. IsTotalWithin n v in
    subst P e (row_wide n rows 63 87 h few (omega arith), record { ordered = omega arith; narrow = omega arith })

-- what a sum comes to in all rows of a time, where it has no fault, is within its width
pub total_within : (columns : List Column) (rows : List TimedRow) (time : ℤ)
    → TotalsFit 0 columns (rows_at time rows) → length rows ≤ 2 ^ 24
    → AreLawful columns → (e : SumTree) → HasLiterals e → operand_faults columns e ≡ [] → (w : Width)
    → sum_width columns e ≡ Some w
    → IsTotalWithin (sum_by (summed time columns e) rows) w
total_within columns rows time fit few lawful (tree.Column name) literal none w h =
    column_total columns rows time fit lawful (place_of name.text columns) (column_named name.text columns) refl w h
total_within columns rows time fit few lawful (tree.Number at z) literal none w h =
    number_total (sum_by (summed time columns (tree.Number at z)) rows) (length rows) w (same_item point_width w h)
    (each_within time (2 ^ 63) (λ row. unsigned_abs z) (λ row. number_within z literal) rows) few
total_within columns rows time fit few lawful (tree.Plus left right) literal none w h =
    let first = both_none (operand_faults columns left) _ none in
    let second = both_none (operand_faults columns right) _ first.1 in
    plus_total (sum_by (summed time columns (tree.Plus left right)) rows) (sum_by (summed time columns left) rows)
    (sum_by (summed time columns right) rows) _
    (sum_width columns left) (sum_width columns right) w
    (of_two (summed time columns left) (summed time columns right) (summed time columns (tree.Plus left right))
    (λ row. two_by (int_eq row.time time) _ _ _
    (together_within ◌+ℤ◌ added_by (sum_value left columns row.cells)
    (sum_value right columns row.cells))) rows)
    h second.1
    (λ v e. total_within columns rows time fit few lawful left literal.0 first.0 v e)
    (λ v e. total_within columns rows time fit few lawful right literal.1 second.0 v e)
total_within columns rows time fit few lawful (tree.Minus left right) literal none w h =
    let first = both_none (operand_faults columns left) _ none in
    let second = both_none (operand_faults columns right) _ first.1 in
    plus_total (sum_by (summed time columns (tree.Minus left right)) rows) (sum_by (summed time columns left) rows)
    (sum_by (summed time columns right) rows) _
    (sum_width columns left) (sum_width columns right) w
    (of_two (summed time columns left) (summed time columns right) (summed time columns (tree.Minus left right))
    (λ row. two_by (int_eq row.time time) _ _ _
    (together_within ◌-ℤ◌ taken_by (sum_value left columns row.cells)
    (sum_value right columns row.cells))) rows)
    h second.1
    (λ v e. total_within columns rows time fit few lawful left literal.0 first.0 v e)
    (λ v e. total_within columns rows time fit few lawful right literal.1 second.0 v e)
total_within columns rows time fit few lawful (tree.Percentile at name p) literal none w h =
    number_total (sum_by (summed time columns (tree.Percentile at name p)) rows) (length rows) w
    (same_item point_width w h)
    (each_within time (2 ^ 63) (λ row. amount (sum_value (tree.Percentile at name p) columns row.cells))
    (λ row. percentile_column (column_named name.text columns) (cell_named name.text columns row.cells) p
    (λ c e. numbers_at columns lawful (place_of name.text columns) c e)) rows) few
