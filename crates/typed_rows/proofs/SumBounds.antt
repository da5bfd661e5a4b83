-- What sums come to is within their widths.
use Rattle.std.proofs.Common.{◌≡◌, ◌≤◌, ℕ, ℤ, pos, zero, suc, ◌+◌, ◌^◌, ◌+ℤ◌, ◌-ℤ◌, ◌==◌, Bool, true, false, cond}
use Rattle.std.proofs.Common.{nat_lt, int_le, int_lt, neg_ℤ, Option, Some, None, List, [], ◌∷◌, ◌++◌, max, subst, refl}
use Rattle.std.proofs.Common.{sym, arith, unsigned_abs, ltb-false}
use Rattle.std.specs.Prelude.{option_and_then, option_map, slice_get, slice_index_or, sum}
use Rattle.std.specs.List.{AllByRecursion}
use Rattle.std.specs.Option.{option_map_or}
use Rattle.mon_value.specs.Groups.{percentile_of, upper_bound, counts_in}
use Rattle.mon_value.specs.Values.{magnitude}
use Rattle.mon_value.specs.declared.columns.Column.{Column}
use Rattle.mon_value.specs.declared.values.Value.{Value}
use Rattle.mon_value.specs.declared.values.Value.TheVariants as value
use Rattle.mon_value.specs.declared.values.ValueType.{ValueType}
use Rattle.mon_value.specs.declared.values.ValueType.TheVariants as type
use Rattle.mon_schema.specs.Fits.{is_number, HasNumbers}
use Rattle.mql_ast.specs.Rows.{cell_named, column_named, place_of, FitWidths, HasBound, bucket_bounds, percentile_in}
use Rattle.mql_ast.specs.Rows.{put_together, sum_value}
use Rattle.mql_ast.specs.Trees as tree
use Rattle.mql_ast.specs.Trees.{SumTree}
use Rattle.typed_trees.specs.declared.widths.Width.{Width}
use Rattle.typed_trees.specs.Items.{operand_faults, optional_width_faults, sum_width, width_of_type, width_together}
use Rattle.typed_trees.specs.Soundness.{HasLiterals}
use Rattle.typed_trees.specs.Branches.{added_width, point_width, width_faults, width_of}
use Rattle.typed_rows.proofs.Totals.{cell_within}
use Rattle.typed_rows.proofs.JoinedRows.{column_of_all}
use Rattle.typed_rows.proofs.UnitedRows.{both_sums}
use Rattle.typed_trees.specs.declared.faults.TypeKind.TheVariants.{TooWide}
use Rattle.std.proofs.lemmas.Int.{ints}
use Rattle.mon_value.proofs.PlainLemmas.{and_both, same_item}
use Rattle.typed_trees.proofs.FetchColumnLemmas.{both_none}
use Rattle.typed_rows.proofs.TypedGridLemmas.{no_test}

-- a width that isn't too wide
pub record IsLawful (width : Width) : Type 0 where
  pub ordered : width.cell ≤ width.total
  pub narrow : width.total ≤ 126

-- how much an optional value counts
abbrev pub amount : Option Value → ℕ
amount o = option_map_or magnitude o 0

-- ---- numbers

pub number_within : (z : ℤ) → is_number z ≡ true → unsigned_abs z ≤ 2 ^ 63
number_within z fits =
    let parts = and_both (int_le (neg_ℤ (pos (2 ^ 63))) z) (int_lt z (pos (2 ^ 63))) fits in
    grind (arith, ints)

pub added_by : (y z : ℤ) → unsigned_abs (y +ℤ z) ≤ unsigned_abs y + unsigned_abs z
added_by y z = omega (arith, ints)

pub taken_by : (y z : ℤ) → unsigned_abs (y -ℤ z) ≤ unsigned_abs y + unsigned_abs z
taken_by y z = omega (arith, ints)

pub together_within : (with : ℤ → ℤ → ℤ) → ((y z : ℤ) → unsigned_abs (with y z) ≤ unsigned_abs y + unsigned_abs z)
    → (a b : Option Value) → amount (put_together with a b) ≤ amount a + amount b
together_within with step None b = omega arith
together_within with step (Some (value.Int y)) None = omega arith
together_within with step (Some (value.Int y)) (Some (value.Int z)) = step y z
together_within with step (Some (value.Int y)) (Some (value.Bool p)) = omega arith
together_within with step (Some (value.Int y)) (Some (value.Text s)) = omega arith
together_within with step (Some (value.Int y)) (Some (value.Dist counts)) = omega arith
together_within with step (Some (value.Bool p)) b = omega arith
together_within with step (Some (value.Text s)) b = omega arith
together_within with step (Some (value.Dist counts)) b = omega arith

-- ---- percentiles

bound_at : (bounds : List ℤ) (i : ℕ) → AllByRecursion (λ bound. is_number bound ≡ true) bounds
    → unsigned_abs (slice_index_or bounds i (pos 0)) ≤ 2 ^ 63
bound_at [] i all = omega arith
bound_at (b ∷ bs) zero all = number_within b all.0
bound_at (b ∷ bs) (suc i) all = bound_at bs i all.1

percentile_by : (b : Bool) (bounds : List ℤ) (bucket : ℕ) → AllByRecursion (λ bound. is_number bound ≡ true) bounds
    → amount (option_map value.Int (cond b None (Some (upper_bound bounds bucket)))) ≤ 2 ^ 63
percentile_by true bounds bucket all = omega arith
percentile_by false bounds bucket all = bound_at bounds _ all

bounds_numbers : (of : ValueType) → HasNumbers of
    → AllByRecursion (λ bound. is_number bound ≡ true) (bucket_bounds of)
bounds_numbers type.Int all = tt
bounds_numbers type.Bool all = tt
bounds_numbers type.Text all = tt
bounds_numbers (type.Dist bounds) all = all

percentile_counts : (o : Option (List ℕ)) (bounds : List ℤ) (p : ℕ)
    → AllByRecursion (λ bound. is_number bound ≡ true) bounds
    → amount (option_and_then (λ counts. option_map value.Int (percentile_of counts bounds p)) o) ≤ 2 ^ 63
percentile_counts None bounds p all = omega arith
percentile_counts (Some counts) bounds p all = percentile_by (sum counts == 0) bounds _ all

-- the bounds of a column, if there is one
abbrev pub bounds_in : Option Column → List ℤ
bounds_in o = option_map_or (λ (column : Column). bucket_bounds column.of) o []

pub percentile_column : (o : Option Column) (cell : Option Value) (p : ℕ)
    → ((c : Column) → o ≡ Some c → HasNumbers c.of)
    → amount (percentile_in p (bounds_in o) cell) ≤ 2 ^ 63
percentile_column None cell p numbers = percentile_counts (option_and_then counts_in cell) [] p tt
percentile_column (Some c) cell p numbers =
    percentile_counts (option_and_then counts_in cell) (bucket_bounds c.of) p (bounds_numbers c.of (numbers c refl))

-- ---- columns

pub column_by : (of : ValueType) (own w : Width) → width_of_type of own ≡ Some w → own ≡ w
column_by type.Int own w e = cc
column_by type.Bool own w e = absurd cc
column_by type.Text own w e = absurd cc
column_by (type.Dist bounds) own w e = absurd cc

-- a column that is neither too wide nor of bounds that are none
pub record IsSound (column : Column) : Type 0 where
  pub width : IsLawful (width_of column)
  pub numbers : HasNumbers column.of
  pub bounded : HasBound column.of

abbrev pub AreLawful : List Column → Type 0
AreLawful columns = AllByRecursion IsSound columns

-- within a width that isn't too wide
abbrev pub IsWithin : ℕ → Width → Type 0
IsWithin n w = (n ≤ 2 ^ w.cell) × IsLawful w

by_column : (columns : List Column) (cells : List Value) → FitWidths columns cells → AreLawful columns → (place : ℕ)
    (o : Option Column) → slice_get columns place ≡ o → (w : Width)
    → option_and_then (λ (column : Column). width_of_type column.of (width_of column)) o ≡ Some w
    → IsWithin (amount (slice_get cells place)) w
by_column columns cells fit lawful place None e w h = absurd cc
by_column columns cells fit lawful place (Some c) e w h =
    let same : width_of c ≡ w = column_by c.of (width_of c) w h in
    let P : Width → Type 0 = λ v. IsWithin (amount (slice_get cells place)) v in
    subst P same (
      cell_within columns cells fit place c e,
      (column_of_all IsSound columns place c lawful e).width,
    )

-- ---- sums

pub record Both (a b : Option Width) (w : Width) : Type 0 where
  pub left : Width
  pub right : Width
  pub of_left : a ≡ Some left
  pub of_right : b ≡ Some right
  pub is : added_width left right ≡ w

pub both_by : (a b : Option Width) (w : Width) → width_together a b ≡ Some w → Both a b w
both_by None b w e = absurd cc
both_by (Some x) None w e = absurd cc
both_by (Some x) (Some y) w e =
    record { left = x; right = y; of_left = refl; of_right = refl; is = same_item (added_width x y) w e }

pub not_wide : (at : ℕ) (w : Width) → width_faults at w ≡ [] → w.total ≤ 126
not_wide at w e = omega (arith, ltb-false 126 w.total (no_test (nat_lt 126 w.total) at (TooWide w.total) e))

pub lawful_sum : (left right w : Width) → added_width left right ≡ w → IsLawful left → IsLawful right
    → w.total ≤ 126 → IsLawful w
lawful_sum left right w is a b narrow =
    let P : Width → Type 0 = λ v. v.total ≤ 126 in
    let own : (added_width left right).total ≤ 126 = subst P (sym is) narrow in
    let Q : Width → Type 0 = λ v. IsLawful v in
    subst Q is (record { ordered = omega (arith, own, a.ordered, b.ordered); narrow = own })

sum_bits : (x y n : ℕ) (left right w : Width) → n ≤ x + y → x ≤ 2 ^ left.cell → y ≤ 2 ^ right.cell
    → added_width left right ≡ w
    → IsLawful left → IsLawful right → w.total ≤ 126 → n ≤ 2 ^ w.cell
sum_bits x y n left right w less hx hy is a b narrow =
    let P : Width → Type 0 = λ v. v.total ≤ 126 in
    let own : (added_width left right).total ≤ 126 = subst P (sym is) narrow in
    let exact : max left.cell right.cell + 1 ≡ (added_width left right).cell =
    omega (arith, own, a.ordered, b.ordered) in
    let B : ℕ → Type 0 = λ bits. n ≤ 2 ^ bits in
    let Q : Width → Type 0 = λ v. n ≤ 2 ^ v.cell in
    subst Q is (subst B exact (omega (arith, less, both_sums x y left.cell right.cell hx hy)))

-- two operands together, without a fault
plus_within : (n x y at : ℕ) (a b : Option Width) (w : Width) → n ≤ x + y → width_together a b ≡ Some w
    → optional_width_faults at (width_together a b) ≡ [] → ((v : Width) → a ≡ Some v → IsWithin x v)
    → ((v : Width) → b ≡ Some v → IsWithin y v) → IsWithin n w
plus_within n x y at a b w less e none left right =
    let two = both_by a b w e in
    let P : Option Width → Type 0 = λ o. optional_width_faults at o ≡ [] in
    let narrow : w.total ≤ 126 = not_wide at w (subst P e none) in
    let l = left two.left two.of_left in
    let r = right two.right two.of_right in (
      sum_bits x y n two.left two.right w less l.0 r.0 two.is l.1 r.1 narrow,
      lawful_sum two.left two.right w two.is
          l.1 r.1 narrow,
    )

pub numbers_at : (columns : List Column) → AreLawful columns → (place : ℕ) (c : Column)
    → slice_get columns place ≡ Some c → HasNumbers c.of
numbers_at columns lawful place c e = (column_of_all IsSound columns place c lawful e).numbers

of_number : (n : ℕ) (w : Width) → point_width ≡ w → n ≤ 2 ^ 63 → IsWithin n w
of_number n w e h =
    let P : Width → Type 0 = λ v. IsWithin n v in
    subst P e (h, record { ordered = omega arith; narrow = omega arith })

-- what a sum comes to, which has no fault, is within its width
pub sum_within : (columns : List Column) (cells : List Value) → FitWidths columns cells → AreLawful columns
    → (e : SumTree)
    → HasLiterals e → operand_faults columns e ≡ [] → (w : Width) → sum_width columns e ≡ Some w
    → IsWithin (amount (sum_value e columns cells)) w
sum_within columns cells fit lawful (tree.Column name) literal none w h =
    by_column columns cells fit lawful (place_of name.text columns) (column_named name.text columns) refl w h
sum_within columns cells fit lawful (tree.Number at z) literal none w h =
    of_number (unsigned_abs z) w (same_item point_width w h) (number_within z literal)
sum_within columns cells fit lawful (tree.Plus left right) literal none w h =
    let first = both_none (operand_faults columns left) _ none in
    let second = both_none (operand_faults columns right) _ first.1 in
    plus_within _ (amount (sum_value left columns cells)) (amount (sum_value right columns cells)) _
    (sum_width columns left) (sum_width columns right) w
    (together_within ◌+ℤ◌ added_by (sum_value left columns cells) (sum_value right columns cells)) h second.1
    (λ v e. sum_within columns cells fit lawful left literal.0 first.0 v e)
    (λ v e. sum_within columns cells fit lawful right literal.1 second.0 v e)
sum_within columns cells fit lawful (tree.Minus left right) literal none w h =
    let first = both_none (operand_faults columns left) _ none in
    let second = both_none (operand_faults columns right) _ first.1 in
    plus_within _ (amount (sum_value left columns cells)) (amount (sum_value right columns cells)) _
    (sum_width columns left) (sum_width columns right) w
    (together_within ◌-ℤ◌ taken_by (sum_value left columns cells) (sum_value right columns cells)) h second.1
    (λ v e. sum_within columns cells fit lawful left literal.0 first.0 v e)
    (λ v e. sum_within columns cells fit lawful right literal.1 second.0 v e)
sum_within columns cells fit lawful (tree.Percentile at name p) literal none w h =
    of_number (amount (sum_value (tree.Percentile at name p) columns cells)) w (same_item point_width w h)
    (percentile_column (column_named name.text columns) (cell_named name.text columns cells) p
    (λ c e. numbers_at columns lawful (place_of name.text columns) c e))
