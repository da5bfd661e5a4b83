-- Sums without a fault have a width, and come to a number unless a percentile meets a distribution without values.
use Rattle.std.proofs.lemmas.Bool.{or_parts}
use Rattle.std.proofs.Common.{◌≡◌, ◌∙◌, ℕ, ℤ, zero, suc, ◌+ℤ◌, ◌-ℤ◌, ◌==◌, Bool, true, false, not, cond, Option}
use Rattle.std.proofs.Common.{Some, None, List, [], ◌∷◌, subst, refl, ap, sym}
use Rattle.std.specs.Prelude.{option_and_then, option_map, slice_get, sum}
use Rattle.std.specs.Option.{option_map_or}
use Rattle.mon_value.specs.Tables.{FitColumns, HasType}
use Rattle.mon_value.specs.Groups.{percentile_of, counts_in}
use Rattle.mon_value.specs.declared.columns.Column.{Column}
use Rattle.mon_value.specs.declared.values.Value.{Value}
use Rattle.mon_value.specs.declared.values.Value.TheVariants as value
use Rattle.mon_value.specs.declared.values.ValueType.{ValueType}
use Rattle.mon_value.specs.declared.values.ValueType.TheVariants as type
use Rattle.mql_ast.specs.Rows.{column_named, place_of, bucket_bounds, is_without_values, meets_no_values, percentile_in}
use Rattle.mql_ast.specs.Rows.{put_together, sum_value}
use Rattle.mql_ast.specs.Trees as tree
use Rattle.mql_ast.specs.Trees.{SumTree}
use Rattle.typed_trees.specs.declared.faults.TypeWord.TheVariants as word
use Rattle.typed_trees.specs.declared.widths.Width.{Width}
use Rattle.typed_trees.specs.Fetches.{column_faults}
use Rattle.typed_trees.specs.Items.{is_number_type, operand_faults, percentile_faults, percentile_faults_of, sum_width}
use Rattle.typed_trees.specs.Items.{width_of_type, width_together}
use Rattle.typed_trees.specs.Branches.{added_width, point_width, width_of}
use Rattle.typed_rows.proofs.SumBounds.{bounds_in}
use Rattle.typed_trees.proofs.FetchColumnLemmas.{both_none}
use Rattle.typed_rows.proofs.TypedGridLemmas.{no_test}

-- ---- columns and their cells

-- the cell in a column, of its type
pub record CellOf (column : Column) (cell : Option Value) : Type 0 where
  pub value : Value
  pub is : cell ≡ Some value
  pub of : HasType column.of value

pub cell_of : (columns : List Column) (cells : List Value) → FitColumns columns cells → (place : ℕ) (column : Column)
    → slice_get columns place ≡ Some column → CellOf column (slice_get cells place)
cell_of [] cells fit place column e = absurd cc
cell_of (c ∷ cs) [] fit place column e = absurd fit
cell_of (c ∷ cs) (x ∷ xs) fit zero column e =
    let same : c ≡ column = cc in
    let P : Column → Type 0 = λ d. HasType d.of x in
    record { value = x; is = refl; of = subst P same fit.0 }
cell_of (c ∷ cs) (x ∷ xs) fit (suc place) column e = cell_of cs xs fit.1 place column e

record NumberColumn (o : Option Column) : Type 0 where
  column : Column
  is : o ≡ Some column
  of : column.of ≡ type.Int

number_type : (of : ValueType) → not (is_number_type of) ≡ false → of ≡ type.Int
number_type type.Int e = refl
number_type type.Bool e = absurd cc
number_type type.Text e = absurd cc
number_type (type.Dist bounds) e = absurd cc

number_column : (o : Option Column) (at : ℕ) → column_faults o at is_number_type word.Int ≡ [] → NumberColumn o
number_column None at e = absurd cc
number_column (Some c) at e = record { column = c; is = refl; of = number_type c.of (no_test _ _ _ e) }

-- ---- widths

pub record KnownWidth (o : Option Width) : Type 0 where
  pub width : Width
  pub is : o ≡ Some width

int_width : (o : Option Column) → NumberColumn o
    → KnownWidth (option_and_then (λ (column : Column). width_of_type column.of (width_of column)) o)
int_width o number =
    let c = number.column in
    record {
      width = width_of c;
      is = ap (λ (p : Option Column). option_and_then
          (λ (column : Column). width_of_type column.of (width_of column)) p) number.is
          ∙ ap (λ (of : ValueType). width_of_type of (width_of c)) number.of;
    }

width_of_both : (a b : Option Width) → KnownWidth a → KnownWidth b → KnownWidth (width_together a b)
width_of_both a b left right = record {
  width = added_width left.width right.width;
  is = ap (λ (o : Option Width). width_together o b) left.is
      ∙ ap (λ (o : Option Width). width_together (Some left.width) o) right.is;
}

pub width_known : (columns : List Column) (e : SumTree) → operand_faults columns e ≡ []
    → KnownWidth (sum_width columns e)
width_known columns (tree.Column name) none =
    int_width (column_named name.text columns) (number_column (column_named name.text columns) name.at none)
width_known columns (tree.Number at z) none = record { width = point_width; is = refl }
width_known columns (tree.Plus left right) none =
    let first = both_none (operand_faults columns left) _ none in
    let second = both_none (operand_faults columns right) _ first.1 in
    width_of_both (sum_width columns left) (sum_width columns right) (width_known columns left first.0)
    (width_known columns right second.0)
width_known columns (tree.Minus left right) none =
    let first = both_none (operand_faults columns left) _ none in
    let second = both_none (operand_faults columns right) _ first.1 in
    width_of_both (sum_width columns left) (sum_width columns right) (width_known columns left first.0)
    (width_known columns right second.0)
width_known columns (tree.Percentile at name p) none = record { width = point_width; is = refl }

-- ---- values

pub record KnownNumber (o : Option Value) : Type 0 where
  pub number : ℤ
  pub is : o ≡ Some (value.Int number)

int_value : (of : ValueType) (x : Value) → of ≡ type.Int → HasType of x → KnownNumber (Some x)
int_value of (value.Int z) e h = record { number = z; is = refl }
int_value of (value.Bool b) e h = let P : ValueType → Type 0 = λ t. HasType t (value.Bool b) in absurd (subst P e h)
int_value of (value.Text s) e h = let P : ValueType → Type 0 = λ t. HasType t (value.Text s) in absurd (subst P e h)
int_value of (value.Dist counts) e h = let P : ValueType → Type 0 =
    λ t. HasType t (value.Dist counts) in absurd (subst P e h)

int_cell : (columns : List Column) (cells : List Value) → FitColumns columns cells → (place : ℕ)
    → NumberColumn (slice_get columns place)
    → KnownNumber (slice_get cells place)
int_cell columns cells fit place number =
    let cell = cell_of columns cells fit place number.column number.is in
    let known = int_value number.column.of cell.value number.of cell.of in
    record { number = known.number; is = cell.is ∙ known.is }

number_of_both : (with : ℤ → ℤ → ℤ) (a b : Option Value) → KnownNumber a → KnownNumber b
    → KnownNumber (put_together with a b)
number_of_both with a b left right = record {
  number = with left.number right.number;
  is = ap (λ (o : Option Value). put_together with o b) left.is
      ∙ ap (λ (o : Option Value). put_together with (Some (value.Int left.number)) o) right.is;
}

some_percentile : (b : Bool) (z : ℤ) → b ≡ false → KnownNumber (option_map value.Int (cond b None (Some z)))
some_percentile true z e = absurd cc
some_percentile false z e = record { number = z; is = refl }

dist_percentile : (of : ValueType) (bits at : ℕ) (x : Value) (p : ℕ) → percentile_faults_of of bits at ≡ []
    → HasType of x
    → is_without_values x ≡ false
    → KnownNumber (option_and_then (λ counts. option_map value.Int (percentile_of counts (bucket_bounds of) p))
    (counts_in x))
dist_percentile type.Int bits at x p none h some = absurd cc
dist_percentile type.Bool bits at x p none h some = absurd cc
dist_percentile type.Text bits at x p none h some = absurd cc
dist_percentile (type.Dist bounds) bits at (value.Int z) p none h some = absurd h
dist_percentile (type.Dist bounds) bits at (value.Bool b) p none h some = absurd h
dist_percentile (type.Dist bounds) bits at (value.Text s) p none h some = absurd h
dist_percentile (type.Dist bounds) bits at (value.Dist counts) p none h some =
    some_percentile (sum counts == 0) _ some

percentile_known : (columns : List Column) (cells : List Value) → FitColumns columns cells
    → (place at p : ℕ) (o : Option Column)
    → slice_get columns place ≡ o → percentile_faults o at ≡ []
    → option_map_or is_without_values (slice_get cells place) false ≡ false
    → KnownNumber (percentile_in p (bounds_in o) (slice_get cells place))
percentile_known columns cells fit place at p None e none some = absurd cc
percentile_known columns cells fit place at p (Some c) e none some =
    let cell = cell_of columns cells fit place c e in
    let without : is_without_values cell.value ≡ false =
    sym (ap (λ (o : Option Value). option_map_or is_without_values o false) cell.is) ∙ some in
    let known = dist_percentile c.of c.cell_bits at cell.value p none cell.of without in
    record {
      number = known.number;
      is = ap (λ (o : Option Value). percentile_in p (bucket_bounds c.of) o) cell.is ∙ known.is;
    }

-- a sum without a fault comes to a number
pub number_known : (columns : List Column) (cells : List Value) → FitColumns columns cells → (e : SumTree)
    → operand_faults columns e ≡ []
    → meets_no_values e columns cells ≡ false → KnownNumber (sum_value e columns cells)
number_known columns cells fit (tree.Column name) none some =
    int_cell columns cells fit (place_of name.text columns)
    (number_column (column_named name.text columns) name.at none)
number_known columns cells fit (tree.Number at z) none some = record { number = z; is = refl }
number_known columns cells fit (tree.Plus left right) none some =
    let first = both_none (operand_faults columns left) _ none in
    let second = both_none (operand_faults columns right) _ first.1 in
    let both = or_parts (meets_no_values left columns cells) (meets_no_values right columns cells) some in
    number_of_both ◌+ℤ◌ (sum_value left columns cells) (sum_value right columns cells)
    (number_known columns cells fit left first.0 both.0) (number_known columns cells fit right second.0 both.1)
number_known columns cells fit (tree.Minus left right) none some =
    let first = both_none (operand_faults columns left) _ none in
    let second = both_none (operand_faults columns right) _ first.1 in
    let both = or_parts (meets_no_values left columns cells) (meets_no_values right columns cells) some in
    number_of_both ◌-ℤ◌ (sum_value left columns cells) (sum_value right columns cells)
    (number_known columns cells fit left first.0 both.0) (number_known columns cells fit right second.0 both.1)
number_known columns cells fit (tree.Percentile at name p) none some =
    percentile_known columns cells fit (place_of name.text columns) name.at p (column_named name.text columns) refl
    none some
