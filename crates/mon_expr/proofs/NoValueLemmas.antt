-- A sum comes to no value exactly where a percentile in it meets a distribution without values.
use Rattle.std.proofs.Common.{◌≡◌, ◌↔◌, ℕ, ℤ, Bool, true, false, not, ◌&&◌, ◌==◌, List, sum, Option, Some, None}
use Rattle.std.proofs.Common.{is_some, option_map, option_and_then, IsNone, IsTrue, refl, sym, ap, ◌∙◌, if◌then◌else◌}
use Rattle.std.specs.Option.{option_map_or}
use Rattle.std.proofs.lemmas.Bool.{not-false}
use Rattle.std.proofs.lemmas.Option.{none-some}
use Rattle.mon_value.specs.Tables.{HasType}
use Rattle.mon_value.specs.Groups.{percentile_bucket, percentile_of, upper_bound, number_in}
use Rattle.mon_value.specs.declared.columns.Column.{Column}
use Rattle.mon_value.specs.declared.values.Value.{Value}
use Rattle.mon_value.specs.declared.values.Value.TheVariants as value
use Rattle.mon_value.specs.declared.values.ValueType.{ValueType}
use Rattle.mon_value.specs.declared.values.ValueType.TheVariants as type
use Rattle.mql_ast.specs.Rows.{column_named, place_of, bounds_named, is_without_values, meets_no_values, percentile_in}
use Rattle.mql_ast.specs.Rows.{put_together, sum_value, CanCompute, IsTypedSum, column_bits, percentile_width, sum_bits}
use Rattle.mql_ast.specs.Trees as tree
use Rattle.mql_ast.specs.Trees.{SumTree}
use Rattle.mon_expr.proofs.ExprLemmas.{IsNumeric, Width, value_again, width_of}
use Rattle.mon_expr.proofs.SumLemmas.{sum_number}
use Rattle.mon_expr.proofs.SumSizeLemmas.{divided, found, is_some-both, stands, together}

two_there : (with : ℤ → ℤ → ℤ) (o p : Option Value) →
    is_some (option_and_then number_in (put_together with o p))
    ≡ (is_some (option_and_then number_in o) && is_some (option_and_then number_in p))
two_there with o p = by (option_and_then number_in o) (option_and_then number_in p)
  where
    by : (o p : Option ℤ) → is_some (option_and_then number_in (option_and_then (λ y. option_map (λ z. value.Int
        (with y z)) p) o)) ≡ (is_some o && is_some p)
    by None p = refl
    by (Some y) None = refl
    by (Some y) (Some z) = refl

number_there : (of : ValueType) (bits w : ℕ) (cell : Value) → column_bits of bits ≡ Some w → HasType of cell →
    is_some (number_in cell) ≡ true
number_there type.Int bits w (value.Int z) e typed = refl
number_there type.Int bits w (value.Bool p) e typed = absurd typed
number_there type.Int bits w (value.Text s) e typed = absurd typed
number_there type.Int bits w (value.Dist counts) e typed = absurd typed
number_there type.Bool bits w cell e typed = absurd (none-some w e)
number_there type.Text bits w cell e typed = absurd (none-some w e)
number_there (type.Dist bounds) bits w cell e typed = absurd (none-some w e)

divided_there : (p : ℕ) (bounds : List ℤ) (counts : List ℕ) →
    is_some (option_and_then number_in (option_map value.Int (percentile_of counts bounds p))) ≡ not (sum counts == 0)
divided_there p bounds counts = by (sum counts == 0)
  where
    by : (none : Bool) → is_some (option_and_then number_in (option_map value.Int (if none then None else Some
        (upper_bound bounds (percentile_bucket counts p))))) ≡ not none
    by true = refl
    by false = refl

percentile_there : (of : ValueType) (bs bounds : List ℤ) (p : ℕ) (cell : Value) → of ≡ type.Dist bs → HasType of cell →
    is_some (option_and_then number_in (percentile_in p bounds (Some cell))) ≡ not (is_without_values cell)
percentile_there type.Int bs bounds p cell is typed = absurd cc
percentile_there type.Bool bs bounds p cell is typed = absurd cc
percentile_there type.Text bs bounds p cell is typed = absurd cc
percentile_there (type.Dist own) bs bounds p (value.Int z) is typed = absurd typed
percentile_there (type.Dist own) bs bounds p (value.Bool b) is typed = absurd typed
percentile_there (type.Dist own) bs bounds p (value.Text s) is typed = absurd typed
percentile_there (type.Dist own) bs bounds p (value.Dist counts) is typed = divided_there p bounds counts

number_some : (sum : SumTree) (columns : List Column) (cells : List Value) (w : ℕ) → CanCompute columns cells →
    sum_bits sum columns ≡ Some w →
    is_some (sum_number sum columns cells) ≡ not (meets_no_values sum columns cells)
number_some (tree.Column name) columns cells w can e =
    let f = found (column_named name.text columns) (λ column. column_bits column.of column.cell_bits) w e in
    let s = stands columns cells (place_of name.text columns) f.item can f.is in
    ap (λ o. is_some (option_and_then number_in o)) s.is
    ∙ number_there f.item.of f.item.cell_bits w s.cell f.gives s.typed
number_some (tree.Number at z) columns cells w can e = refl
number_some (tree.Plus left right) columns cells w can e =
    let t = together (sum_bits left columns) (sum_bits right columns) w e in
    two_there _ (sum_value left columns cells) (sum_value right columns cells)
    ∙ is_some-both (is_some (sum_number left columns cells)) (is_some (sum_number right columns cells))
    (meets_no_values left columns cells) (meets_no_values right columns cells)
    (number_some left columns cells t.u can t.left_is) (number_some right columns cells t.v can t.right_is)
number_some (tree.Minus left right) columns cells w can e =
    let t = together (sum_bits left columns) (sum_bits right columns) w e in
    two_there _ (sum_value left columns cells) (sum_value right columns cells)
    ∙ is_some-both (is_some (sum_number left columns cells)) (is_some (sum_number right columns cells))
    (meets_no_values left columns cells) (meets_no_values right columns cells)
    (number_some left columns cells t.u can t.left_is) (number_some right columns cells t.v can t.right_is)
number_some (tree.Percentile at name p) columns cells w can e =
    let f = found (column_named name.text columns) (λ column. percentile_width column.of column.cell_bits) w e in
    let d = divided f.item.of f.item.cell_bits w f.gives in
    let s = stands columns cells (place_of name.text columns) f.item can f.is in
    ap (λ o. is_some (option_and_then number_in (percentile_in p (bounds_named name.text columns) o))) s.is
    ∙ percentile_there f.item.of d.bounds (bounds_named name.text columns) p s.cell d.is s.typed
    ∙ ap (λ o. not (option_map_or is_without_values o false)) (sym s.is)

map_there : (o : Option ℤ) → is_some (option_map value.Int o) ≡ is_some o
map_there None = refl
map_there (Some z) = refl

value_some : (sum : SumTree) (columns : List Column) (cells : List Value) → IsNumeric sum →
    CanCompute columns cells → Width sum columns →
    is_some (sum_value sum columns cells) ≡ not (meets_no_values sum columns cells)
value_some sum columns cells numeric can width =
    ap is_some (sym (value_again sum columns cells numeric)) ∙ map_there (sum_number sum columns cells)
    ∙ number_some sum columns cells width.w can width.is

column_some : (o : Option Column) → is_some o ≡ true → (column : Column) × (o ≡ Some column)
column_some None e = absurd cc
column_some (Some column) e = (column, refl)

there : (sum : SumTree) (columns : List Column) (cells : List Value) → IsTypedSum sum columns →
    CanCompute columns cells →
    is_some (sum_value sum columns cells) ≡ not (meets_no_values sum columns cells)
there (tree.Column name) columns cells typed can =
    let c = column_some (column_named name.text columns) typed in
    let s = stands columns cells (place_of name.text columns) c.0 can c.1 in
    ap is_some s.is
there (tree.Number at z) columns cells typed can = refl
there (tree.Plus left right) columns cells typed can = value_some (tree.Plus left right) columns cells tt can
    (width_of (tree.Plus left right) columns tt typed)
there (tree.Minus left right) columns cells typed can = value_some (tree.Minus left right) columns cells tt can
    (width_of (tree.Minus left right) columns tt typed)
there (tree.Percentile at name p) columns cells typed can = value_some
    (tree.Percentile at name p) columns cells tt can (width_of (tree.Percentile at name p) columns tt typed)

pub none_exactly : (sum : SumTree) (columns : List Column) (cells : List Value) (given : Option Value) →
    IsTypedSum sum columns → CanCompute columns cells → given ≡ sum_value sum columns cells →
    IsNone given ↔ IsTrue (meets_no_values sum columns cells)
none_exactly sum columns cells given typed can is =
    let told : is_some given ≡ not (meets_no_values sum columns cells) = ap is_some is
    ∙ there sum columns cells typed can in
    (λ none. not-false (meets_no_values sum columns cells) (sym told ∙ none), λ met. told ∙ ap not met)
