-- A bound expression comes to what the expression comes to.
use Rattle.std.proofs.Common.{◌≡◌, ◌≤◌, ℕ, ◌^◌, ℤ, false, List, sum, Option, Some, None, option_map, option_and_then}
use Rattle.std.proofs.Common.{IsSomeAnd, refl, sym, ap, subst, ◌∙◌, arith}
use Rattle.std.proofs.Math.Pow.{pow_mono}
use Rattle.mon_value.specs.Groups.{percentile_of, counts_in, number_in}
use Rattle.mon_value.specs.declared.columns.Column.{Column}
use Rattle.mon_value.specs.declared.values.Value.{Value}
use Rattle.mon_value.specs.declared.values.Value.TheVariants as value
use Rattle.mql_ast.specs.Rows.{cell_named, bounds_named, percentile_in, put_together, sum_value, HasShares, IsTypedSum}
use Rattle.mql_ast.specs.Rows.{sum_bits}
use Rattle.mql_ast.specs.Trees as tree
use Rattle.mql_ast.specs.Trees.{SumTree, sum_tree}
use Rattle.mql_ast.specs.declared.expressions.Expr.{Expr}
use Rattle.mql_ast.specs.declared.expressions.Expr.TheVariants as expr
use Rattle.mql_ast.specs.declared.names.Name.{Name}
use Rattle.mon_expr.specs.BoundSums.{CanTotal, IsBoundExpr, terms_size, terms_total, with_sign}
use Rattle.mon_expr.specs.SumTerms.{terms_of}
use Rattle.mon_expr.specs.declared.bound_sums.BoundExpr.TheVariants as bound
use Rattle.mon_expr.specs.declared.bound_sums.SignedTerm.{SignedTerm}
use Rattle.mon_expr.proofs.SumLemmas.{sum_number, total_is}
use Rattle.mon_expr.proofs.SumSizeLemmas.{size_within, taken}

-- a sum that is no column's name alone
abbrev pub IsNumeric : SumTree → Type 0
IsNumeric (tree.Column name) = ⊥
IsNumeric sum = Unit {0}

pub numeric : (e : Expr) → ((name : Name) → e ≡ expr.Column name → ⊥) → IsNumeric (sum_tree e)
numeric (expr.Column name) other = other name refl
numeric (expr.Number at z) other = tt
numeric (expr.Plus' p left q right) other = tt
numeric (expr.Minus' p left q right) other = tt
numeric (expr.Percentile at name p) other = tt

unsigned : (o : Option ℤ) → option_map (with_sign false) o ≡ o
unsigned None = refl
unsigned (Some z) = refl

number_again : (with : ℤ → ℤ → ℤ) (o p : Option Value) →
    option_map value.Int (option_and_then number_in (put_together with o p)) ≡ put_together with o p
number_again with o p = by (option_and_then number_in o) (option_and_then number_in p)
  where
    by : (o p : Option ℤ) → option_map value.Int (option_and_then number_in (option_and_then (λ y. option_map
        (λ z. value.Int (with y z)) p) o))
        ≡ option_and_then (λ y. option_map (λ z. value.Int (with y z)) p) o
    by None p = refl
    by (Some y) None = refl
    by (Some y) (Some z) = refl

percentile_again : (p : ℕ) (bounds : List ℤ) (cell : Option Value) →
    option_map value.Int (option_and_then number_in (percentile_in p bounds cell)) ≡ percentile_in p bounds cell
percentile_again p bounds cell = by (option_and_then counts_in cell)
  where
    again : (o : Option ℤ) → option_map value.Int (option_and_then number_in (option_map value.Int o))
        ≡ option_map value.Int o
    again None = refl
    again (Some z) = refl

    by : (counts : Option (List ℕ)) → option_map value.Int (option_and_then number_in (option_and_then
        (λ counts. option_map value.Int (percentile_of counts bounds p)) counts))
        ≡ option_and_then (λ counts. option_map value.Int (percentile_of counts bounds p)) counts
    by None = refl
    by (Some counts) = again (percentile_of counts bounds p)

pub value_again : (sum : SumTree) (columns : List Column) (cells : List Value) → IsNumeric sum →
    option_map value.Int (sum_number sum columns cells) ≡ sum_value sum columns cells
value_again (tree.Column name) columns cells is = absurd is
value_again (tree.Number at z) columns cells is = refl
value_again (tree.Plus left right) columns cells is = number_again _ (sum_value left columns cells)
    (sum_value right columns cells)
value_again (tree.Minus left right) columns cells is = number_again _ (sum_value left columns cells)
    (sum_value right columns cells)
value_again (tree.Percentile at name p) columns cells is = percentile_again p (bounds_named name.text columns)
    (cell_named name.text columns cells)

pub record Width (sum : SumTree) (columns : List Column) : Type 0 where
  pub w : ℕ
  pub is : sum_bits sum columns ≡ Some w
  pub narrow : w ≤ 126

width_in : (sum : SumTree) (columns : List Column) → IsSomeAnd (sum_bits sum columns) (λ bits. bits ≤ 126) →
    Width sum columns
width_in sum columns typed = by (sum_bits sum columns) refl typed
  where
    by : (o : Option ℕ) → sum_bits sum columns ≡ o → IsSomeAnd o (λ bits. bits ≤ 126) → Width sum columns
    by None e typed = absurd typed
    by (Some w) e typed = record { w = w; is = e; narrow = typed }

pub width_of : (sum : SumTree) (columns : List Column) → IsNumeric sum → IsTypedSum sum columns → Width sum columns
width_of (tree.Column name) columns is typed = absurd is
width_of (tree.Number at z) columns is typed = width_in (tree.Number at z) columns typed
width_of (tree.Plus left right) columns is typed = width_in (tree.Plus left right) columns typed
width_of (tree.Minus left right) columns is typed = width_in (tree.Minus left right) columns typed
width_of (tree.Percentile at name p) columns is typed = width_in (tree.Percentile at name p) columns typed

pub bound_terms : (sum : SumTree) (columns : List Column) (terms : List SignedTerm) → IsNumeric sum →
    IsTypedSum sum columns → HasShares sum →
    terms ≡ terms_of false sum columns → IsBoundExpr (bound.Terms terms) sum columns
bound_terms sum columns terms numeric typed shares is =
    let width = width_of sum columns numeric typed in
    record {
      value = λ cells. ap (λ terms. option_map value.Int (terms_total terms cells)) is
          ∙ ap (option_map value.Int) (total_is false sum columns cells ∙ unsigned (sum_number sum columns cells))
          ∙ value_again sum columns cells numeric;
      computes = λ cells can. subst (λ terms. CanTotal terms cells) (sym is) (record {
        taken = taken false sum columns cells width.w can width.is shares;
        small =
            let fits : terms_size (terms_of false sum columns) cells ≤ 2 ^ width.w = size_within false sum columns
            cells width.w can width.is in
            let most : 2 ^ width.w ≤ 2 ^ 126 = pow_mono width.narrow in
            omega (arith, fits, most);
      });
    }
