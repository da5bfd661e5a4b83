-- Where a predicate or a sum stands in its text says nothing of what it comes to in a row.
use Rattle.std.proofs.Common.{◌≡◌, ◌&&◌, ◌||◌, ◌+ℤ◌, ◌-ℤ◌, ℕ, not, Bool, true, List, refl, ap}
use Rattle.std.proofs.lemmas.Slice.Eq.{slice_eq-Decides}
use Rattle.std.specs.Cmp.Lexicographic.{pointwise}
use Rattle.mon_value.proofs.SameLemmas.{same_text-Decides}
use Rattle.mon_value.specs.Same.{same_text}
use Rattle.mon_value.specs.declared.columns.Column.{Column}
use Rattle.mon_value.specs.declared.values.Value.{Value}
use Rattle.mql_ast.specs.Rows.{meets_no_values, predicate_truth, put_together, sum_value}
use Rattle.mql_ast.specs.Trees as tree
use Rattle.mql_ast.specs.Trees.{PredicateTree, SumTree}
use Rattle.mon_expr.specs.SameTrees.{bare_predicate, bare_sum}

-- pieces that compare as the same are equal
pub pieces_same : (own others : List (List ℕ)) → pointwise same_text own others ≡ true → own ≡ others
pieces_same own others = (slice_eq-Decides same_text-Decides own others (pointwise same_text own others) refl).0

-- and equal pieces compare as the same
pub pieces_told : (own others : List (List ℕ)) → own ≡ others → pointwise same_text own others ≡ true
pieces_told own others = (slice_eq-Decides same_text-Decides own others (pointwise same_text own others) refl).1

module _ (columns : List Column) (cells : List Value) where
  pub bare-truth : (p : PredicateTree) → predicate_truth (bare_predicate p) columns cells ≡ predicate_truth p columns cells
  bare-truth (tree.Compare name how literal) = refl
  bare-truth (tree.Like name pattern) = refl
  bare-truth (tree.Not p) = ap not (bare-truth p)
  bare-truth (tree.And p q) = λ i. bare-truth p i && bare-truth q i
  bare-truth (tree.Or p q) = λ i. bare-truth p i || bare-truth q i

  pub bare-value : (sum : SumTree) → sum_value (bare_sum sum) columns cells ≡ sum_value sum columns cells
  bare-value (tree.Column name) = refl
  bare-value (tree.Number at z) = refl
  bare-value (tree.Plus left right) = λ i. put_together ◌+ℤ◌ (bare-value left i) (bare-value right i)
  bare-value (tree.Minus left right) = λ i. put_together ◌-ℤ◌ (bare-value left i) (bare-value right i)
  bare-value (tree.Percentile at name p) = refl

  pub bare-none : (sum : SumTree) → meets_no_values (bare_sum sum) columns cells ≡ meets_no_values sum columns cells
  bare-none (tree.Column name) = refl
  bare-none (tree.Number at z) = refl
  bare-none (tree.Plus left right) = λ i. bare-none left i || bare-none right i
  bare-none (tree.Minus left right) = λ i. bare-none left i || bare-none right i
  bare-none (tree.Percentile at name p) = refl
