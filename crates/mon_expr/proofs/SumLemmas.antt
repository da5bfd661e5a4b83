-- The terms of a sum come to what the sum comes to.
use Rattle.std.proofs.Common.{◌≡◌, ℕ, ℤ, pos, ◌+ℤ◌, ◌-ℤ◌, Bool, true, false, not, List, [], ◌∷◌, ◌++◌, Option, Some}
use Rattle.std.proofs.Common.{None, option_map, option_and_then, refl, sym, ap, ◌∙◌, arith}
use Rattle.std.proofs.lemmas.Int.{ints}
use Rattle.mon_value.specs.Groups.{percentile_of, number_in, counts_in}
use Rattle.mon_value.specs.declared.columns.Column.{Column}
use Rattle.mon_value.specs.declared.values.Value.{Value}
use Rattle.mon_value.specs.declared.values.Value.TheVariants as value
use Rattle.mql_ast.specs.Rows.{cell_named, bounds_named, percentile_in, put_together, sum_value}
use Rattle.mql_ast.specs.Trees as tree
use Rattle.mql_ast.specs.Trees.{SumTree}
use Rattle.mon_expr.specs.BoundSums.{sum_of_both, signed_number, terms_total, with_sign}
use Rattle.mon_expr.specs.SumTerms.{terms_of}
use Rattle.mon_expr.specs.declared.bound_sums.SignedTerm.{SignedTerm}

-- the number that a sum comes to
abbrev pub sum_number : SumTree → List Column → List Value → Option ℤ
sum_number sum columns cells = option_and_then number_in (sum_value sum columns cells)

-- ---- numbers that may be missing

sum_of_both-zero : (o : Option ℤ) → sum_of_both o (Some (pos 0)) ≡ o
sum_of_both-zero None = refl
sum_of_both-zero (Some y) = ap Some (omega (arith, ints))

zero-added : (o : Option ℤ) → sum_of_both (Some (pos 0)) o ≡ o
zero-added None = refl
zero-added (Some y) = ap Some (omega (arith, ints))

pub added_assoc : (o p q : Option ℤ) → sum_of_both (sum_of_both o p) q ≡ sum_of_both o (sum_of_both p q)
added_assoc None p q = refl
added_assoc (Some x) None q = refl
added_assoc (Some x) (Some y) None = refl
added_assoc (Some x) (Some y) (Some z) = ap Some (omega (arith, ints))

number_of_plus : (o p : Option Value) → option_and_then number_in (put_together ◌+ℤ◌ o p)
    ≡ sum_of_both (option_and_then number_in o) (option_and_then number_in p)
number_of_plus o p = by (option_and_then number_in o) (option_and_then number_in p)
  where
    by : (o p : Option ℤ) → option_and_then number_in (option_and_then (λ y. option_map (λ z. value.Int
        (y +ℤ z)) p) o) ≡ sum_of_both o p
    by None p = refl
    by (Some y) None = refl
    by (Some y) (Some z) = refl

sign_of_plus : (minus : Bool) (o p : Option ℤ) → option_map (with_sign minus) (sum_of_both o p)
    ≡ sum_of_both (option_map (with_sign minus) o) (option_map (with_sign minus) p)
sign_of_plus minus None p = refl
sign_of_plus minus (Some y) None = refl
sign_of_plus true (Some y) (Some z) = ap Some (omega (arith, ints))
sign_of_plus false (Some y) (Some z) = refl

sign_of_minus : (minus : Bool) (o p : Option Value) → option_map (with_sign minus) (option_and_then number_in
    (put_together ◌-ℤ◌ o p))
    ≡ sum_of_both (option_map (with_sign minus) (option_and_then number_in o)) (option_map (with_sign (not minus))
    (option_and_then number_in p))
sign_of_minus minus o p = by minus (option_and_then number_in o) (option_and_then number_in p)
  where
    by : (minus : Bool) (o p : Option ℤ) → option_map (with_sign minus) (option_and_then number_in (option_and_then
        (λ y. option_map (λ z. value.Int (y -ℤ z)) p) o))
        ≡ sum_of_both (option_map (with_sign minus) o) (option_map (with_sign (not minus)) p)
    by minus None p = refl
    by minus (Some y) None = refl
    by true (Some y) (Some z) = ap Some (omega (arith, ints))
    by false (Some y) (Some z) = ap Some (omega (arith, ints))

number_of_percentile : (p : ℕ) (bounds : List ℤ) (cell : Option Value) →
    option_and_then (λ counts. percentile_of counts bounds p) (option_and_then counts_in cell)
    ≡ option_and_then number_in (percentile_in p bounds cell)
number_of_percentile p bounds cell = by (option_and_then counts_in cell)
  where
    some : (o : Option ℤ) → o ≡ option_and_then number_in (option_map value.Int o)
    some None = refl
    some (Some z) = refl

    by : (counts : Option (List ℕ)) → option_and_then (λ counts. percentile_of counts bounds p) counts
        ≡ option_and_then number_in (option_and_then (λ counts. option_map value.Int
        (percentile_of counts bounds p)) counts)
    by None = refl
    by (Some counts) = some (percentile_of counts bounds p)

-- ---- terms

total-append : (xs ys : List SignedTerm) (cells : List Value) →
    terms_total (xs ++ ys) cells ≡ sum_of_both (terms_total xs cells) (terms_total ys cells)
total-append [] ys cells = sym (zero-added (terms_total ys cells))
total-append (x ∷ xs) ys cells = ap (sum_of_both (signed_number x cells)) (total-append xs ys cells)
    ∙ sym (added_assoc (signed_number x cells) (terms_total xs cells) (terms_total ys cells))

pub total_is : (minus : Bool) (sum : SumTree) (columns : List Column) (cells : List Value) →
    terms_total (terms_of minus sum columns) cells ≡ option_map (with_sign minus) (sum_number sum columns cells)
total_is minus (tree.Column name) columns cells = sum_of_both-zero (option_map (with_sign minus) (sum_number
    (tree.Column name) columns cells))
total_is minus (tree.Number at z) columns cells = sum_of_both-zero (Some (with_sign minus z))
total_is minus (tree.Plus left right) columns cells =
    total-append (terms_of minus left columns) (terms_of minus right columns) cells
    ∙ ap (λ o. sum_of_both o (terms_total (terms_of minus right columns) cells)) (total_is minus left columns cells)
    ∙ ap (sum_of_both (option_map (with_sign minus) (sum_number left columns cells)))
    (total_is minus right columns cells)
    ∙ sym (sign_of_plus minus (sum_number left columns cells) (sum_number right columns cells))
    ∙ ap (option_map (with_sign minus)) (sym (number_of_plus (sum_value left columns cells)
    (sum_value right columns cells)))
total_is minus (tree.Minus left right) columns cells =
    total-append (terms_of minus left columns) (terms_of (not minus) right columns) cells
    ∙ ap (λ o. sum_of_both o (terms_total (terms_of (not minus) right columns) cells))
    (total_is minus left columns cells)
    ∙ ap (sum_of_both (option_map (with_sign minus) (sum_number left columns cells))) (total_is
    (not minus) right columns cells)
    ∙ sym (sign_of_minus minus (sum_value left columns cells) (sum_value right columns cells))
total_is minus (tree.Percentile at name p) columns cells =
    sum_of_both-zero (option_map (with_sign minus) (option_and_then (λ counts. percentile_of counts
    (bounds_named name.text columns) p) (option_and_then counts_in (cell_named name.text columns cells))))
    ∙ ap (option_map (with_sign minus)) (number_of_percentile p (bounds_named name.text columns)
    (cell_named name.text columns cells))
