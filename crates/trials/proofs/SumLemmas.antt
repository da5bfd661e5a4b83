-- Sums of numbers of 64 bits, and a row that is added to one.
use Rattle.std.proofs.Common.{◌≡◌, ◌<◌, ◌≤◌, ◌+ℤ◌, ◌∷◌, ℕ, ℤ, Bool, true, false, cond, List, Option, Some, None, arith}
use Rattle.std.proofs.Common.{refl}
use Rattle.std.specs.Prelude.{IfSome, option_and_then, option_map}
use Rattle.std.proofs.lemmas.Int.{ints}
use Rattle.mon_value.specs.Values.{number_of}
use Rattle.trials.specs.Cells.{is_number, is_sum_of, last_cell, sum_with}
use Rattle.trials.specs.Tables.{table_in}

-- one number more
sum_grows : (count more : ℕ) (sum number : ℤ) → count < more → is_sum_of count sum ≡ true → is_number number ≡ true
    → is_sum_of more (sum +ℤ number) ≡ true
sum_grows count more sum number less is small = grind (arith, ints)

wider : (count more : ℕ) (sum : ℤ) → count ≤ more → is_sum_of count sum ≡ true → is_sum_of more sum ≡ true
wider count more sum less is = grind (arith, ints)

kept : (count more : ℕ) (sum z : ℤ) (b : Bool) → is_number z ≡ b → count < more → is_sum_of count sum ≡ true
    → IfSome (option_map (λ n. sum +ℤ n) (cond b (Some z) None)) (λ s. is_sum_of more s ≡ true)
kept count more sum z true small less is = sum_grows count more sum z less is small
kept count more sum z false small less is = tt

by_number : (count more : ℕ) (sum : ℤ) (number : Option ℤ) → count < more → is_sum_of count sum ≡ true
    → IfSome (option_map (λ n. sum +ℤ n) (option_and_then (λ z. cond (is_number z) (Some z) None) number))
    (λ s. is_sum_of more s ≡ true)
by_number count more sum (Some z) less is = kept count more sum z (is_number z) refl less is
by_number count more sum None less is = tt

-- a sum with one cell more is of one number more
pub with_cell : (count more : ℕ) (sum : Option ℤ) (cell : List ℕ) → count < more
    → IfSome sum (λ s. is_sum_of count s ≡ true) → IfSome (sum_with sum cell) (λ s. is_sum_of more s ≡ true)
with_cell count more (Some sum) cell less is = by_number count more sum (number_of cell) less is
with_cell count more None cell less is = tt

-- a line with a last cell is a row
pub row_read : (sum : Option ℤ) (line cell : List ℕ) (lines : List (List ℕ)) → last_cell line ≡ Some cell
    → table_in sum (line ∷ lines) ≡ table_in (sum_with sum cell) lines
row_read sum line cell lines is = cc
