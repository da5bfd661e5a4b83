-- Tables as they were printed, line by line.
use Rattle.std.specs.Prelude.{ℕ, ℤ, List, [], ◌∷◌, Option, Some, None}
use Rattle.trials.specs.Cells.{last_cell, sum_with}

-- a table that was read behind its header: the sum of its last column, the line that says how many rows it has, and the
-- lines behind it
pub record TableRead : Type 0 where
  pub sum : Option ℤ
  pub count : List ℕ
  pub rest : List (List ℕ)

abbrev pub table_read : Option ℤ → List ℕ → List (List ℕ) → TableRead
table_read sum count rest = record { sum = sum; count = count; rest = rest }

-- Rows have a last cell, and the line behind them has none
abbrev pub table_in : Option ℤ → List (List ℕ) → TableRead
table_in sum [] = table_read sum [] []
table_in sum (line ∷ lines) =
    by_cell (last_cell line) (table_read sum line lines) (λ cell. table_in (sum_with sum cell) lines)
  where
    by_cell : Option (List ℕ) → TableRead → (List ℕ → TableRead) → TableRead
    by_cell None whole more = whole
    by_cell (Some cell) whole more = more cell
