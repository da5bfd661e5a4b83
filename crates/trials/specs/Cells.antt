-- The cells of a printed table, and sums of them.
use Rattle.std.specs.Prelude.{ℕ, ℤ, pos, neg_ℤ, ◌+ℤ◌, int_le, ◌-◌, ◌*◌, ◌^◌, ◌==◌, ◌&&◌, Bool, List, [], ◌∷◌, Option, Some}
use Rattle.std.specs.Prelude.{None, option_and_then, option_map, if◌then◌else◌}
use Rattle.mon_value.specs.Values.{number_of}

abbrev pub comma : ℕ
comma = 44

-- what stands behind the last comma of a line, where `found` stands behind the last one in front of it
abbrev pub cell_behind : Option (List ℕ) → List ℕ → Option (List ℕ)
cell_behind found [] = found
cell_behind found (byte ∷ line) = cell_behind (if byte == comma then Some line else found) line

-- the last cell of a line: what stands behind its last comma, if it has one
abbrev pub last_cell : List ℕ → Option (List ℕ)
last_cell line = cell_behind None line

abbrev pub is_number : ℤ → Bool
is_number z = int_le (neg_ℤ (pos (2 ^ 63))) z && int_le z (pos (2 ^ 63 - 1))

-- the number that a cell spells, where 64 bits have it
abbrev pub number_in : List ℕ → Option ℤ
number_in cell = option_and_then (λ z. if is_number z then Some z else None) (number_of cell)

-- whether a number may be the sum of so many numbers of 64 bits
abbrev pub is_sum_of : ℕ → ℤ → Bool
is_sum_of count z = int_le (neg_ℤ (pos (count * 2 ^ 63))) z && int_le z (pos (count * 2 ^ 63))

-- A sum with one cell more. There is none where a cell is no number
abbrev pub sum_with : Option ℤ → List ℕ → Option ℤ
sum_with None cell = None
sum_with (Some sum) cell = option_map (λ z. sum +ℤ z) (number_in cell)
