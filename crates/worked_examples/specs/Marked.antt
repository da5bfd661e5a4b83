-- How examples write texts that have marks.
use Rattle.std.specs.Prelude.{ℕ, List, map, ◌==◌, if◌then◌else◌}

-- `^` stands for the mark in front of a text, and `$` for the one behind it
abbrev pub marked : ℕ → ℕ
marked byte = if byte == 94 then 1 else if byte == 36 then 2 else byte

abbrev pub all_marked : List (List ℕ) → List (List ℕ)
all_marked = map (map marked)
