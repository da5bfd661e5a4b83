-- The cells of a record before its fields.
use Rattle.std.specs.Prelude.{ℕ, ◌≡◌, List, ◌∷◌, drop}
use Rattle.mon_points.specs.declared.records.Leading.{Leading}

-- a record of these leading cells and these others
abbrev pub record_cells : Leading → List (List ℕ) → List (List ℕ)
record_cells leading others =
    leading.schema.now ∷ leading.metric.now ∷ leading.start.now ∷ leading.end.now ∷ leading.value.now ∷ others

-- a record begins with these leading cells
abbrev pub IsRecord : List (List ℕ) → Leading → Type 0
IsRecord cells leading = cells ≡ record_cells leading (drop 5 cells)
