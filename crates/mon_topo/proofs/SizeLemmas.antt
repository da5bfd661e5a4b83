-- The parts of the zones so far are no more than those of all.
use Rattle.std.proofs.Common.{ℕ, zero, suc, ◌+◌, ◌<◌, ◌≤◌, List, [], ◌∷◌, get_or, length, take, arith, length-append}
use Rattle.std.specs.List.{flat_map}

-- with the parts of one element more
pub parts_so_far : {X Y : Type 0} (parts : X → List Y) (xs : List X) (i : ℕ) (d : X) → i < length xs
    → length (flat_map parts (take i xs)) + length (parts (get_or xs i d)) ≤ length (flat_map parts xs)
parts_so_far parts [] i d there = absurd (omega arith)
parts_so_far parts (x ∷ xs) zero d there = omega (arith, length-append (parts x) (flat_map parts xs))
parts_so_far parts (x ∷ xs) (suc i) d there =
    omega (
      arith,
      parts_so_far parts xs i d (omega arith),
      length-append (parts x) (flat_map parts xs),
      length-append (parts x) (flat_map parts (take i xs)),
    )
