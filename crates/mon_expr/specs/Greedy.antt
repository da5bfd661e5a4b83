-- Pieces that are each taken at their first place.
use Rattle.std.specs.Prelude.{ℕ, nat_eq, List, [], ◌∷◌, drop, length, Option, Some, None, option_and_then}
use Rattle.std.specs.Prelude.{if◌then◌else◌}
use Rattle.std.specs.List.{starts_with}

-- what stands in a text behind the first place of a piece
abbrev pub rest_behind : List ℕ → List ℕ → Option (List ℕ)
rest_behind piece [] = if starts_with nat_eq [] piece then Some [] else None
rest_behind piece (byte ∷ bytes) =
    if starts_with nat_eq (byte ∷ bytes) piece then Some (drop (length piece) (byte ∷ bytes))
    else rest_behind piece bytes

-- and behind those of all pieces, each of them behind the one before it
abbrev pub rest_behind_all : List (List ℕ) → List ℕ → Option (List ℕ)
rest_behind_all [] text = Some text
rest_behind_all (piece ∷ pieces) text = option_and_then (rest_behind_all pieces) (rest_behind piece text)
