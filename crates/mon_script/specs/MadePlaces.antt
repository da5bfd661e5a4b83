-- How far a made input was printed.
use Rattle.std.specs.Prelude.{◌≡◌, ◌≤◌, ◌<◌, ◌+◌, ◌-◌, ◌∷◌, ◌++◌, ℕ, List, [], map, nat_lt, if◌then◌else◌}
use Rattle.std.specs.List.{range_with_len}
use Rattle.mon_script.specs.Made.{made_pieces, made_round, number_before, pieces_behind, rounds}
use Rattle.mon_script.specs.declared.made_input.Made.{Made}
use Rattle.mon_script.specs.declared.made_input.Place.{Place}
use Rattle.mon_script.specs.declared.made_input.Place.TheVariants as place

-- the pieces that are left of the input of a number
abbrev pub pieces_left : ℕ → Place → List (List ℕ)
pieces_left n place.Config = made_pieces n
pieces_left n (place.File file) = pieces_behind n file
pieces_left n (place.Round file round) =
    map (made_round n file) (range_with_len round (rounds - round)) ++ pieces_behind n (file + 1)
pieces_left n place.End = []

-- the place behind a round of a file
abbrev pub place_behind : ℕ → ℕ → Place
place_behind file round = if nat_lt (round + 1) 100 then place.Round file (round + 1) else place.File (file + 1)

-- a place of an input, and the number that the next point goes on from
abbrev pub IsPlace : ℕ → ℕ → Place → Type 0
IsPlace n x place.Config = x ≡ n
IsPlace n x (place.File file) = (file ≤ 4) × (x ≡ number_before n file 0)
IsPlace n x (place.Round file round) = (file < 4) × (round < 100) × (x ≡ number_before n file round)
IsPlace n x place.End = Unit {0}

-- a piece of an input with the place behind it, where it was made at a place
pub record IsNext (n : ℕ) (at : Place) (made : Made) : Type 0 where
  pub next : pieces_left n at ≡ made.piece ∷ pieces_left n made.place
  pub is : IsPlace n made.before made.place
