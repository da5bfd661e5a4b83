-- What the kinds of step make of a seat's view, and what they tell.
use Rattle.std.specs.Prelude.{◌≡◌, ℕ, List, [], ◌∷◌, ◌++◌, drop, take}
use Rattle.atomic_table.specs.Table.{Me, Step}
use Rattle.mon_hints.specs.declared.places.Place.{Place}
use Rattle.raise_table.specs.declared.views.SeatView.{SeatView}
use Rattle.raise_table.specs.Places.{bucket_of_word, leaves_in, place_of_word}
use Rattle.raise_table.specs.Seats.{HasKnown, after_load, after_set, met, no_hints, raised_at, without_notes}

abbrev pub Seated : Type 0
Seated = Me (Unit {0}) SeatView

-- ---- the views

-- the first seat owns all leaves
abbrev pub first_seat : List ℕ → SeatView
first_seat zones = record { hints = no_hints; leaves = leaves_in zones; raised = [] }

abbrev pub view_after_load : Place → ℕ → ℕ → SeatView → SeatView
view_after_load place bucket found seat =
    record { hints = after_load place bucket found seat.hints; leaves = seat.leaves; raised = seat.raised }

abbrev pub raising : Place → ℕ → ℕ → SeatView → SeatView
raising place bucket bits seat = record {
  hints = after_set place bucket bits seat.hints;
  leaves = seat.leaves;
  raised = seat.raised ++ raised_at place bucket ∷ [];
}

-- what a seat that is split off has
abbrev pub split_off : SeatView → SeatView
split_off seat = record { hints = without_notes seat.hints; leaves = []; raised = [] }

-- the first of the leaves is dealt out, to a seat that knows nothing
abbrev pub dealt : SeatView → SeatView
dealt seat = record { hints = no_hints; leaves = take 1 seat.leaves; raised = [] }

abbrev pub after_deal : SeatView → SeatView
after_deal seat = record { hints = seat.hints; leaves = drop 1 seat.leaves; raised = seat.raised }

abbrev pub meeting : SeatView → SeatView → SeatView
meeting seat other = record { hints = met seat.hints other.hints; leaves = seat.leaves; raised = seat.raised }

-- a seat that met another's is spent
abbrev pub spent_view : SeatView
spent_view = record { hints = no_hints; leaves = []; raised = [] }

-- ---- what a step tells

-- the word has every bit that the seat knew, and the seat knows it
abbrev pub Loads : Step (Unit {0}) → Seated → ℕ → Seated → Type 0
Loads step before found after =
    HasKnown before.0.hints (place_of_word step.word) (bucket_of_word step.word) found
    × (after ≡ (view_after_load (place_of_word step.word) (bucket_of_word step.word) found before.0, before.1))

-- the seat raised the bucket at the place of the word
abbrev pub RaisesBucket : Step (Unit {0}) → Seated → ℕ → Seated → Type 0
RaisesBucket step before found after = after ≡ (
  raising (place_of_word step.word) (bucket_of_word step.word) step.first before.0,
  before.1,
)
