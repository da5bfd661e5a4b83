-- What a query's session tells is what is noted in its call, and how much is handed out.
use Rattle.std.specs.Prelude.{◌≡◌, ℕ, ℤ, ◌+◌, ◌-◌, ◌^◌, ◌⊎◌, List, [], ◌∷◌, ◌++◌, length}
use Rattle.history_book.specs.Seats.{length_note}
use Rattle.history_book.specs.declared.views.LengthNote.{LengthNote}
use Rattle.know.specs.Knowledge.{stopped_count}
use Rattle.mon_hints.specs.declared.places.Place.TheVariants as place
use Rattle.mon_topo.specs.Settings.{Setting}
use Rattle.mon_topo.specs.Views.{View}
use Rattle.mon_topo.specs.Zones.{leaves_in}
use Rattle.mon_value.specs.Histories.{leaf_history, range_history}
use Rattle.mon_value.specs.declared.positions.Range.{Range}
use Rattle.query_core.specs.Machine.{Query}
use Rattle.query_core.specs.Program.{ask_of}
use Rattle.query_core.specs.Sessions.{Event, told_then}
use Rattle.query_traces.specs.Rounds.{QuerySetting}
use Rattle.query_traces.specs.declared.asks.Ask.{Ask}
use Rattle.query_traces.specs.declared.asks.Ask.TheVariants as ask
use Rattle.query_traces.specs.declared.asks.Told.{Told}
use Rattle.query_traces.specs.declared.asks.Told.TheVariants as told
use Rattle.raise_table.specs.Seats.{note}
use Rattle.raise_table.specs.declared.views.Note.{Note}

-- ---- how many rows and groups are handed out

-- so many were handed out, or the count stands at its last value
abbrev pub IsHanded : ℕ → ℕ → ℕ → Type 0
IsHanded before much after = (after ≡ before + much) ⊎ (after ≡ 2 ^ 64 - 1)

-- so many more are handed out at once, or nothing is
abbrev pub HandsOut : ℕ → ℕ → ℕ → Type 0
HandsOut before much after = (after ≡ stopped_count (before + much)) ⊎ ((after ≡ before) × (much ≡ 0))

-- ---- what is noted

-- the number of a range's history: those of the leaves come first
abbrev pub range_number : Setting → Range → ℕ
range_number store range = length (leaves_in store.zones) + range.0

-- the length of what was looked at
abbrev pub lengths_of : Setting → Ask → View → List LengthNote
lengths_of store (ask.Resolve range) view =
    length_note (range_number store range) (length (range_history view.seen range)) ∷ []
lengths_of store (ask.Visit leaf) view = length_note leaf.0 (length (leaf_history view.seen leaf)) ∷ []
lengths_of store asked view = []

-- the word that was loaded
abbrev pub words_of : Ask → Told → List Note
words_of (ask.LoadRoot bucket) (told.Word word seen) = note place.Root bucket word ∷ []
words_of (ask.LoadZone zone bucket) (told.Word word seen) = note (place.Zone zone) bucket word ∷ []
words_of asked answer = []

module _ (store : Setting) (setting : QuerySetting) (moment : ℤ) where
  abbrev pub lengths_told : Query → List (Event store setting moment) → List LengthNote
  lengths_told query [] = []
  lengths_told query (event ∷ events) = lengths_of store (ask_of setting query.stage) event.view
      ++ lengths_told (told_then store setting moment query event) events

  abbrev pub words_told : Query → List (Event store setting moment) → List Note
  words_told query [] = []
  words_told query (event ∷ events) = words_of (ask_of setting query.stage) event.answer
      ++ words_told (told_then store setting moment query event) events
