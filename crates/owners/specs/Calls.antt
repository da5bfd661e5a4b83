-- What a caller has after a call at a leaf, whatever else others did there before.
use Rattle.std.specs.Prelude.{◌≡◌, ◌≢◌, ◌<◌, ℕ, true, false, List, [], ◌∷◌, ◌++◌, length, filter, option_map}
use Rattle.history_book.specs.declared.views.History.TheVariants as of
use Rattle.history_book.specs.declared.views.BookEntry.TheVariants as one
use Rattle.history_book.specs.declared.views.Kept.{Kept}
use Rattle.history_book.specs.Histories.{AreFronts, leaf_entry_is_about}
use Rattle.history_book.specs.Seats.{kept_with, length_note, times_range, without_one}
use Rattle.know.specs.declared.answers.Found.{Found}
use Rattle.know.specs.declared.answers.Found.TheVariants as found
use Rattle.know.specs.Knowledge.{Knowledge}
use Rattle.mon_topo.specs.HeldHistories.{BeginsWith}
use Rattle.mon_value.specs.LeafHistories.{is_down}
use Rattle.mon_value.specs.Histories.{leaf_history}
use Rattle.mon_value.specs.declared.histories.Entry.{Entry}
use Rattle.mon_value.specs.declared.positions.Leaf.{Leaf}
use Rattle.mon_value.specs.declared.positions.Range.{Range}
use Rattle.raise_table.specs.Seats.{KnowsAsMuch}

-- entries were appended to a leaf's history under a number
abbrev pub kept_with_all : Leaf → List Entry → Kept → Kept
kept_with_all leaf [] kept = kept
kept_with_all leaf (e ∷ more) kept = kept_with_all leaf more (kept_with (of.Leaf leaf) (one.Leaf e) kept)

-- The caller found this history of the leaf, and added these entries
pub record HasCalled (leaf : Leaf) (history added : List Entry) (before after : Knowledge) : Type 0 where
  -- it has seen what it had seen, and all of the leaf's history
  pub fronts : AreFronts before.seen after.seen
  pub front : BeginsWith history (leaf_history before.seen leaf)
  pub whole : leaf_history after.seen leaf ≡ history ++ added
  -- nobody else added entries about a range that it holds
  pub here : (range : Range) → 0 < times_range range before.purse.holds
      → filter (leaf_entry_is_about range) history ≡ filter (leaf_entry_is_about range) (leaf_history before.seen leaf)
  pub elsewhere : (range : Range) (other : Leaf) → 0 < times_range range before.purse.holds → other.0 ≢ leaf.0
      → filter (leaf_entry_is_about range) (leaf_history after.seen other)
      ≡ filter (leaf_entry_is_about range) (leaf_history before.seen other)
  -- the length that it found is noted, and what it added is its own
  pub notes : after.purse.notes ≡ before.purse.notes ++ length_note leaf.0 (length history) ∷ []
  pub own : after.purse.own ≡ option_map (kept_with_all leaf added) before.purse.own
  -- the rest is as before
  pub met : after.purse.met ≡ before.purse.met
  pub stock : after.purse.stock ≡ before.purse.stock
  pub lost : after.purse.lost ≡ before.purse.lost
  pub holds : after.purse.holds ≡ before.purse.holds
  pub hint_notes : after.hints.notes ≡ before.hints.notes
  pub knows : KnowsAsMuch before.hints after.hints

-- it found the leaf up, and has these rooms then
pub record HasFoundUp (leaf : Leaf) (added : List Entry) (rooms : List Leaf) (before after : Knowledge) : Type 0 where
  pub history : List Entry
  pub up : is_down history ≡ false
  pub called : HasCalled leaf history added before after
  pub rooms_are : after.purse.rooms ≡ rooms
  pub handed : after.handed ≡ before.handed

-- it found the leaf down, with so many entries
pub record HasFoundDown (leaf : Leaf) (cut : ℕ) (rooms : List Leaf) (before after : Knowledge) : Type 0 where
  pub history : List Entry
  pub down : is_down history ≡ true
  pub counted : length history ≡ cut
  pub called : HasCalled leaf history [] before after
  pub rooms_are : after.purse.rooms ≡ rooms
  pub handed : after.handed ≡ before.handed

-- by the answer: up, with these rooms and these entries added, or down, with those rooms
abbrev pub AnswersAt : Leaf → List Entry → List Leaf → List Leaf → Found → Knowledge → Knowledge → Type 0
AnswersAt leaf added rooms others found.Up before after = HasFoundUp leaf added rooms before after
AnswersAt leaf added rooms others (found.Down cut) before after = HasFoundDown leaf cut others before after

-- ---- the calls

-- room was asked for
abbrev pub HasReserved : Leaf → Found → Knowledge → Knowledge → Type 0
HasReserved leaf found before after =
    AnswersAt leaf [] (before.purse.rooms ++ leaf ∷ []) before.purse.rooms found before after

-- the place that was promised took an entry, or was given back
abbrev pub HasPut : Leaf → Entry → Found → Knowledge → Knowledge → Type 0
HasPut leaf entry found before after =
    AnswersAt leaf (entry ∷ []) (without_one leaf before.purse.rooms) (without_one leaf before.purse.rooms) found before
    after

-- nothing came of the call but what was seen
pub record HasLooked (leaf : Leaf) (rooms : List Leaf) (before after : Knowledge) : Type 0 where
  pub history : List Entry
  pub called : HasCalled leaf history [] before after
  pub rooms_are : after.purse.rooms ≡ rooms
  pub handed : after.handed ≡ before.handed
