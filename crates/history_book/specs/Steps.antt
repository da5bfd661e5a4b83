-- What the kinds of step make of a seat's view, and what they tell.
use Rattle.std.specs.Prelude.{◌≡◌, ℕ, ◌+◌, ◌-◌, ◌<◌, ◌≤◌, Bool, List, [], ◌∷◌, ◌++◌, drop, take, length, filter, map}
use Rattle.std.specs.Prelude.{Option, Some, None, IfSome, option_map}
use Rattle.atomic_table.specs.Table.{Me, Step}
use Rattle.mon_value.specs.declared.positions.Leaf.{Leaf}
use Rattle.mon_value.specs.declared.positions.Range.{Range}
use Rattle.history_book.specs.declared.numbers.TheConstants.{NUMBER_END}
use Rattle.history_book.specs.declared.rooms.RoomMove.{RoomMove}
use Rattle.history_book.specs.declared.rooms.RoomMove.TheVariants as move
use Rattle.history_book.specs.declared.views.BookEntry.{BookEntry}
use Rattle.mon_value.specs.declared.histories.Histories.{Histories}
use Rattle.history_book.specs.declared.views.History.{History}
use Rattle.history_book.specs.declared.views.History.TheVariants as of
use Rattle.history_book.specs.declared.views.Joined.{Joined}
use Rattle.history_book.specs.declared.views.Purse.{Purse}
use Rattle.history_book.specs.declared.views.SeatView.{SeatView}
use Rattle.history_book.specs.Histories.{AreFronts, empty_histories, entries, histories_in, history_numbered, is_about}
use Rattle.mon_value.specs.Histories.{leaf_numbered, range_numbered, joined_histories}
use Rattle.history_book.specs.Histories.{numbers_on, with_book_entry}
use Rattle.history_book.specs.Seats.{IsPurseBorneOut, Owner, Seat, first_handed, guest_purse, held_after, met_purse}
use Rattle.history_book.specs.Seats.{no_purse, with_note, numbered_purse, own_notes_after, own_ranges, parted_purse}
use Rattle.history_book.specs.Seats.{promised_after, purse_with, times_range, times_room, with_stock_handed}
use Rattle.history_book.specs.BookRule.{has_room, hold_count, owns}

abbrev pub Seated : Type 0
Seated = Me (Unit {0}) SeatView

-- ---- what callers see

abbrev pub seat_of : SeatView → Seat
seat_of v = record { seen = v.seen; purse = guest_purse v.purse }

abbrev pub owner_of : History → SeatView → Owner
owner_of history v =
    record { history = history; seen = v.seen; promised = v.promised; held = v.held; notes = v.notes; guest = v.purse }

-- a seat that owns nothing, and has a purse
pub record IsPlainSeat (v : SeatView) : Type 0 where
  pub purse : v.purse ≡ Some (guest_purse v.purse)
  pub owns : v.owns ≡ []
  pub held : v.held ≡ []

-- ---- the views

-- the ranges of a new book
abbrev pub ranges_on : ℕ → ℕ → List Range
ranges_on first count = map range_numbered (numbers_on first count)

-- the first seat owns all histories, and holds all ranges
abbrev pub first_view : ℕ → ℕ → SeatView
first_view leaves ranges = record {
  seen = empty_histories leaves ranges;
  joined = None;
  purse = Some (numbered_purse 0 1 NUMBER_END);
  owns = histories_in leaves ranges;
  promised = 0;
  held = ranges_on 0 ranges;
  notes = [];
}

-- the first seat, once the owners of so many histories were split off it
abbrev pub dealing : ℕ → ℕ → ℕ → SeatView
dealing leaves ranges n = record {
  seen = empty_histories leaves ranges;
  joined = None;
  purse = Some (numbered_purse 0 1 NUMBER_END);
  owns = map (history_numbered leaves) (numbers_on n (leaves + ranges - n));
  promised = 0;
  held = ranges_on (n - leaves) (ranges - (n - leaves));
  notes = [];
}

-- the owner's seat that is split off it
abbrev pub owner_view : ℕ → ℕ → ℕ → SeatView
owner_view leaves ranges n = record {
  seen = empty_histories leaves ranges;
  joined = None;
  purse = None;
  owns = history_numbered leaves n ∷ [];
  promised = 0;
  held = own_ranges (history_numbered leaves n);
  notes = [];
}

-- the first history is dealt out, with as many ranges as are told
abbrev pub dealt : ℕ → SeatView → SeatView
dealt count v = record {
  seen = v.seen;
  joined = None;
  purse = None;
  owns = take 1 v.owns;
  promised = v.promised;
  held =
      take count v.held;
  notes = [];
}

abbrev pub after_deal : ℕ → SeatView → SeatView
after_deal count v =
    record {
      seen = v.seen;
      joined = None;
      purse = v.purse;
      owns = drop 1 v.owns;
      promised = v.promised;
      held =
          drop count v.held;
      notes = v.notes;
    }

-- a seat without an owner's part
abbrev pub plain_view : Histories → Option Purse → SeatView
plain_view seen purse = record {
  seen = seen;
  joined = None;
  purse = purse;
  owns = [];
  promised = 0;
  held = [];
  notes =
      [];
}

abbrev pub with_purse : Option Purse → SeatView → SeatView
with_purse purse v =
    record {
      seen = v.seen;
      joined = v.joined;
      purse = purse;
      owns = v.owns;
      promised = v.promised;
      held = v.held;
      notes =
          v.notes;
    }

abbrev pub split_off : SeatView → SeatView
split_off v = plain_view v.seen (Some no_purse)

abbrev pub after_handed_number : SeatView → SeatView
after_handed_number v = with_purse (option_map with_stock_handed v.purse) v

abbrev pub handed_number : SeatView → SeatView
handed_number v = plain_view v.seen (option_map first_handed v.purse)

abbrev pub both_purses : Option Purse → Option Purse → Option Purse
both_purses None other = other
both_purses (Some purse) None = Some purse
both_purses (Some purse) (Some other) = Some (met_purse purse other)

abbrev pub meeting : SeatView → SeatView → SeatView
meeting v u = record {
  seen = joined_histories v.seen u.seen;
  joined = Some (record {
    mine = v.seen;
    theirs = u.seen;
    kept = v.held ++ (guest_purse v.purse).holds;
    lent = (guest_purse u.purse).holds;
  });
  purse = both_purses v.purse u.purse;
  owns = v.owns;
  promised = v.promised;
  held = v.held;
  notes = v.notes;
}

-- a seat that met another's is spent
abbrev pub spent_view : SeatView
spent_view = plain_view (record { leaves = []; ranges = [] }) None

-- the history of an owner
abbrev pub own_history : List History → History
own_history [] = of.Leaf (leaf_numbered 0)
own_history (history ∷ more) = history

abbrev pub after_part : RoomMove → Bool → SeatView → SeatView
after_part rooms hold v = record {
  seen = v.seen;
  joined = None;
  purse = None;
  owns = v.owns;
  promised = promised_after rooms v.promised;
  held = held_after hold (own_history v.owns) v.held (guest_purse v.purse).holds;
  notes = v.notes;
}

abbrev pub part : RoomMove → Bool → SeatView → SeatView
part rooms hold v = plain_view v.seen (Some (parted_purse rooms hold (own_history v.owns) v.held (guest_purse v.purse)))

-- a guest that is to give a room back has one
abbrev pub CanGiveBack : RoomMove → History → List Leaf → Type 0
CanGiveBack move.Make history rooms = Unit {0}
CanGiveBack move.Keep history rooms = Unit {0}
CanGiveBack move.TakeBack (of.Leaf leaf) rooms = 0 < times_room leaf rooms
CanGiveBack move.TakeBack (of.Range range) rooms = Unit {0}

abbrev pub view_after_append : BookEntry → SeatView → SeatView
view_after_append e v = record {
  seen = with_book_entry (own_history v.owns) e v.seen;
  joined = None;
  purse = option_map (purse_with (own_history v.owns) e) v.purse;
  owns = v.owns;
  promised = v.promised;
  held = v.held;
  notes = v.notes;
}

abbrev pub view_after_learning : ℕ → ℕ → SeatView → SeatView
view_after_learning history length v = record {
  seen = v.seen;
  joined = v.joined;
  purse = option_map (with_note history length) v.purse;
  owns = v.owns;
  promised = v.promised;
  held = v.held;
  notes = own_notes_after history length v.purse v.notes;
}

-- ---- what a step tells

-- the number of the history of a word
abbrev pub word_history : ℕ → ℕ
word_history word = word - 1

-- the length that was found is at least that of what was seen, and just that of what is owned
abbrev pub Learns : ℕ → Step (Unit {0}) → Seated → ℕ → Seated → Type 0
Learns leaves step before found after =
    (length (entries before.0.seen (history_numbered leaves (word_history step.word))) ≤ found)
    × (0 < owns (history_numbered leaves (word_history step.word)) before.0
    → found ≡ length (entries before.0.seen (history_numbered leaves (word_history step.word))))
    × (after ≡ (view_after_learning (word_history step.word) found before.0, before.1))

-- an entry was appended
abbrev pub Appends : BookEntry → Step (Unit {0}) → Seated → ℕ → Seated → Type 0
Appends e step before found after = after ≡ (view_after_append e before.0, before.1)

-- what two seats had seen is seen by the one that they became
pub record IsUnited (v : SeatView) (joined : Joined) : Type 0 where
  pub mine : AreFronts joined.mine v.seen
  pub theirs : AreFronts joined.theirs v.seen
  pub own : (history : History) → 0 < owns history v → entries joined.mine history ≡ entries v.seen history
  pub kept : (range : Range) (history : History) → 0 < times_range range joined.kept → 0 < hold_count range v
      → filter (is_about range) (entries v.seen history) ≡ filter (is_about range) (entries joined.mine history)
  pub lent : (range : Range) (history : History) → 0 < times_range range joined.lent → 0 < hold_count range v
      → filter (is_about range) (entries v.seen history) ≡ filter (is_about range) (entries joined.theirs history)

-- who owns a leaf's history promised as many rooms as its purse has there
abbrev pub IsPromised : ℕ → SeatView → Type 0
IsPromised leaves v = (n : ℕ) → n < leaves → 0 < owns (of.Leaf (leaf_numbered n)) v
    → has_room (leaf_numbered n) v ≤ v.promised

-- nothing changes, and what the rule says of the seat is told
abbrev pub Confirms : ℕ → Step (Unit {0}) → Seated → ℕ → Seated → Type 0
Confirms leaves step before found after =
    (after ≡ before) × IfSome before.0.joined (IsUnited before.0) × IfSome before.0.purse
    (IsPurseBorneOut before.0.seen) × IsPromised leaves before.0
