-- What callers see of a seat and of an owner, and what calls make of that.
use Rattle.std.specs.Prelude.{◌≡◌, ℕ, ◌+◌, ◌-◌, ◌<◌, nat_eq, Bool, true, false, not, List, [], ◌∷◌, ◌++◌, filter}
use Rattle.std.specs.Prelude.{Option, Some, None, option_map, option_to_list, if◌then◌else◌}
use Rattle.std.specs.List.{Contains, count_by, sum_by}
use mathlib.Core.List.{IsPrefix}
use Rattle.mon_value.specs.declared.positions.Leaf.{Leaf}
use Rattle.mon_value.specs.declared.positions.Range.{Range}
use Rattle.history_book.specs.declared.rooms.RoomMove.{RoomMove}
use Rattle.history_book.specs.declared.rooms.RoomMove.TheVariants as move
use Rattle.history_book.specs.declared.numbers.Hand.{Hand}
use Rattle.history_book.specs.declared.numbers.TheConstants.{NUMBER_END}
use Rattle.history_book.specs.declared.views.BookEntry.{BookEntry}
use Rattle.mon_value.specs.declared.histories.Histories.{Histories}
use Rattle.history_book.specs.declared.views.History.{History}
use Rattle.history_book.specs.declared.views.History.TheVariants as of
use Rattle.history_book.specs.declared.views.Kept.{Kept}
use Rattle.history_book.specs.declared.views.LengthNote.{LengthNote}
use Rattle.history_book.specs.declared.views.Purse.{Purse}
use Rattle.mon_value.specs.Histories.{same_leaf, same_range, joined_histories}
use Rattle.history_book.specs.Histories.{empty_histories, entries, is_under, book_entry_pass}
use Rattle.history_book.specs.Histories.{with_book_entry}
use Rattle.history_book.specs.Numbers.{after_handing, handed_numbers, numbers_between, times_among}

-- A seat: what it has seen, and what it has beside that
pub record Seat : Type 0 where
  pub seen : Histories
  pub purse : Purse

-- An owner's seat: whose history it is, what it has seen (of its own history all), how many rooms it promised, the
-- range that it holds, what it noted itself, and what its guest brought
pub record Owner : Type 0 where
  pub history : History
  pub seen : Histories
  pub promised : ℕ
  pub held : List Range
  pub notes : List LengthNote
  pub guest : Option Purse

-- ---- purses

-- nothing was appended
abbrev pub no_entries : Histories
no_entries = record { leaves = []; ranges = [] }

abbrev pub new_number : ℕ → Kept
new_number n = record { number = n; own = no_entries }

abbrev pub no_purse : Purse
no_purse = record { own = None; met = []; stock = numbers_between 0 0; lost = []; notes = []; rooms = []; holds = [] }

-- what a seat with a number has at first
abbrev pub numbered_purse : ℕ → ℕ → ℕ → Purse
numbered_purse number from to =
    record {
      own = Some (new_number number);
      met = [];
      stock = numbers_between from to;
      lost = [];
      notes = [];
      rooms =
          [];
      holds = [];
    }

-- the numbers whose entries it keeps: its own, and those of seats that it met
abbrev pub kept_in : Purse → List Kept
kept_in purse = option_to_list purse.own ++ purse.met

-- how often a number stands among the lost ones: who meets a seat without a stock has an empty one there more
abbrev pub times_lost : ℕ → Purse → ℕ
times_lost n purse = sum_by (times_among n) purse.lost

-- how often a number stands in a purse
abbrev pub times_number : ℕ → Purse → ℕ
times_number n purse =
    count_by (λ kept. nat_eq kept.number n) (kept_in purse) + times_among n purse.stock + times_lost n purse

abbrev pub times_room : Leaf → List Leaf → ℕ
times_room leaf rooms = count_by (same_leaf leaf) rooms

abbrev pub times_range : Range → List Range → ℕ
times_range range holds = count_by (same_range range) holds

-- no number stands there twice, and each is below the end
pub record AreNumbersApart (purse : Purse) : Type 0 where
  pub once : (n : ℕ) → n < NUMBER_END → times_number n purse < 2
  pub below : (n : ℕ) → NUMBER_END < n + 1 → times_number n purse ≡ 0

abbrev pub HasEveryNumber : Purse → Type 0
HasEveryNumber purse = (n : ℕ) → n < NUMBER_END → 0 < times_number n purse

-- the entry is kept under its number
pub record IsKeptIn (purse : Purse) (history : History) (e : BookEntry) : Type 0 where
  pub kept : Kept
  pub has : Contains (kept_in purse) kept
  pub under : kept.number ≡ book_entry_pass e
  pub own : Contains (entries kept.own history) e

-- what a purse says of what was seen
pub record IsPurseBorneOut (seen : Histories) (purse : Purse) : Type 0 where
  pub apart : AreNumbersApart purse
  -- the entries of a number that were seen are the first of those that are kept
  pub exact : (kept : Kept) (history : History) → Contains (kept_in purse) kept
      → IsPrefix (filter (is_under kept.number) (entries seen history)) (entries kept.own history)
  -- who has every number keeps every entry that was seen
  pub every : HasEveryNumber purse → (history : History) (e : BookEntry) → Contains (entries seen history) e
      → IsKeptIn purse history e

abbrev pub hand_of : Purse → Hand
hand_of purse = record { own = option_map (λ kept. kept.number) purse.own; stock = purse.stock }

-- ---- what calls make of them

abbrev pub length_note : ℕ → ℕ → LengthNote
length_note history length = record { history = history; length = length }

abbrev pub with_note : ℕ → ℕ → Purse → Purse
with_note history length purse =
    record {
      own = purse.own;
      met = purse.met;
      stock = purse.stock;
      lost = purse.lost;
      notes =
          purse.notes ++ length_note history length ∷ [];
      rooms = purse.rooms;
      holds = purse.holds;
    }

abbrev pub with_stock_handed : Purse → Purse
with_stock_handed purse =
    record {
      own = purse.own;
      met = purse.met;
      stock = after_handing purse.stock;
      lost = purse.lost;
      notes = purse.notes;
      rooms =
          purse.rooms;
      holds = purse.holds;
    }

-- the first number of the stock, with some of the last ones if there are many
abbrev pub first_handed : Purse → Purse
first_handed purse =
    record {
      own = Some (new_number purse.stock.from);
      met = [];
      stock = handed_numbers purse.stock;
      lost = [];
      notes = [];
      rooms =
          [];
      holds = [];
    }

-- the other's number is kept, and can hand out no more
abbrev pub met_purse : Purse → Purse → Purse
met_purse purse other = record {
  own = purse.own;
  met = purse.met ++ kept_in other;
  stock = purse.stock;
  lost = purse.lost ++ other.stock ∷ other.lost;
  notes = purse.notes ++ other.notes;
  rooms = purse.rooms ++ other.rooms;
  holds = purse.holds ++ other.holds;
}

abbrev pub kept_with : History → BookEntry → Kept → Kept
kept_with history e kept = record { number = kept.number; own = with_book_entry history e kept.own }

-- an entry was appended under the purse's number
abbrev pub purse_with : History → BookEntry → Purse → Purse
purse_with history e purse =
    record {
      own = option_map (kept_with history e) purse.own;
      met = purse.met;
      stock = purse.stock;
      lost = purse.lost;
      notes =
          purse.notes;
      rooms = purse.rooms;
      holds = purse.holds;
    }

-- ---- rooms and held ranges

abbrev pub promised_after : RoomMove → ℕ → ℕ
promised_after move.Make n = n + 1
promised_after move.Keep n = n
promised_after move.TakeBack n = n - 1

abbrev pub without_one : Leaf → List Leaf → List Leaf
without_one leaf [] = []
without_one leaf (room ∷ rooms) = if same_leaf leaf room then rooms else room ∷ without_one leaf rooms

-- a room of the owner's history comes or goes
abbrev pub rooms_after : RoomMove → History → List Leaf → List Leaf
rooms_after move.Make (of.Leaf leaf) rooms = rooms ++ leaf ∷ []
rooms_after move.Make (of.Range range) rooms = rooms
rooms_after move.Keep history rooms = rooms
rooms_after move.TakeBack (of.Leaf leaf) rooms = without_one leaf rooms
rooms_after move.TakeBack (of.Range range) rooms = rooms

abbrev pub is_own_range : History → Range → Bool
is_own_range (of.Leaf leaf) range = false
is_own_range (of.Range own) range = same_range own range

-- what the owner holds itself, once its guest is gone
abbrev pub held_after : Bool → History → List Range → List Range → List Range
held_after true history held holds = []
held_after false history held holds = held ++ filter (is_own_range history) holds

-- what the guest holds then
abbrev pub holds_after : Bool → History → List Range → List Range → List Range
holds_after true history held holds = held ++ holds
holds_after false history held holds = filter (λ range. not (is_own_range history range)) holds

abbrev pub parted_purse : RoomMove → Bool → History → List Range → Purse → Purse
parted_purse rooms hold history held purse = record {
  own = purse.own;
  met = purse.met;
  stock = purse.stock;
  lost = purse.lost;
  notes = purse.notes;
  rooms = rooms_after rooms history purse.rooms;
  holds = holds_after hold history held purse.holds;
}

abbrev pub guest_purse : Option Purse → Purse
guest_purse None = no_purse
guest_purse (Some purse) = purse

-- the guest has a room of the owner's history
abbrev pub HasGuestRoom : Owner → Type 0
HasGuestRoom owner = (leaf : Leaf) × (owner.history ≡ of.Leaf leaf)
    × (0 < times_room leaf (guest_purse owner.guest).rooms)

-- the owner is a range's, and it or its guest holds that range
abbrev pub HoldsOwn : Owner → Type 0
HoldsOwn owner =
    (range : Range) × (owner.history ≡ of.Range range)
    × (0 < times_range range (owner.held ++ (guest_purse owner.guest).holds))

-- ---- seats

-- the seat of a new book
abbrev pub first_seat : ℕ → ℕ → Seat
first_seat leaves ranges = record { seen = empty_histories leaves ranges; purse = numbered_purse 0 1 NUMBER_END }

abbrev pub after_learn : ℕ → ℕ → Seat → Seat
after_learn history length seat = record { seen = seat.seen; purse = with_note history length seat.purse }

abbrev pub without_purse : Seat → Seat
without_purse seat = record { seen = seat.seen; purse = no_purse }

abbrev pub after_split_numbered : Seat → Seat
after_split_numbered seat = record { seen = seat.seen; purse = with_stock_handed seat.purse }

abbrev pub numbered_seat : Seat → Seat
numbered_seat seat = record { seen = seat.seen; purse = first_handed seat.purse }

abbrev pub after_meet : Seat → Seat → Seat
after_meet other seat = record {
  seen = joined_histories seat.seen other.seen;
  purse = met_purse seat.purse other.purse;
}

-- ---- owners

abbrev pub own_ranges : History → List Range
own_ranges (of.Leaf leaf) = []
own_ranges (of.Range range) = range ∷ []

-- an owner of a new book holds its range, if it is a range's
abbrev pub new_owner : ℕ → ℕ → History → Owner
new_owner leaves ranges history =
    record {
      history = history;
      seen = empty_histories leaves ranges;
      promised = 0;
      held = own_ranges history;
      notes =
          [];
      guest = None;
    }

-- an entry was appended to the owner's history, under the guest's number
abbrev pub after_append : BookEntry → Owner → Owner
after_append e owner = record {
  history = owner.history;
  seen = with_book_entry owner.history e owner.seen;
  promised = owner.promised;
  held = owner.held;
  notes = owner.notes;
  guest = option_map (purse_with owner.history e) owner.guest;
}

-- what the owner notes itself
abbrev pub own_notes_after : ℕ → ℕ → Option Purse → List LengthNote → List LengthNote
own_notes_after history length None notes = notes ++ length_note history length ∷ []
own_notes_after history length (Some purse) notes = notes

-- a length is noted by the guest, if there is one, and else by the owner
abbrev pub after_own_learn : ℕ → ℕ → Owner → Owner
after_own_learn history length owner = record {
  history = owner.history;
  seen = owner.seen;
  promised = owner.promised;
  held = owner.held;
  notes = own_notes_after history length owner.guest owner.notes;
  guest = option_map (with_note history length) owner.guest;
}

-- a guest has come
abbrev pub with_guest : Seat → Owner → Owner
with_guest other owner = record {
  history = owner.history;
  seen = joined_histories owner.seen other.seen;
  promised = owner.promised;
  held = owner.held;
  notes = owner.notes;
  guest = Some other.purse;
}

-- the guest is gone
abbrev pub after_parting : RoomMove → Bool → Owner → Owner
after_parting rooms hold owner = record {
  history = owner.history;
  seen = owner.seen;
  promised = promised_after rooms owner.promised;
  held = held_after hold owner.history owner.held (guest_purse owner.guest).holds;
  notes = owner.notes;
  guest = None;
}

-- the seat that the guest has then
abbrev pub guest_seat : RoomMove → Bool → Owner → Seat
guest_seat rooms hold owner =
    record { seen = owner.seen; purse = parted_purse rooms hold owner.history owner.held (guest_purse owner.guest) }
