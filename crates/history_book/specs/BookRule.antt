-- The book rule: what holds of the words of a book and of all its seats, whenever no step is under way. There is one
-- whole history for each leaf and each range. Its owner has seen it all, every seat a beginning of it, and its word
-- is its length.
use Rattle.std.specs.Prelude.{◌≡◌, ℕ, ◌+◌, ◌<◌, List, [], length, filter, slice_index, Option, Some, None, IfSome}
use Rattle.std.specs.List.{Contains, count_by, sum_by}
use mathlib.Core.List.{IsPrefix}
use mathlib.Core.Option.{some}
use lib.ListN.{get_elem?}
use Rattle.mon_value.specs.declared.positions.Leaf.{Leaf}
use Rattle.mon_value.specs.declared.positions.Range.{Range}
use Rattle.history_book.specs.declared.numbers.TheConstants.{NUMBER_END}
use Rattle.history_book.specs.declared.views.BookEntry.{BookEntry}
use Rattle.mon_value.specs.declared.histories.Histories.{Histories}
use Rattle.history_book.specs.declared.views.History.{History}
use Rattle.history_book.specs.declared.views.History.TheVariants as of
use Rattle.history_book.specs.declared.views.Joined.{Joined}
use Rattle.history_book.specs.declared.views.Kept.{Kept}
use Rattle.history_book.specs.declared.views.Purse.{Purse}
use Rattle.history_book.specs.declared.views.SeatView.{SeatView}
use Rattle.history_book.specs.Books.{word_count, word_of_history}
use Rattle.mon_value.specs.Histories.{leaf_numbered, range_numbered}
use Rattle.history_book.specs.Histories.{entries, history_numbered, is_about, is_under, book_entry_pass}
use Rattle.history_book.specs.Histories.{same_history}
use Rattle.history_book.specs.Seats.{kept_in, times_number, times_range, times_room}

-- ---- what a seat has

abbrev pub HasSeat : List SeatView → SeatView → Type 0
HasSeat seats seat = (at : ℕ) × (get_elem? seats at ≡ some seat)

abbrev pub in_purse : (Purse → ℕ) → Option Purse → ℕ
in_purse count None = 0
in_purse count (Some purse) = count purse

-- how often a seat owns a history, has a number, has a room, holds a range
abbrev pub owns : History → SeatView → ℕ
owns history seat = count_by (same_history history) seat.owns

abbrev pub has_number : ℕ → SeatView → ℕ
has_number n seat = in_purse (times_number n) seat.purse

abbrev pub has_room : Leaf → SeatView → ℕ
has_room leaf seat = in_purse (λ purse. times_room leaf purse.rooms) seat.purse

abbrev pub hold_count : Range → SeatView → ℕ
hold_count range seat = times_range range seat.held + in_purse (λ purse. times_range range purse.holds) seat.purse

abbrev pub kept_in_purse : Option Purse → List Kept
kept_in_purse None = []
kept_in_purse (Some purse) = kept_in purse

-- ---- what holds of one seat, where the whole histories are known

-- What two seats had seen is seen by the one that they became. Of its own history that is what it had seen before;
-- and of the ranges that either held, it had seen every entry
pub record IsJoined (whole : Histories) (seat : SeatView) (joined : Joined) : Type 0 where
  pub mine : (history : History) → IsPrefix (entries joined.mine history) (entries seat.seen history)
  pub theirs : (history : History) → IsPrefix (entries joined.theirs history) (entries seat.seen history)
  pub own : (history : History) → 0 < owns history seat → entries joined.mine history ≡ entries seat.seen history
  pub kept : (range : Range) (history : History) → 0 < times_range range joined.kept → 0 < hold_count range seat
      → filter (is_about range) (entries whole history) ≡ filter (is_about range) (entries joined.mine history)
  pub lent : (range : Range) (history : History) → 0 < times_range range joined.lent → 0 < hold_count range seat
      → filter (is_about range) (entries whole history) ≡ filter (is_about range) (entries joined.theirs history)

pub record IsTrue (whole : Histories) (seat : SeatView) : Type 0 where
  -- it has seen a beginning of each history
  pub seen : (history : History) → IsPrefix (entries seat.seen history) (entries whole history)
  -- it has seen all of a history that it owns
  pub own : (history : History) → 0 < owns history seat → entries seat.seen history ≡ entries whole history
  -- what it keeps of a number are the entries under that number
  pub exact : (kept : Kept) (history : History) → Contains (kept_in_purse seat.purse) kept
      → filter (is_under kept.number) (entries whole history) ≡ entries kept.own history
  -- it has seen every entry about a range that it holds
  pub held : (range : Range) (history : History) → 0 < hold_count range seat
      → filter (is_about range) (entries whole history) ≡ filter (is_about range) (entries seat.seen history)
  pub joined : IfSome seat.joined (IsJoined whole seat)

-- a seat keeps the number of an entry
pub record IsNumberKept (seats : List SeatView) (e : BookEntry) : Type 0 where
  pub seat : SeatView
  pub there : HasSeat seats seat
  pub kept : Kept
  pub has : Contains (kept_in_purse seat.purse) kept
  pub under : kept.number ≡ book_entry_pass e

-- ---- the whole

pub record KeepsBookRule (leaves ranges : ℕ) (whole : Histories) (words : List ℕ) (seats : List SeatView) : Type 0 where
  -- each history has a word, which is its length
  pub sized : length words ≡ word_count leaves ranges
  pub lengths : (n : ℕ) → n < leaves + ranges
      → slice_index words (word_of_history n) ≡ length (entries whole (history_numbered leaves n))
  pub seats_true : (seat : SeatView) → HasSeat seats seat → IsTrue whole seat
  -- each history has one owner
  pub owned : (n : ℕ) → n < leaves + ranges → sum_by (owns (history_numbered leaves n)) seats ≡ 1
  -- each number below the end stands in one place, and no other number does
  pub numbered : (n : ℕ) → n < NUMBER_END → sum_by (has_number n) seats ≡ 1
  pub bounded : (n : ℕ) → NUMBER_END < n + 1 → sum_by (has_number n) seats ≡ 0
  -- the number of each entry is kept by a seat
  pub kept : (history : History) (e : BookEntry) → Contains (entries whole history) e → IsNumberKept seats e
  -- the owner of a leaf's history promised as many rooms as seats have in it
  pub promised : (seat : SeatView) (n : ℕ) → n < leaves → HasSeat seats seat → 0 < owns (of.Leaf (leaf_numbered n)) seat
      → seat.promised ≡ sum_by (has_room (leaf_numbered n)) seats
  -- each range is held by one seat, and no other range is held
  pub holders : (n : ℕ) → n < ranges → sum_by (hold_count (range_numbered n)) seats ≡ 1
  pub unheld : (n : ℕ) → ranges < n + 1 → sum_by (hold_count (range_numbered n)) seats ≡ 0

-- what a book is told once, and what holds of it
abbrev pub BookHolds : ℕ → ℕ → List ℕ → List SeatView → Type 0
BookHolds leaves ranges words seats = (whole : Histories) × KeepsBookRule leaves ranges whole words seats
