-- What a caller has once it came to a leaf's owner and went again.
use Rattle.std.proofs.Common.{◌≡◌, ℕ, ◌<◌, Bool, true, false, not, List, [], ◌∷◌, ◌++◌}
use Rattle.std.proofs.Common.{inl, inr, length, filter, refl, sym, ap, subst, ◌∙◌}
use Rattle.std.proofs.lemmas.Bool.{cases_eq}
use Rattle.std.proofs.Common.{cond, Some, None}
use Rattle.std.specs.Prelude.{Option, option_map}
use Rattle.std.specs.List.{flat_map}
use Rattle.std.proofs.lemmas.List.{append-nil}
use mathlib.Core.List.{IsPrefix}
use Rattle.history_book.specs.declared.rooms.RoomMove.{RoomMove}
use Rattle.history_book.specs.declared.views.History.{History}
use Rattle.history_book.specs.declared.views.History.TheVariants as of
use Rattle.history_book.specs.declared.views.BookEntry.TheVariants as one
use Rattle.history_book.specs.declared.views.Kept.{Kept}
use Rattle.history_book.specs.Histories.{AreFronts, entries, is_about, leaf_entry_is_about, with_book_entry}
use Rattle.history_book.specs.Seats.{HasGuestRoom, Owner, after_append, after_own_learn, guest_seat, is_own_range}
use Rattle.history_book.specs.Seats.{hand_of, kept_with}
use Rattle.history_book.specs.Seats.{length_note, rooms_after, times_range, times_room, with_guest}
use Rattle.history_book.proofs.ListLemmas.{added_else, added_here, prefix_push}
use Rattle.know.specs.Knowledge.{Knowledge}
use Rattle.know.specs.Lending.{back_with, lent_seat, without_purse}
use Rattle.mon_topo.proofs.FrontLemmas.{begins_from}
use Rattle.mon_topo.proofs.HeldLemmas.{leaf_same}
use Rattle.mon_topo.specs.HeldHistories.{BeginsWith}
use Rattle.mon_value.specs.Histories.{joined_histories, leaf_history}
use Rattle.mon_value.specs.LeafHistories.{is_down}
use Rattle.mon_value.specs.declared.histories.Entry.{Entry}
use Rattle.mon_value.specs.declared.histories.Histories.{Histories}
use Rattle.mon_value.specs.declared.positions.Leaf.{Leaf}
use Rattle.mon_value.specs.declared.positions.Range.{Range}
use Rattle.owners.proofs.EntryLemmas.{about_from_book, back, entry_of_book}
use Rattle.owners.specs.Calls.{HasCalled, HasFoundDown, HasFoundUp, HasLooked}
use Rattle.owners.specs.Owners.{LeafView}
use Rattle.owners.specs.Receiving.{HasGone, HasReceived}
use Rattle.raise_table.specs.declared.views.Hints.{Hints}
use Rattle.raise_table.specs.Seats.{KnowsAsMuch, met, without_notes}
use Rattle.raise_table.proofs.KnowsLemmas.{meet_knows_both}
use Rattle.owners.specs.Puts.{number_or, pass_of}

module _ {X : Type 0} (test : X → Bool) (all : (x : X) → test x ≡ true) where
  kept_by : (x : X) (xs : List X) (b : Bool) → b ≡ true → filter test xs ≡ xs
      → cond b (x ∷ filter test xs) (filter test xs) ≡ x ∷ xs
  kept_by x xs true is rest = ap (λ ys. x ∷ ys) rest
  kept_by x xs false is rest = absurd cc

  filter_all : (xs : List X) → filter test xs ≡ xs
  filter_all [] = refl
  filter_all (x ∷ xs) = kept_by x xs (test x) (all x) (filter_all xs)

-- the histories are the same where the book's entries are
pub unmapped : (l : Leaf) (a b : Histories) → entries a (of.Leaf l) ≡ entries b (of.Leaf l)
    → leaf_history a l ≡ leaf_history b l
unmapped l a b e = sym (back (leaf_history a l)) ∙ ap (flat_map entry_of_book) e ∙ back (leaf_history b l)

-- a leaf's owner takes back no range
no_own_range : (history : History) (leaf : Leaf) → history ≡ of.Leaf leaf → (range : Range)
    → not (is_own_range history range) ≡ true
no_own_range history leaf e range = ap (λ h. not (is_own_range h range)) e

module _ (leaf : Leaf) (know : Knowledge) (owner : Owner) (hints : Hints) (n : ℕ)
    (is : owner.history ≡ of.Leaf leaf)
    (fronts : AreFronts know.seen (joined_histories owner.seen know.seen))
    (whole : leaf_history (joined_histories owner.seen know.seen) leaf ≡ leaf_history owner.seen leaf)
    (held : (range : Range) (other : History) → 0 < times_range range know.purse.holds
    → filter (is_about range) (entries (joined_histories owner.seen know.seen) other)
    ≡ filter (is_about range) (entries know.seen other))
    (counted : n ≡ length (leaf_history owner.seen leaf)) (quiet : hints.notes ≡ []) where
  abbrev seen : Histories
  seen = joined_histories owner.seen know.seen

  abbrev found : List Entry
  found = leaf_history owner.seen leaf

  -- the owner with its guest, that noted the length
  abbrev visited : Owner
  visited = after_own_learn leaf.0 n (with_guest (lent_seat know) owner)

  front : BeginsWith found (leaf_history know.seen leaf)
  front = begins_from found (leaf_history know.seen leaf) (fronts.0 leaf).0
      (sym whole ∙ sym (fronts.0 leaf).1)

  same_holds : filter (λ range. not (is_own_range owner.history range)) know.purse.holds ≡ know.purse.holds
  same_holds = filter_all (λ range. not (is_own_range owner.history range)) (no_own_range owner.history leaf is)
      know.purse.holds

  noted : know.purse.notes ++ length_note leaf.0 n ∷ [] ≡ know.purse.notes ++ length_note leaf.0 (length found) ∷ []
  noted = ap (λ k. know.purse.notes ++ length_note leaf.0 k ∷ []) counted

  no_notes : know.hints.notes ++ hints.notes ≡ know.hints.notes
  no_notes = ap (λ xs. know.hints.notes ++ xs) quiet ∙ append-nil know.hints.notes

  knows : KnowsAsMuch know.hints (met know.hints hints)
  knows = (meet_knows_both know.hints hints (met know.hints hints) refl).0

  mapped_same : (o : Option Kept) → o ≡ option_map (λ (kept : Kept). kept) o
  mapped_same None = refl
  mapped_same (Some kept) = refl

  -- nothing was appended
  module _ (rooms : RoomMove) where
    abbrev left : Knowledge
    left = back_with hints (guest_seat rooms false visited) (without_purse know)

    called : HasCalled leaf found [] know left
    called = record {
      fronts = fronts;
      front = front;
      whole = whole ∙ sym (append-nil found);
      here = λ range lent. ap (filter (leaf_entry_is_about range)) (sym whole)
          ∙ about_from_book range leaf seen know.seen (held range (of.Leaf leaf) lent);
      elsewhere = λ range other lent apart.
          about_from_book range other seen know.seen (held range (of.Leaf other) lent);
      notes = noted;
      own = mapped_same know.purse.own;
      met = refl;
      stock = refl;
      lost = refl;
      holds = same_holds;
      hint_notes = no_notes;
      knows = knows;
    }

    rooms_are : left.purse.rooms ≡ rooms_after rooms (of.Leaf leaf) know.purse.rooms
    rooms_are = ap (λ h. rooms_after rooms h know.purse.rooms) is

  -- an entry was appended
  module _ (rooms : RoomMove) (e : Entry) where
    abbrev left_with : Knowledge
    left_with = back_with hints (guest_seat rooms false (after_append (one.Leaf e) visited)) (without_purse know)

    abbrev grown : Histories
    grown = with_book_entry (of.Leaf leaf) (one.Leaf e) seen

    grown_is : with_book_entry owner.history (one.Leaf e) seen ≡ grown
    grown_is = ap (λ h. with_book_entry h (one.Leaf e) seen) is

    by_grown : (P : Histories → Type 0) → P grown → P (with_book_entry owner.history (one.Leaf e) seen)
    by_grown P p = subst P (sym grown_is) p

    pushed_front : (other : Leaf) → IsPrefix (leaf_history know.seen other) (leaf_history grown other)
    pushed_front other = elim (cases_eq other.0 leaf.0) [
      | inl same ↦
          subst (λ (l : Leaf). IsPrefix (leaf_history know.seen l) (leaf_history grown l))
          (sym (leaf_same other leaf same))
          (subst (IsPrefix (leaf_history know.seen leaf)) (sym (added_here leaf.0 e seen.leaves))
          (prefix_push (leaf_history know.seen leaf) (leaf_history seen leaf) e (fronts.0 leaf)))
      | inr apart ↦
          subst (IsPrefix (leaf_history know.seen other)) (sym (added_else leaf.0 other.0 e seen.leaves apart))
          (fronts.0 other)
    ]

    called_with : HasCalled leaf found (e ∷ []) know left_with
    called_with = record {
      fronts = by_grown (AreFronts know.seen) (pushed_front, fronts.1);
      front = front;
      whole = by_grown (λ s. leaf_history s leaf ≡ found ++ e ∷ [])
          (added_here leaf.0 e seen.leaves ∙ ap (λ h. h ++ e ∷ []) whole);
      here = λ range lent. ap (filter (leaf_entry_is_about range)) (sym whole)
          ∙ about_from_book range leaf seen know.seen (held range (of.Leaf leaf) lent);
      elsewhere = λ range other lent apart. by_grown (λ s. filter (leaf_entry_is_about range) (leaf_history s other)
          ≡ filter (leaf_entry_is_about range) (leaf_history know.seen other))
          (ap (filter (leaf_entry_is_about range)) (added_else leaf.0 other.0 e seen.leaves apart)
          ∙ about_from_book range other seen know.seen (held range (of.Leaf other) lent));
      notes = noted;
      own = ap (λ h. option_map (kept_with h (one.Leaf e)) know.purse.own) is;
      met = refl;
      stock = refl;
      lost = refl;
      holds = same_holds;
      hint_notes = no_notes;
      knows = knows;
    }

    rooms_are_with : left_with.purse.rooms ≡ rooms_after rooms (of.Leaf leaf) know.purse.rooms
    rooms_are_with = ap (λ h. rooms_after rooms h know.purse.rooms) is

-- ---- from a received caller

module _ (know : Knowledge) (owner now : LeafView) (cut : ℕ) (came : HasReceived know cut owner now) where
  abbrev leaf : Leaf
  leaf = owner.leaf

  abbrev joined : Histories
  joined = joined_histories owner.book.seen know.seen

  seen_is : now.book.seen ≡ joined
  seen_is = ap (λ (o : Owner). o.seen) came.book

  fronts_is : AreFronts know.seen joined
  fronts_is = subst (AreFronts know.seen) seen_is came.fronts

  whole_is : leaf_history joined leaf ≡ leaf_history owner.book.seen leaf
  whole_is = ap (λ (s : Histories). leaf_history s leaf) (sym seen_is) ∙ came.whole

  held_is : (range : Range) (history : History) → 0 < times_range range know.purse.holds
      → filter (is_about range) (entries joined history) ≡ filter (is_about range) (entries know.seen history)
  held_is range history has =
      ap (λ (s : Histories). filter (is_about range) (entries s history)) (sym seen_is) ∙ came.held range history has

  -- it went without an entry of its own
  pub goes : (rooms : RoomMove) (alone gone : Knowledge) → alone ≡ without_purse know
      → gone ≡ back_with (without_notes now.hints.hints) (guest_seat rooms false now.book) alone
      → HasGone leaf (leaf_history owner.book.seen leaf) [] rooms know gone
  goes rooms alone gone left_is gone_is =
      subst (HasGone leaf (leaf_history owner.book.seen leaf) [] rooms know)
      (sym (gone_is ∙ (λ i. back_with (without_notes now.hints.hints) (guest_seat rooms false (came.book i))
      (left_is i))))
      (record {
        called = called leaf know owner.book (without_notes now.hints.hints) cut came.own fronts_is whole_is held_is
            (sym came.counted) refl rooms;
        rooms_are = rooms_are leaf know owner.book (without_notes now.hints.hints) cut came.own fronts_is whole_is
            held_is (sym came.counted) refl rooms;
        handed = refl;
      })

  -- it went with an entry, to which other bits may lead
  pub goes_with : (rooms : RoomMove) (e : Entry) (hints : Hints) (book : Owner) (alone gone : Knowledge)
      → book ≡ after_append (one.Leaf e) now.book → alone ≡ without_purse know
      → gone ≡ back_with (without_notes hints) (guest_seat rooms false book) alone
      → HasGone leaf (leaf_history owner.book.seen leaf) (e ∷ []) rooms know gone
  goes_with rooms e hints book alone gone book_is left_is gone_is =
      subst (HasGone leaf (leaf_history owner.book.seen leaf) (e ∷ []) rooms know)
      (sym (gone_is ∙ (λ i. back_with (without_notes hints)
      (guest_seat rooms false ((book_is ∙ ap (after_append (one.Leaf e)) came.book) i)) (left_is i))))
      (record {
        called = called_with leaf know owner.book (without_notes hints) cut came.own fronts_is whole_is held_is
            (sym came.counted) refl rooms e;
        rooms_are = rooms_are_with leaf know owner.book (without_notes hints) cut came.own fronts_is whole_is held_is
            (sym came.counted) refl rooms e;
        handed = refl;
      })

  -- the guest has the rooms that the caller brought
  pub has_room : 0 < times_room leaf know.purse.rooms → HasGuestRoom now.book
  has_room some = subst HasGuestRoom (sym came.book) (leaf, came.own, some)

  -- of entries about a range that the caller holds, the whole history has those that the caller had seen
  pub about_here : (range : Range) → 0 < times_range range know.purse.holds
      → filter (leaf_entry_is_about range) (leaf_history owner.book.seen leaf)
      ≡ filter (leaf_entry_is_about range) (leaf_history know.seen leaf)
  about_here range has = ap (filter (leaf_entry_is_about range)) (sym came.whole)
      ∙ about_from_book range leaf now.book.seen know.seen (came.held range (of.Leaf leaf) has)

  -- the caller had seen the beginning of it
  pub front_here : BeginsWith (leaf_history owner.book.seen leaf) (leaf_history know.seen leaf)
  front_here = front leaf know owner.book (without_notes now.hints.hints) cut came.own fronts_is whole_is held_is
      (sym came.counted) refl

-- ---- what the caller found

module _ (leaf : Leaf) (history added : List Entry) (rooms : RoomMove) (before after : Knowledge)
    (gone : HasGone leaf history added rooms before after) where
  pub finds_up : is_down history ≡ false
      → HasFoundUp leaf added (rooms_after rooms (of.Leaf leaf) before.purse.rooms) before after
  finds_up up = record {
    history = history;
    up = up;
    called = gone.called;
    rooms_are = gone.rooms_are;
    handed = gone.handed;
  }

module _ (leaf : Leaf) (history : List Entry) (rooms : RoomMove) (before after : Knowledge)
    (gone : HasGone leaf history [] rooms before after) where
  pub finds_down : (cut : ℕ) → is_down history ≡ true → length history ≡ cut
      → HasFoundDown leaf cut (rooms_after rooms (of.Leaf leaf) before.purse.rooms) before after
  finds_down cut down counted = record {
    history = history;
    down = down;
    counted = counted;
    called = gone.called;
    rooms_are = gone.rooms_are;
    handed = gone.handed;
  }

  pub looks : HasLooked leaf (rooms_after rooms (of.Leaf leaf) before.purse.rooms) before after
  looks = record { history = history; called = gone.called; rooms_are = gone.rooms_are; handed = gone.handed }

-- its number, once it was seen that it has one
pub has_number : (know : Knowledge) (n : ℕ) → Some n ≡ (hand_of know.purse).own
    → (hand_of know.purse).own ≡ Some (pass_of know)
has_number know n is = sym is ∙ ap (λ own. Some (number_or 0 own)) is
