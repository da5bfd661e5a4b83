-- Each leaf that a session is told is down was found so in the call: its length is noted, and it was down there; and no
-- other was.
use Rattle.std.proofs.Common.{◌≡◌, ◌∙◌, ◌≤◌, ℕ, ℤ, zero, suc, Bool, true, false, cond, List, [], ◌∷◌, ◌++◌, length, take}
use Rattle.std.proofs.Common.{refl, sym, ap, append_assoc, arith}
use Rattle.std.specs.List.{AllByRecursion as All, Contains}
use Rattle.std.proofs.lemmas.List.{append-nil, get_or_past, map-append}
use Rattle.std.proofs.lemmas.List.Elements.{Contains-append_left, Contains-append_right}
use Rattle.history_book.specs.Seats.{length_note}
use Rattle.history_book.specs.declared.views.LengthNote.{LengthNote}
use Rattle.mon_topo.proofs.FrontLemmas.{begins_length, take_on}
use Rattle.mon_topo.proofs.HeldLemmas.{seen_within_itself, seen_within_through}
use Rattle.mon_topo.proofs.RangeHistoryLemmas.{all_append, all_on}
use Rattle.mon_topo.specs.HeldHistories.{AreWithin}
use Rattle.mon_topo.specs.Settings.{Setting}
use Rattle.mon_topo.specs.Views.{View}
use Rattle.mon_topo.specs.Zones.{leaves_in}
use Rattle.mon_value.specs.Histories.{leaf_history, leaf_numbered, range_history}
use Rattle.mon_value.specs.LeafHistories.{IsDownAt, is_down}
use Rattle.mon_value.specs.declared.histories.Entry.{Entry}
use Rattle.mon_value.specs.declared.histories.Histories.{Histories}
use Rattle.mon_value.specs.declared.positions.FoundDown.{FoundDown}
use Rattle.mon_value.specs.declared.positions.Leaf.{Leaf}
use Rattle.mon_value.specs.declared.positions.Range.{Range}
use Rattle.mon_value.specs.declared.positions.RangeSlot.{RangeSlot}
use Rattle.query_traces.specs.Founds.{found_down}
use Rattle.query_core.specs.Machine.{Query, avoided_after, slots_at}
use Rattle.query_core.specs.Program.{ask_of}
use Rattle.query_core.specs.Sessions as session
use Rattle.query_traces.specs.TrueAnswers as truth
use Rattle.query_traces.specs.Rounds.{QuerySetting}
use Rattle.query_core.specs.ToldDowns.{down_told, downs_told}
use Rattle.query_traces.specs.Traces.{found_leaves}
use Rattle.query_traces.specs.declared.asks.Told.{Told}
use Rattle.query_traces.specs.declared.asks.Told.TheVariants as told
use Rattle.query_core.specs.declared.stages.Stage.{Stage}
use Rattle.query_core.specs.declared.stages.Stage.TheVariants as at
use Rattle.running_query.specs.Ends.{down_noted, downs_noted}
use Rattle.running_query.specs.Notes.{lengths_of, lengths_told, range_number}

-- a leaf was down at a length that is among some notes, no less than what had been seen of it at entry
pub record IsNotedDown (notes : List LengthNote) (at_entry now : Histories) (found : FoundDown) : Type 0 where
  pub noted : Contains notes (length_note found.leaf.0 found.cut)
  pub from : length (leaf_history at_entry found.leaf) ≤ found.cut
  pub down : IsDownAt (leaf_history now found.leaf) found.cut

abbrev pub AreNotedDown : List LengthNote → Histories → Histories → List FoundDown → Type 0
AreNotedDown notes at_entry now = All (IsNotedDown notes at_entry now)

-- histories go on, and there are more notes
later_down : (notes more : List LengthNote) (at_entry before after : Histories) → AreWithin before after
    → ((one : LengthNote) → Contains notes one → Contains more one)
    → (founds : List FoundDown) → AreNotedDown notes at_entry before founds → AreNotedDown more at_entry after founds
later_down notes more at_entry before after within among founds all =
    all_on (IsNotedDown notes at_entry before) (IsNotedDown more at_entry after) one_later founds all
  where
    one_later : (found : FoundDown) → IsNotedDown notes at_entry before found → IsNotedDown more at_entry after found
    one_later found is =
        let was : List Entry = leaf_history before found.leaf in
        let now : List Entry = leaf_history after found.leaf in
        let begins = within.leaves found.leaf in
        let long = begins_length now was begins in
        record {
          noted = among (length_note found.leaf.0 found.cut) is.noted;
          from = is.from;
          down = record {
            seen_by_then = omega (arith, long, is.down.seen_by_then);
            down = ap (λ (h : List Entry). is_down h) (take_on now was found.cut begins is.down.seen_by_then)
                ∙ is.down.down;
          };
        }

module _ (store : Setting) (setting : QuerySetting) (moment : ℤ) where
  -- one answer
  module _ (at_entry : Histories) (before after : View) (since : AreWithin at_entry before.seen) (avoided : List Leaf)
      (slots : List RangeSlot) where
    abbrev TrueAt : Stage → Told → Type 0
    TrueAt stage answer =
        truth.IsTrueAnswer store setting moment before after avoided slots (ask_of setting stage) answer

    abbrev NotedAt : Stage → Told → Type 0
    NotedAt stage answer =
        AreNotedDown (lengths_of store (ask_of setting stage) after) at_entry after.seen (down_told stage answer)

    one_down : (stage : Stage) (answer : Told) → TrueAt stage answer → NotedAt stage answer
    one_down (at.Visiting course round visits leaf) (told.Down cut) is = (
      record {
        noted = (0, omega arith, ap (λ (n : ℕ). length_note leaf.0 n) (sym is.whole));
        from = omega (
          arith,
          is.between.from,
          begins_length (leaf_history before.seen leaf) (leaf_history at_entry leaf) (since.leaves leaf),
        );
        down = record { seen_by_then = is.between.to; down = is.is };
      },
      tt,
    )
    one_down (at.Visiting course round visits leaf) (told.Word word seen) is = tt
    one_down (at.Visiting course round visits leaf) (told.Slot slot other) is = tt
    one_down (at.Visiting course round visits leaf) told.NoSlot is = tt
    one_down (at.Visiting course round visits leaf) (told.Unread cut) is = tt
    one_down (at.Visiting course round visits leaf) (told.Read cut part) is = tt
    one_down (at.Visiting course round visits leaf) (told.Over load cut) is = tt
    one_down (at.Rooting loading) answer is = tt
    one_down (at.Entering course round loading) answer is = tt
    one_down (at.Resolving course round range) answer is = tt
    one_down (at.Reloading course round loading) answer is = tt
    one_down (at.Ended end) answer is = tt

  pub seen_since : (events : List (session.Event store setting moment)) (before : View) (query : Query)
      → session.IsLicensed store setting moment before query events
      → AreWithin before.seen (session.view_after store setting moment before events).seen
  seen_since [] before query licensed = seen_within_itself before.seen
  seen_since (event ∷ events) before query licensed =
      seen_within_through before.seen event.view.seen (session.view_after store setting moment event.view events).seen
      licensed.0.grown.seen
      (seen_since events event.view (session.told_then store setting moment query event) licensed.1)

  -- all of a session
  pub each_noted : (at_entry : Histories) (events : List (session.Event store setting moment)) (before : View)
      (query : Query) → AreWithin at_entry before.seen → session.IsLicensed store setting moment before query events
      → AreNotedDown (lengths_told store setting moment query events) at_entry
      (session.view_after store setting moment before events).seen (downs_told store setting moment query events)
  each_noted at_entry [] before query since licensed = tt
  each_noted at_entry (event ∷ events) before query since licensed =
      let next = session.told_then store setting moment query event in
      let first = lengths_of store (ask_of setting query.stage) event.view in
      let rest = lengths_told store setting moment next events in
      let exit = session.view_after store setting moment event.view events in
      let since_then = seen_within_through at_entry before.seen event.view.seen since licensed.0.grown.seen in
      all_append (IsNotedDown (first ++ rest) at_entry exit.seen) (down_told query.stage event.answer)
      (downs_told store setting moment next events)
      (later_down first (first ++ rest) at_entry event.view.seen exit.seen
      (seen_since events event.view next licensed.1)
      (λ one there. Contains-append_left first rest one there) (down_told query.stage event.answer)
      (one_down at_entry before event.view since query.avoided (slots_at query) query.stage event.answer
      licensed.0.true_then))
      (later_down rest (first ++ rest) at_entry exit.seen exit.seen
      (seen_within_itself exit.seen)
      (λ one there. Contains-append_right first rest one there) (downs_told store setting moment next events)
      (each_noted at_entry events event.view next since_then licensed.1))

  -- ---- those that notes tell of are those that were told

  module _ (exit : Histories) (counted : length exit.leaves ≡ length (leaves_in store.zones)) where
    noted_append : (notes more : List LengthNote)
        → downs_noted exit (notes ++ more) ≡ downs_noted exit notes ++ downs_noted exit more
    noted_append [] more = refl
    noted_append (note ∷ notes) more =
        ap (λ (some : List FoundDown). down_noted exit note ++ some) (noted_append notes more)
        ∙ sym (append_assoc (down_noted exit note) (downs_noted exit notes) (downs_noted exit more))

    -- one note of a leaf that is down, or up
    noted_down : (leaf : Leaf) (cut : ℕ) → is_down (take cut (leaf_history exit leaf)) ≡ true
        → downs_noted exit (length_note leaf.0 cut ∷ []) ≡ found_down leaf cut ∷ []
    noted_down leaf cut e = ap (λ (b : Bool). cond b (found_down leaf cut ∷ []) [] ++ []) e

    noted_up : (leaf : Leaf) (cut : ℕ) → is_down (take cut (leaf_history exit leaf)) ≡ false
        → downs_noted exit (length_note leaf.0 cut ∷ []) ≡ []
    noted_up leaf cut e = ap (λ (b : Bool). cond b (found_down leaf cut ∷ []) [] ++ []) e

    -- and one of a range
    noted_range : (range : Range) (n : ℕ) → downs_noted exit (length_note (range_number store range) n ∷ []) ≡ []
    noted_range range n =
        let leaf : Leaf = leaf_numbered (range_number store range) in
        let none : leaf_history exit leaf ≡ [] =
        get_or_past exit.leaves leaf.0 [] (omega (arith, counted)) in
        noted_up leaf n (ap (λ (h : List Entry). is_down (take n h)) none ∙ nothing_down n)
      where
        no_entries : List Entry
        no_entries = []

        nothing_down : (n : ℕ) → is_down (take n no_entries) ≡ false
        nothing_down zero = refl
        nothing_down (suc n) = refl

    module _ (before after : View) (within : AreWithin after.seen exit) (avoided : List Leaf) (slots : List RangeSlot)
      where
        found_then : (leaf : Leaf) (cut : ℕ) (down : Bool) → truth.IsFoundSo before after leaf cut down
            → is_down (take (length (leaf_history after.seen leaf)) (leaf_history exit leaf)) ≡ down
        found_then leaf cut down is =
            ap (λ (n : ℕ). is_down (take n (leaf_history exit leaf))) (sym is.whole)
            ∙ ap (λ (h : List Entry). is_down h)
            (take_on (leaf_history exit leaf) (leaf_history after.seen leaf) cut (within.leaves leaf) is.between.to)
            ∙ is.is

        one_noted : (stage : Stage) (answer : Told)
            → truth.IsTrueAnswer store setting moment before after avoided slots (ask_of setting stage) answer
            → downs_noted exit (lengths_of store (ask_of setting stage) after) ≡ down_told stage answer
        one_noted (at.Visiting course round visits leaf) (told.Down cut) is =
            noted_down leaf (length (leaf_history after.seen leaf)) (found_then leaf cut true is)
            ∙ ap (λ (n : ℕ). found_down leaf n ∷ []) (sym is.whole)
        one_noted (at.Visiting course round visits leaf) (told.Unread cut) is =
            noted_up leaf (length (leaf_history after.seen leaf)) (found_then leaf cut false is.0)
        one_noted (at.Visiting course round visits leaf) (told.Read cut part) is =
            noted_up leaf (length (leaf_history after.seen leaf)) (found_then leaf cut false is.0)
        one_noted (at.Visiting course round visits leaf) (told.Over load cut) is =
            noted_up leaf (length (leaf_history after.seen leaf)) (found_then leaf cut false is.0)
        one_noted (at.Visiting course round visits leaf) (told.Word word seen) is = absurd is
        one_noted (at.Visiting course round visits leaf) (told.Slot slot other) is = absurd is
        one_noted (at.Visiting course round visits leaf) told.NoSlot is = absurd is
        one_noted (at.Resolving course round range) answer is =
            noted_range range (length (range_history after.seen range))
        one_noted (at.Rooting loading) answer is = refl
        one_noted (at.Entering course round loading) answer is = refl
        one_noted (at.Reloading course round loading) answer is = refl
        one_noted (at.Ended end) answer is = refl

    pub downs_are_noted : (events : List (session.Event store setting moment)) (before : View) (query : Query)
        → session.IsLicensed store setting moment before query events
        → AreWithin (session.view_after store setting moment before events).seen exit
        → downs_noted exit (lengths_told store setting moment query events)
        ≡ downs_told store setting moment query events
    downs_are_noted [] before query licensed within = refl
    downs_are_noted (event ∷ events) before query licensed within =
        let next = session.told_then store setting moment query event in
        let first = lengths_of store (ask_of setting query.stage) event.view in
        let rest = lengths_told store setting moment next events in
        let within_one = seen_within_through event.view.seen
        (session.view_after store setting moment event.view events).seen exit
        (seen_since events event.view next licensed.1) within in
        noted_append first rest
        ∙ ap (λ (some : List FoundDown). some ++ downs_noted exit rest)
        (one_noted before event.view within_one query.avoided (slots_at query) query.stage event.answer
        licensed.0.true_then)
        ∙ ap (λ (some : List FoundDown). down_told query.stage event.answer ++ some)
        (downs_are_noted events event.view next licensed.1 within)

  -- ---- the leaves that are avoided are those that were told down

  one_avoided : (avoided : List Leaf) (stage : Stage) (answer : Told)
      → avoided_after avoided stage answer ≡ avoided ++ found_leaves (down_told stage answer)
  one_avoided avoided (at.Visiting course round visits leaf) (told.Down cut) = refl
  one_avoided avoided (at.Visiting course round visits leaf) (told.Word word seen) = sym (append-nil avoided)
  one_avoided avoided (at.Visiting course round visits leaf) (told.Slot slot other) = sym (append-nil avoided)
  one_avoided avoided (at.Visiting course round visits leaf) told.NoSlot = sym (append-nil avoided)
  one_avoided avoided (at.Visiting course round visits leaf) (told.Unread cut) = sym (append-nil avoided)
  one_avoided avoided (at.Visiting course round visits leaf) (told.Read cut part) = sym (append-nil avoided)
  one_avoided avoided (at.Visiting course round visits leaf) (told.Over load cut) = sym (append-nil avoided)
  one_avoided avoided (at.Rooting loading) (told.Word word seen) = sym (append-nil avoided)
  one_avoided avoided (at.Rooting loading) (told.Slot slot other) = sym (append-nil avoided)
  one_avoided avoided (at.Rooting loading) told.NoSlot = sym (append-nil avoided)
  one_avoided avoided (at.Rooting loading) (told.Down cut) = sym (append-nil avoided)
  one_avoided avoided (at.Rooting loading) (told.Unread cut) = sym (append-nil avoided)
  one_avoided avoided (at.Rooting loading) (told.Read cut part) = sym (append-nil avoided)
  one_avoided avoided (at.Rooting loading) (told.Over load cut) = sym (append-nil avoided)
  one_avoided avoided (at.Entering course round loading) (told.Word word seen) = sym (append-nil avoided)
  one_avoided avoided (at.Entering course round loading) (told.Slot slot other) = sym (append-nil avoided)
  one_avoided avoided (at.Entering course round loading) told.NoSlot = sym (append-nil avoided)
  one_avoided avoided (at.Entering course round loading) (told.Down cut) = sym (append-nil avoided)
  one_avoided avoided (at.Entering course round loading) (told.Unread cut) = sym (append-nil avoided)
  one_avoided avoided (at.Entering course round loading) (told.Read cut part) = sym (append-nil avoided)
  one_avoided avoided (at.Entering course round loading) (told.Over load cut) = sym (append-nil avoided)
  one_avoided avoided (at.Resolving course round range) (told.Word word seen) = sym (append-nil avoided)
  one_avoided avoided (at.Resolving course round range) (told.Slot slot other) = sym (append-nil avoided)
  one_avoided avoided (at.Resolving course round range) told.NoSlot = sym (append-nil avoided)
  one_avoided avoided (at.Resolving course round range) (told.Down cut) = sym (append-nil avoided)
  one_avoided avoided (at.Resolving course round range) (told.Unread cut) = sym (append-nil avoided)
  one_avoided avoided (at.Resolving course round range) (told.Read cut part) = sym (append-nil avoided)
  one_avoided avoided (at.Resolving course round range) (told.Over load cut) = sym (append-nil avoided)
  one_avoided avoided (at.Reloading course round loading) (told.Word word seen) = sym (append-nil avoided)
  one_avoided avoided (at.Reloading course round loading) (told.Slot slot other) = sym (append-nil avoided)
  one_avoided avoided (at.Reloading course round loading) told.NoSlot = sym (append-nil avoided)
  one_avoided avoided (at.Reloading course round loading) (told.Down cut) = sym (append-nil avoided)
  one_avoided avoided (at.Reloading course round loading) (told.Unread cut) = sym (append-nil avoided)
  one_avoided avoided (at.Reloading course round loading) (told.Read cut part) = sym (append-nil avoided)
  one_avoided avoided (at.Reloading course round loading) (told.Over load cut) = sym (append-nil avoided)
  one_avoided avoided (at.Ended end) (told.Word word seen) = sym (append-nil avoided)
  one_avoided avoided (at.Ended end) (told.Slot slot other) = sym (append-nil avoided)
  one_avoided avoided (at.Ended end) told.NoSlot = sym (append-nil avoided)
  one_avoided avoided (at.Ended end) (told.Down cut) = sym (append-nil avoided)
  one_avoided avoided (at.Ended end) (told.Unread cut) = sym (append-nil avoided)
  one_avoided avoided (at.Ended end) (told.Read cut part) = sym (append-nil avoided)
  one_avoided avoided (at.Ended end) (told.Over load cut) = sym (append-nil avoided)

  pub avoided_told : (events : List (session.Event store setting moment)) (query : Query)
      → (session.query_after store setting moment query events).avoided
      ≡ query.avoided ++ found_leaves (downs_told store setting moment query events)
  avoided_told [] query = sym (append-nil query.avoided)
  avoided_told (event ∷ events) query =
      let next = session.told_then store setting moment query event in
      let first = down_told query.stage event.answer in
      let rest = downs_told store setting moment next events in
      avoided_told events next
      ∙ ap (λ (some : List Leaf). some ++ found_leaves rest) (one_avoided query.avoided query.stage event.answer)
      ∙ append_assoc query.avoided (found_leaves first) (found_leaves rest)
      ∙ ap (λ (some : List Leaf). query.avoided ++ some)
      (sym (map-append (λ (found : FoundDown). found.leaf) first rest))
