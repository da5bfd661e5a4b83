-- What a caller has carried through a write at its range's cell, from before the lock to behind it.
use Rattle.std.proofs.Common.{◌≡◌, ℕ, ◌+◌, ◌≤◌, false, List, [], ◌∷◌, ◌++◌, length, take}
use Rattle.std.specs.Prelude.{Contains}
use Rattle.std.proofs.Common.{sym, ap, subst, ◌∙◌, arith}
use mathlib.Core.List.{IsPrefix}
use Rattle.std.proofs.lemmas.List.{append-nil, append_assoc}
use Rattle.std.proofs.lemmas.List.Elements.{Contains-append_left, Contains-append_right}
use Rattle.history_book.proofs.ListLemmas.{prefix_length}
use Rattle.history_book.specs.Histories.{AreFronts}
use Rattle.history_book.specs.Seats.{length_note, times_room}
use Rattle.history_book.specs.declared.views.LengthNote.{LengthNote}
use Rattle.know.specs.Knowledge.{Knowledge}
use Rattle.mon_config.specs.declared.config.Config.{Config}
use Rattle.mon_topo.proofs.FrontLemmas.{begins_from, begins_itself, begins_length, take_on}
use Rattle.mon_topo.proofs.HeldLemmas.{down_on}
use Rattle.mon_topo.specs.HeldHistories.{BeginsWith}
use Rattle.mon_topo.specs.Settings.{Setting}
use Rattle.mon_topo.specs.Zones.{leaves_in}
use Rattle.mon_value.specs.Histories.{leaf_history, range_history}
use Rattle.mon_value.specs.LeafHistories.{IsDownAt, is_down}
use Rattle.mon_value.specs.declared.histories.Entry.{Entry}
use Rattle.mon_value.specs.declared.histories.RangeEntry.{RangeEntry}
use Rattle.mon_value.specs.declared.positions.Leaf.{Leaf}
use Rattle.mon_value.specs.declared.positions.Range.{Range}
use Rattle.mon_store.proofs.WriteLemmas.{IsCarried, no_rooms}
use Rattle.mon_store.specs.Passes.{IsPass}
use Rattle.mon_store.specs.Writes.{WasFoundSo}
use Rattle.running_query.specs.Ends.{WasFoundDown, WasFoundUp}
use Rattle.range_cell.specs.Calls.{HasBegun, HasMetRange}
use Rattle.range_cell.specs.Rest.{others}
use Rattle.range_cell.specs.Writing.{IsNotedSince}
use Rattle.running_query.proofs.GoingLemmas.{fronts_through}

-- from the range's lock to the last of its leaves
pub record HasGoneOver (begun mid : Knowledge) : Type 0 where
  pub fronts : AreFronts begun.seen mid.seen
  pub rooms : (leaf : Leaf) → times_room leaf mid.purse.rooms ≡ times_room leaf begun.purse.rooms + 0
  pub more : List LengthNote
  pub notes : mid.purse.notes ≡ begun.purse.notes ++ more
  pub holds : mid.purse.holds ≡ begun.purse.holds
  pub met : mid.purse.met ≡ begun.purse.met
  pub stock : mid.purse.stock ≡ begun.purse.stock
  pub lost : mid.purse.lost ≡ begun.purse.lost
  pub handed : mid.handed ≡ begun.handed

-- the range was given back, where it had this history
pub record HasReturned (leaves : ℕ) (range : Range) (history : List RangeEntry) (mid after : Knowledge) : Type 0 where
  pub fronts : AreFronts mid.seen after.seen
  pub notes : after.purse.notes ≡ mid.purse.notes ++ length_note (leaves + range.0) (length history) ∷ []
  pub met : after.purse.met ≡ mid.purse.met
  pub stock : after.purse.stock ≡ mid.purse.stock
  pub lost : after.purse.lost ≡ mid.purse.lost
  pub rooms : after.purse.rooms ≡ mid.purse.rooms
  pub holding : after.purse.holds ≡ others range mid.purse.holds
  pub handed : after.handed ≡ mid.handed

pub front_begins : {X : Type 0} (now was : List X) → IsPrefix was now → BeginsWith now was
front_begins now was p = begins_from now was p.0 (sym p.1)

-- ---- a call that only asked

module _ (setting : Setting) (config : Config) (leaves : ℕ) (range : Range) (before after : Knowledge)
    (is : IsPass setting before) (counted : leaves ≡ length (leaves_in config.topology)) where
  pub asked_carried : HasMetRange leaves range before.purse.holds before after → IsCarried before after
  asked_carried met = record {
    fronts = met.fronts;
    met = met.met;
    stock = met.stock;
    lost = met.lost;
    handed = met.handed;
    holds = met.holding ∙ is.holds;
    rooms = met.rooms ∙ is.rooms;
  }

  pub asked_found : HasMetRange leaves range before.purse.holds before after
      → WasFoundSo config range (range_history after.seen range) before after
  asked_found met =
      let now = range_history after.seen range in
      record {
        more = [];
        notes = met.notes
            ∙ ap (λ (n : ℕ). before.purse.notes ++ length_note (n + range.0) (length now) ∷ []) counted
            ∙ ap (λ (xs : List LengthNote).
            xs ++ length_note (length (leaves_in config.topology) + range.0) (length now) ∷ [])
            (sym (append-nil before.purse.notes));
        from = front_begins now (range_history before.seen range) (met.fronts.1 range);
        to = begins_itself now;
      }

  -- ---- a call that went over the leaves

  module _ (history : List RangeEntry) (begun mid : Knowledge) (begins : HasBegun leaves range history before begun)
      (over : HasGoneOver begun mid) (back : HasReturned leaves range history mid after) where
    seen_all : AreFronts before.seen after.seen
    seen_all = fronts_through before.seen mid.seen after.seen
        (fronts_through before.seen begun.seen mid.seen begins.met.fronts over.fronts) back.fronts

    pub seen_since : AreFronts begun.seen after.seen
    seen_since = fronts_through begun.seen mid.seen after.seen over.fronts back.fronts

    none_held : after.purse.holds ≡ []
    none_held =
        back.holding ∙ ap (others range) (over.holds ∙ begins.met.holding
        ∙ ap (λ (xs : List Range). begins.lent ++ xs) is.holds ∙ append-nil begins.lent) ∙ begins.only

    room_counts : (leaf : Leaf) → times_room leaf after.purse.rooms ≡ 0
    room_counts leaf =
        let a : times_room leaf after.purse.rooms ≡ times_room leaf mid.purse.rooms = ap (times_room leaf) back.rooms in
        let b : times_room leaf mid.purse.rooms ≡ times_room leaf begun.purse.rooms + 0 = over.rooms leaf in
        let c : times_room leaf begun.purse.rooms ≡ 0 = ap (times_room leaf) (begins.met.rooms ∙ is.rooms) in
        omega arith

    pub over_carried : IsCarried before after
    over_carried = record {
      fronts = seen_all;
      met = back.met ∙ over.met ∙ begins.met.met;
      stock = back.stock ∙ over.stock ∙ begins.met.stock;
      lost = back.lost ∙ over.lost ∙ begins.met.lost;
      handed = back.handed ∙ over.handed ∙ begins.met.handed;
      holds = none_held;
      rooms = no_rooms after.purse.rooms room_counts;
    }

    abbrev first_note : LengthNote
    first_note = length_note (leaves + range.0) (length (range_history begun.seen range))

    abbrev last_note : LengthNote
    last_note = length_note (leaves + range.0) (length history)

    notes_all : (more : List LengthNote) → mid.purse.notes ≡ begun.purse.notes ++ more
        → after.purse.notes ≡ before.purse.notes ++ (first_note ∷ more) ++ last_note ∷ []
    notes_all more noted =
        back.notes
        ∙ ap (λ (xs : List LengthNote). xs ++ last_note ∷ [])
        (noted ∙ ap (λ (xs : List LengthNote). xs ++ more) begins.met.notes
        ∙ append_assoc before.purse.notes (first_note ∷ []) more)

    -- its range was found with that history
    pub over_found : BeginsWith (range_history after.seen range) history → WasFoundSo config range history before after
    over_found to = record {
      more = first_note ∷ over.more;
      notes = notes_all over.more over.notes
          ∙ ap (λ (n : ℕ). before.purse.notes ++ (first_note ∷ over.more) ++ length_note (n + range.0) (length history)
          ∷ []) counted;
      from = subst (λ (h : List RangeEntry). BeginsWith h (range_history before.seen range)) begins.whole
          (front_begins (range_history begun.seen range) (range_history before.seen range)
          (begins.met.fronts.1 range));
      to = to;
    }

    -- a length that was noted on the way was noted in the call
    record IsNotedIn (leaf : Leaf) (cut : ℕ) : Type 0 where
      more : List LengthNote
      notes : after.purse.notes ≡ before.purse.notes ++ more
      noted : Contains more (length_note leaf.0 cut)
      from : length (leaf_history before.seen leaf) ≤ cut

    noted_over : (leaf : Leaf) (cut : ℕ) → IsNotedSince begun mid leaf cut → IsNotedIn leaf cut
    noted_over leaf cut noted = record {
      more = (first_note ∷ noted.more) ++ last_note ∷ [];
      notes = notes_all noted.more noted.notes
          ∙ append_assoc before.purse.notes (first_note ∷ noted.more) (last_note ∷ []);
      noted = Contains-append_left (first_note ∷ noted.more) (last_note ∷ []) (length_note leaf.0 cut)
          (Contains-append_right (first_note ∷ []) noted.more (length_note leaf.0 cut) noted.noted);
      from = at_most (length (leaf_history before.seen leaf)) (length (leaf_history begun.seen leaf)) cut
          (prefix_length (leaf_history before.seen leaf) (leaf_history begun.seen leaf) (begins.met.fronts.0 leaf))
          noted.low;
    }
      where
        at_most : (a b c : ℕ) → a ≤ b → b ≤ c → a ≤ c
        at_most a b c p q = omega arith

    -- and what was down, or up, at such a length was found so in the call
    pub over_down : (leaf : Leaf) (cut : ℕ) → IsDownAt (leaf_history mid.seen leaf) cut
        → IsNotedSince begun mid leaf cut → WasFoundDown before after leaf cut
    over_down leaf cut down noted =
        let is : IsNotedIn leaf cut = noted_over leaf cut noted in
        record {
          more = is.more;
          notes = is.notes;
          noted = is.noted;
          from = is.from;
          down = down_on (leaf_history after.seen leaf) (leaf_history mid.seen leaf) cut
              (front_begins (leaf_history after.seen leaf) (leaf_history mid.seen leaf) (back.fronts.0 leaf)) down;
        }

    pub over_up : (leaf : Leaf) (cut : ℕ) → cut ≤ length (leaf_history mid.seen leaf)
        → is_down (take cut (leaf_history mid.seen leaf)) ≡ false → IsNotedSince begun mid leaf cut
        → WasFoundUp before after leaf cut
    over_up leaf cut within up noted =
        let is : IsNotedIn leaf cut = noted_over leaf cut noted in
        let was = leaf_history mid.seen leaf in
        let now = leaf_history after.seen leaf in
        let begin_so : BeginsWith now was = front_begins now was (back.fronts.0 leaf) in
        let long = begins_length now was begin_so in
        record {
          more = is.more;
          notes = is.notes;
          noted = is.noted;
          from = is.from;
          seen_by_then = omega (arith, long, within);
          up = ap (λ (h : List Entry). is_down h) (take_on now was cut begin_so within) ∙ up;
        }
