-- A caller that holds a range and looks at leaves knows of the range's replicas what it knew.
use Rattle.std.proofs.Common.{◌≡◌, ℕ, ◌<◌, ◌≤◌, Bool, true, false, ◌&&◌, cond, nat_eq, List, [], ◌∷◌, ◌++◌, length}
use Rattle.std.proofs.Common.{filter, take, refl}
use Rattle.std.proofs.Common.{sym, ap, subst, ◌∙◌, arith, inl, inr, ◌⊎◌, Some, None, append-nil, append_assoc}
use Rattle.std.specs.List.{AllByRecursion}
use Rattle.std.specs.Prelude.{Contains, Option, option_map}
use Rattle.std.proofs.lemmas.Bool.{cases_eq}
use Rattle.std.proofs.lemmas.List.{take_all}
use Rattle.std.proofs.lemmas.List.Elements.{Contains-append_cases, Contains-push}
use Rattle.history_book.proofs.ListLemmas.{prefix_trans}
use Rattle.history_book.specs.Histories.{leaf_entry_is_about}
use Rattle.history_book.specs.Seats.{length_note, times_range}
use Rattle.history_book.specs.declared.views.Kept.{Kept}
use Rattle.know.specs.Knowledge.{Knowledge}
use Rattle.mon_topo.proofs.FrontLemmas.{begins_from, begins_length, take_on}
use Rattle.mon_topo.proofs.HeldLemmas.{leaf_same}
use Rattle.mon_topo.specs.HeldHistories.{BeginsWith}
use Rattle.mon_topo.specs.RangeHistories.{left_rows, serving}
use Rattle.mon_topo.specs.Settings.{Setting}
use Rattle.mon_value.specs.Histories.{leaf_history, range_history}
use Rattle.mon_value.specs.LeafHistories.{IsDownAt, begun_rows, first_rows, is_down, kept_rows}
use Rattle.mon_value.specs.Turns.{after_turns}
use Rattle.mon_value.specs.declared.histories.Entry.{Entry}
use Rattle.mon_value.specs.declared.histories.Entry.TheVariants as entry
use Rattle.mon_value.specs.declared.histories.RangeEntry.{RangeEntry}
use Rattle.mon_value.specs.declared.positions.FoundDown.{FoundDown}
use Rattle.mon_value.specs.declared.positions.Leaf.{Leaf}
use Rattle.mon_value.specs.declared.positions.Range.{Range}
use Rattle.mon_value.specs.declared.positions.Slot.{Slot}
use Rattle.mon_value.specs.declared.positions.SlotLeaf.{SlotLeaf}
use Rattle.mon_value.specs.declared.rows.Row.{Row}
use Rattle.owners.proofs.EntryLemmas.{same_opened, same_turns}
use Rattle.owners.specs.Calls.{HasCalled, kept_with_all}
use Rattle.owners.specs.Puts.{number_or, pass_of}
use Rattle.range_cell.proofs.CallLemmas.{down_stays, noted_stays}
use Rattle.range_cell.specs.Copying.{IsHolding}
use Rattle.range_cell.specs.Recoveries.{HasSameEntries, IsFoundDown, IsFoundUp, IsLooking}
use Rattle.range_cell.specs.Rest.{HaveJust}
use Rattle.range_cell.specs.Writing.{IsNotedSince}
use Rattle.write_core.proofs.AckLemmas.{contains_one}
use Rattle.write_core.specs.CopySteps.{next_slot}

pub none_kept : (leaf : Leaf) (own : Option Kept) → option_map (kept_with_all leaf []) own ≡ own
none_kept leaf None = refl
none_kept leaf (Some kept) = refl

-- ---- one look

module _ (leaf : Leaf) (history : List Entry) (old new : Knowledge) (called : HasCalled leaf history [] old new)
    (range : Range) (held : 0 < times_range range old.purse.holds) where
  whole : leaf_history new.seen leaf ≡ history
  whole = called.whole ∙ append-nil history

  -- the entries about the range are the same on every leaf
  pub same_entries : (at : Leaf) → HasSameEntries range (leaf_history old.seen at) (leaf_history new.seen at)
  same_entries at =
      elim (cases_eq at.0 leaf.0) [
        | inl same ↦
            subst (λ (l : Leaf). HasSameEntries range (leaf_history old.seen l) (leaf_history new.seen l))
            (sym (leaf_same at leaf same))
            (ap (filter (leaf_entry_is_about range)) whole ∙ called.here range held)
        | inr apart ↦ called.elsewhere range at held apart
      ]

-- who has seen all entries about a range knows what a replica keeps
begun_elsewhere : (range : Range) (slot : Slot) (e : Entry) → leaf_entry_is_about range e ≡ false
    → begun_rows range slot e ≡ []
begun_elsewhere range slot (entry.Opened pass other place rows) away =
    ap (λ b. cond (b && nat_eq slot.0 place.0) rows []) away
begun_elsewhere range slot (entry.Put pass other place row) away = refl
begun_elsewhere range slot (entry.Trim pass other place before) away = refl
begun_elsewhere range slot (entry.Down pass) away = refl
begun_elsewhere range slot (entry.Up pass) away = refl

module _ (range : Range) (slot : Slot) where
  first_by : (e : Entry) (history : List Entry) (b : Bool) → leaf_entry_is_about range e ≡ b
      → first_rows range slot history ≡ first_rows range slot (filter (leaf_entry_is_about range) history)
      → first_rows range slot (e ∷ history)
      ≡ first_rows range slot (cond b (e ∷ filter (leaf_entry_is_about range) history)
      (filter (leaf_entry_is_about range) history))
  first_by e history true is rest = ap (λ rows. begun_rows range slot e ++ rows) rest
  first_by e history false is rest =
      ap (λ rows. rows ++ first_rows range slot history) (begun_elsewhere range slot e is) ∙ rest

  first_of_about : (history : List Entry)
      → first_rows range slot history ≡ first_rows range slot (filter (leaf_entry_is_about range) history)
  first_of_about [] = refl
  first_of_about (e ∷ history) =
      first_by e history (leaf_entry_is_about range e) refl (first_of_about history)

  pub same_kept : (old new : List Entry) → HasSameEntries range old new
      → kept_rows range slot new ≡ kept_rows range slot old
  same_kept old new same =
      let first : first_rows range slot new ≡ first_rows range slot old =
      first_of_about new ∙ ap (first_rows range slot) same ∙ sym (first_of_about old) in
      λ i. after_turns (first i) (same_turns range slot new old same i)

-- so what is known of the replicas that serve stays
pub same_just : (range : Range) (history : List RangeEntry) (old new : Knowledge)
    → ((leaf : Leaf) → HasSameEntries range (leaf_history old.seen leaf) (leaf_history new.seen leaf))
    → HaveJust old.seen range history → HaveJust new.seen range history
same_just range history old new same just = record {
  turns = λ replica there.
      let was = just.turns replica there in
      let is = same replica.leaf in
      record {
        opened = same_opened range replica.slot (leaf_history new.seen replica.leaf)
            (leaf_history old.seen replica.leaf) is ∙ was.opened;
        all = same_turns range replica.slot (leaf_history new.seen replica.leaf)
            (leaf_history old.seen replica.leaf) is ∙ was.all;
      };
  fresh = λ slot leaf past.
      same_opened range slot (leaf_history new.seen leaf) (leaf_history old.seen leaf) (same leaf)
      ∙ just.fresh slot leaf past;
}

-- ---- from the lock on

module _ (range : Range) (n m : ℕ) (begun old new : Knowledge) (looking : IsLooking range n begun old)
    (begun_held : 0 < times_range range begun.purse.holds) (leaf : Leaf) (history : List Entry)
    (called : HasCalled leaf history [] old new) where
  pub still_held : 0 < times_range range old.purse.holds
  still_held = subst (λ xs. 0 < times_range range xs) (sym looking.holds) begun_held

  pub looks_on : new.purse.rooms ≡ old.purse.rooms → new.handed ≡ m → IsLooking range m begun new
  looks_on rooms handed = record {
    fronts = (
      λ l. prefix_trans (leaf_history begun.seen l) (leaf_history old.seen l) (leaf_history new.seen l)
          (looking.fronts.0 l) (called.fronts.0 l),
      λ r. prefix_trans (range_history begun.seen r) (range_history old.seen r) (range_history new.seen r)
          (looking.fronts.1 r) (called.fronts.1 r),
    );
    same = λ at. same_entries leaf history old new called range still_held at ∙ looking.same at;
    own = called.own ∙ none_kept leaf old.purse.own ∙ looking.own;
    rooms = rooms ∙ looking.rooms;
    notes = (
      looking.notes.0 ++ length_note leaf.0 (length history) ∷ [],
      called.notes ∙ ap (λ xs. xs ++ length_note leaf.0 (length history) ∷ []) looking.notes.1
          ∙ append_assoc begun.purse.notes looking.notes.0 (length_note leaf.0 (length history) ∷ []),
    );
    holds = called.holds ∙ looking.holds;
    met = called.met ∙ looking.met;
    stock = called.stock ∙ looking.stock;
    lost = called.lost ∙ looking.lost;
    counted = handed;
  }

  -- the leaf was found with the rows that a replica there kept at first
  pub found_rows : (slot : Slot) (rows : List Row)
      → kept_rows range slot (leaf_history begun.seen leaf) ≡ rows → kept_rows range slot history ≡ rows
  found_rows slot rows is =
      same_kept range slot (leaf_history begun.seen leaf) history
      (called.here range still_held ∙ looking.same leaf) ∙ is

  -- what was found down stays so
  pub down_on : (at : Leaf) (cut : ℕ) → IsFoundDown begun old at cut → IsFoundDown begun new at cut
  down_on at cut h = record {
    down = down_stays leaf history [] old new called range still_held at cut h.down;
    noted = noted_stays leaf history [] old new called range still_held begun at cut h.noted;
  }

  -- so does what was found up
  pub up_on : (at : Leaf) (cut : ℕ) → IsFoundUp begun old at cut → IsFoundUp begun new at cut
  up_on at cut h =
      let was = leaf_history old.seen at in
      let now = leaf_history new.seen at in
      let begins : BeginsWith now was = begins_from now was (called.fronts.0 at).0 (sym (called.fronts.0 at).1) in
      let long = begins_length now was begins in
      record {
        seen_by_then = omega (arith, long, h.seen_by_then);
        up = ap (λ (h : List Entry). is_down h) (take_on now was cut begins h.seen_by_then) ∙ h.up;
        noted = noted_stays leaf history [] old new called range still_held begun at cut h.noted;
      }

  low : length (leaf_history old.seen leaf) ≤ length history
  low = begins_length history (leaf_history old.seen leaf) called.front

  since : length (leaf_history begun.seen leaf) ≤ length (leaf_history old.seen leaf)
  since =
      begins_length (leaf_history old.seen leaf) (leaf_history begun.seen leaf)
      (begins_from (leaf_history old.seen leaf) (leaf_history begun.seen leaf)
      (looking.fronts.0 leaf).0 (sym (looking.fronts.0 leaf).1))

  noted_now : (cut : ℕ) → length history ≡ cut → IsNotedSince begun new leaf cut
  noted_now cut counted =
      let note = length_note leaf.0 (length history) in
      record {
        more = looking.notes.0 ++ note ∷ [];
        notes = called.notes ∙ ap (λ xs. xs ++ note ∷ []) looking.notes.1
            ∙ append_assoc begun.purse.notes looking.notes.0 (note ∷ []);
        noted = subst (λ (k : ℕ). Contains (looking.notes.0 ++ note ∷ []) (length_note leaf.0 k)) counted
            (Contains-push looking.notes.0 note);
        low = omega (arith, low, since, counted);
      }

  -- and this leaf is found down now
  pub down_now : (cut : ℕ) → is_down history ≡ true → length history ≡ cut → IsFoundDown begun new leaf cut
  down_now cut down counted = record {
    down = subst (λ (h : List Entry). IsDownAt h cut)
        (sym (whole leaf history old new called range still_held)) (record {
          seen_by_then = omega (arith, counted);
          down = ap is_down (take_all cut history (omega (arith, counted))) ∙ down;
        });
    noted = noted_now cut counted;
  }

  -- or up, with all that it has
  pub up_now : is_down history ≡ false → IsFoundUp begun new leaf (length history)
  up_now up =
      let all = whole leaf history old new called range still_held in
      record {
        seen_by_then = subst (λ (h : List Entry). length history ≤ length h) (sym all) (omega arith);
        up = ap (λ (h : List Entry). is_down (take (length history) h)) all
            ∙ ap is_down (take_all (length history) history (omega arith)) ∙ up;
        noted = noted_now (length history) refl;
      }

-- ---- who holds the range still does

module _ (setting : Setting) (range : Range) (leaf : Leaf) (history : List RangeEntry) (n : ℕ) (begun know : Knowledge)
    (holding : IsHolding setting range leaf history begun) (looking : IsLooking range n begun know) where
  pub same_pass : pass_of know ≡ pass_of begun
  same_pass = ap (λ o. number_or 0 (option_map (λ (kept : Kept). kept.number) o)) looking.own

  kept_on : (xs : List SlotLeaf)
      → AllByRecursion (λ (x : SlotLeaf). kept_rows range x.slot (leaf_history begun.seen x.leaf) ≡ left_rows history) xs
      → AllByRecursion (λ (x : SlotLeaf). kept_rows range x.slot (leaf_history know.seen x.leaf) ≡ left_rows history) xs
  kept_on [] h = tt
  kept_on (x ∷ xs) h = (
    same_kept range x.slot (leaf_history begun.seen x.leaf) (leaf_history know.seen x.leaf) (looking.same x.leaf) ∙ h.0,
    kept_on xs h.1,
  )

  pub holds_on : IsHolding setting range leaf history know
  holds_on = record {
    zoned = holding.zoned;
    free = holding.free;
    begun = holding.begun;
    number = ap (option_map (λ (kept : Kept). kept.number)) looking.own ∙ holding.number
        ∙ ap (λ (k : ℕ). Some k) (sym same_pass);
    held = subst (λ xs. 0 < times_range range xs) (sym looking.holds) holding.held;
    just = same_just range history begun know looking.same holding.just;
    legal = holding.legal;
    kept = kept_on (serving history) holding.kept;
    bare = same_turns range (next_slot history) (leaf_history know.seen leaf) (leaf_history begun.seen leaf)
        (looking.same leaf) ∙ holding.bare;
    there = holding.there;
    home = holding.home;
  }

-- ---- leaves that were found down one after another

module _ (begun : Knowledge) where
  -- of these leaves each was found down
  abbrev pub AllDown : Knowledge → List FoundDown → Type 0
  AllDown know founds = (found : FoundDown) → Contains founds found → IsFoundDown begun know found.leaf found.cut

  pub no_found : (know : Knowledge) → AllDown know []
  no_found know found there = absurd (omega (arith, there.1))

  pub one_found : (old new : Knowledge) (founds : List FoundDown) (last : FoundDown)
      → ((leaf : Leaf) (cut : ℕ) → IsFoundDown begun old leaf cut → IsFoundDown begun new leaf cut)
      → AllDown old founds → IsFoundDown begun new last.leaf last.cut → AllDown new (founds ++ last ∷ [])
  one_found old new founds last stays all down found there =
      by (Contains-append_cases founds (last ∷ []) found there)
    where
      by : Contains founds found ⊎ Contains (last ∷ []) found → IsFoundDown begun new found.leaf found.cut
      by (inl before) = stays found.leaf found.cut (all found before)
      by (inr here) =
          subst (λ (f : FoundDown). IsFoundDown begun new f.leaf f.cut) (contains_one last found here) down
