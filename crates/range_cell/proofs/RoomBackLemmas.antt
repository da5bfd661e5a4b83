-- The rooms of a write that had no memory are given back one by one.
use Rattle.std.proofs.Common.{◌≡◌, ℕ, ◌+◌, ◌<◌, true, false, List, [], ◌∷◌, ◌++◌, length, refl, sym, ap, subst, ◌∙◌}
use Rattle.std.proofs.Common.{append_assoc, arith, cond, Some, None}
use Rattle.std.specs.Prelude.{◌&&◌, Option, option_map}
use Rattle.std.specs.List.{AllByRecursion}
use Rattle.history_book.proofs.ListLemmas.{prefix_trans}
use Rattle.history_book.proofs.PurseLemmas.{room_taken}
use Rattle.history_book.specs.Seats.{length_note, times_range, times_room, without_one}
use Rattle.history_book.specs.declared.views.Kept.{Kept}
use Rattle.know.specs.Knowledge.{Knowledge}
use Rattle.mon_topo.proofs.RangeHistoryLemmas.{all_at}
use Rattle.mon_topo.specs.Settings.{Setting}
use Rattle.mon_topo.specs.Zones.{leaves_in}
use Rattle.mon_value.specs.Histories.{leaf_history, range_history, same_leaf}
use Rattle.mon_value.specs.declared.positions.Leaf.{Leaf}
use Rattle.mon_value.specs.declared.positions.Range.{Range}
use Rattle.mon_value.specs.declared.positions.SlotLeaf.{SlotLeaf}
use Rattle.owners.specs.Calls.{HasLooked, kept_with_all}
use Rattle.range_cell.proofs.CallLemmas.{opened_stay, turns_stay}
use Rattle.range_cell.proofs.WritingLemmas.{ready-cons}
use Rattle.range_cell.specs.Stages.{ArePlaced, IsWithdrawing}
use Rattle.range_cell.specs.Writing.{HasTurns, ready_count}
use Rattle.write_core.specs.Marks.{is_ready, replica_of}
use Rattle.write_core.specs.declared.marks.Mark.{Mark}

module _ (range : Range) (pass : ℕ) (before : Knowledge) (replicas : List SlotLeaf)
    (old : Knowledge) (mark : Mark) (left : List Mark)
    (w : IsWithdrawing range pass before replicas old (mark ∷ left)) where
  one_more : (l : Leaf) → times_room l old.purse.rooms ≡ times_room l before.purse.rooms
      + (cond {A = ℕ} (is_ready mark.fate && same_leaf l mark.leaf) 1 0 + ready_count l left)
  one_more l = w.rooms l ∙ ap (λ n. times_room l before.purse.rooms + n) (ready-cons l mark left)

  pub room_there : is_ready mark.fate ≡ true → 0 < times_room mark.leaf old.purse.rooms
  room_there ready =
      let one = one_more mark.leaf
      ∙ ap (λ b. times_room mark.leaf before.purse.rooms
      + (cond {A = ℕ} (b && same_leaf mark.leaf mark.leaf) 1 0 + ready_count mark.leaf left)) ready
      ∙ ap (λ b. times_room mark.leaf before.purse.rooms + (cond {A = ℕ} b 1 0 + ready_count mark.leaf left))
      (Rattle.std.proofs.Common.eq-eqb mark.leaf.0 mark.leaf.0 refl) in
      omega arith

  -- its leaf is there
  pub leaf_there : (setting : Setting) → ArePlaced setting replicas → mark.leaf.0 < length (leaves_in setting.zones)
  leaf_there setting placed =
      all_at (λ (x : SlotLeaf). x.leaf.0 < length (leaves_in setting.zones)) replicas (replica_of mark) placed.there
      w.among.0

  pub passed_by : is_ready mark.fate ≡ false → IsWithdrawing range pass before replicas old left
  passed_by not_ready = record {
    among = w.among.1;
    fronts = w.fronts;
    number = w.number;
    held = w.held;
    opened = w.opened;
    each = w.each;
    own = w.own;
    rooms = λ l.
        let one = one_more l ∙ ap (λ b. times_room l before.purse.rooms
        + (cond {A = ℕ} (b && same_leaf l mark.leaf) 1 0 + ready_count l left)) not_ready in
        omega arith;
    notes = w.notes;
    holds = w.holds;
    met = w.met;
    stock = w.stock;
    lost = w.lost;
    handed = w.handed;
  }

  pub cancelled : (new : Knowledge) → is_ready mark.fate ≡ true
      → HasLooked mark.leaf (without_one mark.leaf old.purse.rooms) old new
      → IsWithdrawing range pass before replicas new left
  cancelled new ready looked = record {
    among = w.among.1;
    fronts = (
      λ l. prefix_trans (leaf_history before.seen l) (leaf_history old.seen l) (leaf_history new.seen l)
          (w.fronts.0 l) (looked.called.fronts.0 l),
      λ r. prefix_trans (range_history before.seen r) (range_history old.seen r) (range_history new.seen r)
          (w.fronts.1 r) (looked.called.fronts.1 r),
    );
    number = ap (option_map (λ (kept : Kept). kept.number)) (looked.called.own ∙ mapped_id old.purse.own) ∙ w.number;
    held = subst (λ holds. 0 < times_range range holds) (sym looked.called.holds) w.held;
    opened = λ slot l. opened_stay mark.leaf looked.history [] old new looked.called range w.held (λ s. refl) slot l
        ∙ w.opened slot l;
    each = stay replicas w.each;
    own = looked.called.own ∙ mapped_id old.purse.own ∙ w.own;
    rooms = λ l.
        let same : times_room l new.purse.rooms ≡ times_room l (without_one mark.leaf old.purse.rooms) =
        ap (times_room l) looked.rooms_are in
        let taken = room_taken l mark.leaf old.purse.rooms (room_there ready) in
        let one = one_more l ∙ ap (λ b. times_room l before.purse.rooms
        + (cond {A = ℕ} (b && same_leaf l mark.leaf) 1 0 + ready_count l left)) ready in
        let n : ℕ = cond {A = ℕ} (same_leaf l mark.leaf) 1 0 in
        omega arith;
    notes = (
      w.notes.0 ++ length_note mark.leaf.0 (length looked.history) ∷ [],
      looked.called.notes ∙ ap (λ xs. xs ++ length_note mark.leaf.0 (length looked.history) ∷ []) w.notes.1
          ∙ append_assoc before.purse.notes w.notes.0 (length_note mark.leaf.0 (length looked.history) ∷ []),
    );
    holds = looked.called.holds ∙ w.holds;
    met = looked.called.met ∙ w.met;
    stock = looked.called.stock ∙ w.stock;
    lost = looked.called.lost ∙ w.lost;
    handed = looked.handed ∙ w.handed;
  }
    where
      mapped_id : (o : Option Kept) → option_map (kept_with_all mark.leaf []) o ≡ o
      mapped_id None = refl
      mapped_id (Some x) = refl

      stay : (xs : List SlotLeaf) → AllByRecursion (λ (x : SlotLeaf). HasTurns before old range x.slot x.leaf []) xs
          → AllByRecursion (λ (x : SlotLeaf). HasTurns before new range x.slot x.leaf []) xs
      stay [] h = tt
      stay (x ∷ xs) h = (
        turns_stay mark.leaf looked.history [] old new looked.called range w.held before x.slot x.leaf [] (refl, refl) h.0,
        stay xs h.1,
      )
