-- How a switch at its leaf's cell ends is how a switch of the store ends.
use Rattle.std.proofs.Common.{◌≡◌, ℕ, true, List, [], ◌∷◌, ◌++◌, map, filter, Some}
use Rattle.std.proofs.Common.{refl, sym, ap, subst, ◌∙◌, arith, append-nil}
use Rattle.std.specs.Prelude.{Result, Ok, Err, IfErr, IfOk, OnErr, option_map}
use mathlib.Core.List.{IsPrefix}
use Rattle.std.proofs.lemmas.Bool.Decides.{nat_tests}
use Rattle.std.proofs.lemmas.List.{map-append}
use Rattle.history_book.proofs.ListLemmas.{prefix_refl}
use Rattle.history_book.specs.Histories.{entries, is_under}
use Rattle.history_book.specs.Seats.{IsPurseBorneOut, kept_with}
use Rattle.history_book.specs.declared.views.BookEntry.{BookEntry}
use Rattle.history_book.specs.declared.views.BookEntry.TheVariants as one
use Rattle.history_book.specs.declared.views.History.{History}
use Rattle.history_book.specs.declared.views.History.TheVariants as of
use Rattle.history_book.specs.declared.views.Kept.{Kept}
use Rattle.know.specs.Knowledge.{Knowledge}
use Rattle.leaf_cell.specs.Controls.{HasControlled, HasNotSwitched, HasSwitched, switch_entry}
use Rattle.leaf_cell.specs.declared.controls.Control.{Control}
use Rattle.leaf_cell.specs.declared.controls.Control.TheVariants as going
use Rattle.leaf_cell.specs.declared.controls.ControlFault.{ControlFault}
use Rattle.mon_topo.proofs.FrontLemmas.{begins_push, begins_same}
use Rattle.mon_topo.specs.HeldHistories.{BeginsWith}
use Rattle.mon_topo.specs.Settings.{Setting}
use Rattle.mon_value.specs.Histories.{leaf_history}
use Rattle.mon_value.specs.declared.histories.Entry.{Entry}
use Rattle.mon_value.specs.declared.positions.Leaf.{Leaf}
use Rattle.owners.specs.Calls.{HasCalled, kept_with_all}
use Rattle.owners.specs.Puts.{pass_of}
use Rattle.mon_store.proofs.AddedLemmas.{entries_with}
use Rattle.mon_store.proofs.GrownLemmas.{HasComeBehind, many_seen}
use Rattle.mon_store.proofs.OwnLemmas.{prefix_from}
use Rattle.mon_store.proofs.WriteLemmas.{IsCarried, added_new, added_own, added_still, all_counted, has_own, own_is}
use Rattle.mon_store.proofs.WriteLemmas.{same_pass, unwritten, written_pass}
use Rattle.mon_store.specs.Passes.{IsPass}
use Rattle.mon_store.specs.Switches.{IsNotSwitched, IsSwitched}
use Rattle.mon_store.specs.Writes.{IsUnwritten, only_in, own_entries}
use Rattle.range_cell.proofs.LookingLemmas.{none_kept}

under_switch : (to : Control) (n : ℕ) → is_under n (one.Leaf (switch_entry to n)) ≡ true
under_switch going.Down n = grind (arith, nat_tests)
under_switch going.Up n = grind (arith, nat_tests)

module _ (setting : Setting) (leaf : Leaf) (to : Control) (before after : Knowledge) (is : IsPass setting before)
    (borne : IsPurseBorneOut after.seen after.purse) where
  carried_by : (history added : List Entry) → HasCalled leaf history added before after
      → after.purse.rooms ≡ before.purse.rooms → after.handed ≡ before.handed → IsCarried before after
  carried_by history added called rooms handed = record {
    fronts = called.fronts;
    met = called.met;
    stock = called.stock;
    lost = called.lost;
    handed = handed;
    holds = called.holds ∙ is.holds;
    rooms = rooms ∙ is.rooms;
  }

  -- ---- it was switched

  module _ (cut : ℕ) (h : HasSwitched leaf to (pass_of before) cut before after) where
    abbrev e : Entry
    e = switch_entry to (pass_of before)

    abbrev new : History → List BookEntry
    new = only_in (of.Leaf leaf) (one.Leaf e)

    carried : IsCarried before after
    carried = carried_by h.history (e ∷ []) h.called h.rooms_are h.handed

    come : HasComeBehind before after (of.Leaf leaf) (one.Leaf e)
    come = record {
      mid = map (λ x. one.Leaf x) h.history;
      from = prefix_from (λ x. one.Leaf x) (leaf_history before.seen leaf) h.history h.called.front;
      to = subst (λ (xs : List BookEntry). IsPrefix xs (entries after.seen (of.Leaf leaf)))
          (ap (map (λ x. one.Leaf x)) h.called.whole ∙ map-append (λ x. one.Leaf x) h.history (e ∷ []))
          (prefix_refl (entries after.seen (of.Leaf leaf)));
      under = under_switch to (pass_of before);
    }

    abbrev first : Kept
    first = (has_own before is.number).kept

    abbrev last : Kept
    last = kept_with (of.Leaf leaf) (one.Leaf e) first

    own : after.purse.own ≡ Some last
    own = h.called.own ∙ ap (option_map (kept_with_all leaf (e ∷ []))) (has_own before is.number).is

    added : (whose : History) → entries last.own whose ≡ own_entries before.purse.own whose ++ new whose
    added whose =
        entries_with (of.Leaf leaf) whose (one.Leaf e) first.own tt
        ∙ ap (λ (xs : List BookEntry). xs ++ new whose)
        (sym (own_is before.purse.own first whose (has_own before is.number).is))

    all_seen : (whose : History)
        → filter (is_under (pass_of before)) (entries after.seen whose) ≡ entries last.own whose
    all_seen = all_counted setting before after is carried borne new last own (has_own before is.number).number added
        (many_seen setting before after is h.called.fronts (of.Leaf leaf) (one.Leaf e) come)

    pub switched_pass : IsPass setting after
    switched_pass =
        written_pass setting before after is carried borne new last own (has_own before is.number).number added all_seen

    pub is_switched : IsSwitched leaf to before after cut
    is_switched = record {
      history = h.history;
      found = record {
        notes = h.called.notes;
        from = h.called.front;
        to = subst (λ (xs : List Entry). BeginsWith xs h.history) (sym h.called.whole) (begins_push h.history e);
      };
      may = h.may;
      counted = h.counted;
      switched = h.called.whole;
      own = added_own setting before after is carried borne new last own (has_own before is.number).number added
          all_seen;
      new = added_new setting before after is carried borne new last own (has_own before is.number).number added
          all_seen;
      still = added_still setting before after is carried borne new last own (has_own before is.number).number added
          all_seen;
    }

  -- ---- it was not

  module _ (why : ControlFault) (h : HasNotSwitched leaf to why before after) where
    left : IsCarried before after
    left = carried_by h.history [] h.called h.rooms_are h.handed

    same_own : after.purse.own ≡ before.purse.own
    same_own = h.called.own ∙ none_kept leaf before.purse.own

    pub refused_pass : IsPass setting after
    refused_pass = same_pass setting before after is left borne same_own

    pub refused_unwritten : IsUnwritten before after
    refused_unwritten = unwritten setting before after is left borne same_own

    pub is_not_switched : IsNotSwitched leaf to before after why
    is_not_switched = record {
      history = h.history;
      found = record {
        notes = h.called.notes;
        from = h.called.front;
        to = begins_same (leaf_history after.seen leaf) h.history (h.called.whole ∙ append-nil h.history);
      };
      fault_is = h.fault_is;
    }

  -- ---- by the answer

  abbrev Controlled : Result ℕ ControlFault → Type 0
  Controlled result = HasControlled leaf to (pass_of before) result before after

  pub ended_pass : (result : Result ℕ ControlFault) → Controlled result → IsPass setting after
  ended_pass (Ok cut) h = switched_pass cut h
  ended_pass (Err why) h = refused_pass why h

  pub ended_switched : (result : Result ℕ ControlFault) → Controlled result
      → IfOk result (IsSwitched leaf to before after)
  ended_switched (Ok cut) h = is_switched cut h
  ended_switched (Err why) h = tt

  pub ended_refused : (result : Result ℕ ControlFault) → Controlled result
      → IfErr result (IsNotSwitched leaf to before after)
  ended_refused (Ok cut) h = tt
  ended_refused (Err why) h = is_not_switched why h

  pub ended_nothing : (result : Result ℕ ControlFault) → Controlled result → OnErr result (IsUnwritten before after)
  ended_nothing (Ok cut) h = tt
  ended_nothing (Err why) h = refused_unwritten why h
