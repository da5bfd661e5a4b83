-- How a retirement at its range's cell ends is how a retirement of the store ends.
use Rattle.std.proofs.Common.{◌≡◌, ℕ, ◌+◌, true, List, [], ◌∷◌, ◌++◌, length, map, filter, Some}
use Rattle.std.proofs.Common.{sym, ap, subst, ◌∙◌, arith, append-nil}
use Rattle.std.specs.Prelude.{Result, Ok, Err, IfErr, IfOk, OnErr, option_map}
use mathlib.Core.List.{IsPrefix}
use Rattle.std.proofs.lemmas.Bool.Decides.{nat_tests}
use Rattle.std.proofs.lemmas.List.{map-append}
use Rattle.history_book.proofs.ListLemmas.{prefix_refl}
use Rattle.history_book.specs.Histories.{entries, is_under}
use Rattle.history_book.specs.Seats.{IsPurseBorneOut, kept_with, length_note}
use Rattle.history_book.specs.declared.views.BookEntry.{BookEntry}
use Rattle.history_book.specs.declared.views.BookEntry.TheVariants as one
use Rattle.history_book.specs.declared.views.History.{History}
use Rattle.history_book.specs.declared.views.History.TheVariants as of
use Rattle.history_book.specs.declared.views.Kept.{Kept}
use Rattle.history_book.specs.declared.views.LengthNote.{LengthNote}
use Rattle.know.specs.Knowledge.{Knowledge}
use Rattle.mon_config.specs.declared.config.Config.{Config}
use Rattle.mon_topo.proofs.FrontLemmas.{begins_push}
use Rattle.mon_topo.specs.HeldHistories.{BeginsWith}
use Rattle.mon_topo.specs.Settings.{Setting}
use Rattle.mon_topo.specs.Zones.{leaves_in}
use Rattle.mon_value.specs.Histories.{range_history}
use Rattle.mon_value.specs.declared.histories.RangeEntry.{RangeEntry}
use Rattle.mon_value.specs.declared.histories.RangeEntry.TheVariants as range_entry
use Rattle.mon_value.specs.declared.positions.Leaf.{Leaf}
use Rattle.mon_value.specs.declared.positions.Range.{Range}
use Rattle.mon_value.specs.declared.positions.Slot.{Slot}
use Rattle.owners.specs.Puts.{pass_of}
use Rattle.mon_store.proofs.AddedLemmas.{entries_with}
use Rattle.mon_store.proofs.CarriedLemmas.{asked_carried, asked_found}
use Rattle.mon_store.proofs.GrownLemmas.{HasComeBehind, many_seen}
use Rattle.mon_store.proofs.OwnLemmas.{prefix_from}
use Rattle.mon_store.proofs.WriteLemmas.{IsCarried, added_new, added_own, added_still, all_counted, has_own, own_is}
use Rattle.mon_store.proofs.WriteLemmas.{same_pass, unwritten, written_pass}
use Rattle.mon_store.specs.Passes.{IsPass}
use Rattle.mon_store.specs.Retirements.{IsNotRetired, IsRetired, retired}
use Rattle.mon_store.specs.Writes.{IsUnwritten, WasFoundSo, own_entries}
use Rattle.range_cell.specs.Calls.{HasMetRange}
use Rattle.range_cell.specs.Retirements.{HasNotRetired, HasRetired, HasRetiredSo}
use Rattle.range_cell.specs.declared.answers.RetireFault.{RetireFault}
use Rattle.range_cell.specs.declared.answers.RetireFault.TheVariants as fault

under_retirement : (n : ℕ) (slot : Slot) → is_under n (one.Range (range_entry.Retired n slot)) ≡ true
under_retirement n slot = grind (arith, nat_tests)

module _ (setting : Setting) (config : Config) (leaves : ℕ) (range : Range) (leaf : Leaf) (before after : Knowledge)
    (is : IsPass setting before) (borne : IsPurseBorneOut after.seen after.purse)
    (counted : leaves ≡ length (leaves_in config.topology)) where
  -- ---- it was retired

  module _ (slot : Slot) (h : HasRetiredSo leaves range leaf (pass_of before) before after slot) where
    abbrev e : RangeEntry
    e = range_entry.Retired (pass_of before) slot

    abbrev new : History → List BookEntry
    new = retired (pass_of before) range slot

    carried : IsCarried before after
    carried = record {
      fronts = h.entered.fronts;
      met = h.entered.met;
      stock = h.entered.stock;
      lost = h.entered.lost;
      handed = h.entered.handed;
      holds = h.holding ∙ is.holds;
      rooms = h.entered.rooms ∙ is.rooms;
    }

    found : WasFoundSo config range h.history before after
    found = record {
      more = [];
      notes = h.entered.notes
          ∙ ap (λ (n : ℕ). before.purse.notes ++ length_note (n + range.0) (length h.history) ∷ []) counted
          ∙ ap (λ (xs : List LengthNote).
          xs ++ length_note (length (leaves_in config.topology) + range.0) (length h.history) ∷ [])
          (sym (append-nil before.purse.notes));
      from = h.front;
      to = subst (λ (xs : List RangeEntry). BeginsWith xs h.history) (sym h.entered.whole) (begins_push h.history e);
    }

    come : HasComeBehind before after (of.Range range) (one.Range e)
    come = record {
      mid = map (λ x. one.Range x) h.history;
      from = prefix_from (λ x. one.Range x) (range_history before.seen range) h.history h.front;
      to = subst (λ (xs : List BookEntry). IsPrefix xs (entries after.seen (of.Range range)))
          (ap (map (λ x. one.Range x)) h.entered.whole ∙ map-append (λ x. one.Range x) h.history (e ∷ []))
          (prefix_refl (entries after.seen (of.Range range)));
      under = under_retirement (pass_of before) slot;
    }

    abbrev first : Kept
    first = (has_own before is.number).kept

    abbrev last : Kept
    last = kept_with (of.Range range) (one.Range e) first

    own : after.purse.own ≡ Some last
    own = h.entered.own ∙ ap (option_map (kept_with (of.Range range) (one.Range e))) (has_own before is.number).is

    added : (whose : History) → entries last.own whose ≡ own_entries before.purse.own whose ++ new whose
    added whose =
        entries_with (of.Range range) whose (one.Range e) first.own tt
        ∙ ap (λ (xs : List BookEntry). xs ++ new whose)
        (sym (own_is before.purse.own first whose (has_own before is.number).is))

    all_seen : (whose : History)
        → filter (is_under (pass_of before)) (entries after.seen whose) ≡ entries last.own whose
    all_seen = all_counted setting before after is carried borne new last own (has_own before is.number).number added
        (many_seen setting before after is h.entered.fronts (of.Range range) (one.Range e) come)

    pub retired_pass : IsPass setting after
    retired_pass =
        written_pass setting before after is carried borne new last own (has_own before is.number).number added all_seen

    pub is_retired : IsRetired config range leaf before after slot
    is_retired = record {
      history = h.history;
      found = found;
      was = h.told_so;
      told = h.entered.whole;
      own = added_own setting before after is carried borne new last own (has_own before is.number).number added
          all_seen;
      new = added_new setting before after is carried borne new last own (has_own before is.number).number added
          all_seen;
      still = added_still setting before after is carried borne new last own (has_own before is.number).number added
          all_seen;
    }

  -- ---- it was not

  met_by : (why : RetireFault) → HasNotRetired leaves range leaf (pass_of before) before after why
      → HasMetRange leaves range before.purse.holds before after
  met_by fault.NotServing h = h.met
  met_by (fault.LastServing slot) h = h.met

  is_not_retired : (why : RetireFault) → HasNotRetired leaves range leaf (pass_of before) before after why
      → IsNotRetired config range leaf before after why
  is_not_retired fault.NotServing h = record {
    history = range_history after.seen range;
    found = asked_found setting config leaves range before after is counted h.met;
    cause = h.why;
  }
  is_not_retired (fault.LastServing slot) h = record {
    history = range_history after.seen range;
    found = asked_found setting config leaves range before after is counted h.met;
    cause = h.why;
  }

  -- ---- by the answer

  abbrev Retired : Result Slot RetireFault → Type 0
  Retired result = HasRetired leaves range leaf (pass_of before) before after result

  pub ended_pass : (result : Result Slot RetireFault) → Retired result → IsPass setting after
  ended_pass (Ok slot) h = retired_pass slot h
  ended_pass (Err why) h =
      let met = met_by why h in
      same_pass setting before after is (asked_carried setting config leaves range before after is counted met) borne
      met.own

  pub ended_retired : (result : Result Slot RetireFault) → Retired result
      → IfOk result (IsRetired config range leaf before after)
  ended_retired (Ok slot) h = is_retired slot h
  ended_retired (Err why) h = tt

  pub ended_refused : (result : Result Slot RetireFault) → Retired result
      → IfErr result (IsNotRetired config range leaf before after)
  ended_refused (Ok slot) h = tt
  ended_refused (Err why) h = is_not_retired why h

  pub ended_nothing : (result : Result Slot RetireFault) → Retired result → OnErr result (IsUnwritten before after)
  ended_nothing (Ok slot) h = tt
  ended_nothing (Err why) h =
      let met = met_by why h in
      unwritten setting before after is (asked_carried setting config leaves range before after is counted met) borne
      met.own
