-- A replica may be retired, and the others go on with just the turns that they had.
use Rattle.std.proofs.Common.{◌≡◌, ◌<◌, ℕ, List, [], ◌∷◌, ◌++◌, append-nil, length, map, sym, subst, ◌∙◌}
use Rattle.std.specs.Prelude.{Contains}
use Rattle.std.proofs.lemmas.List.Concat.{flat_map-append}
use Rattle.mon_topo.proofs.HeldLemmas.{range_entry_held}
use Rattle.mon_topo.proofs.HeldSteps.{retired_kept, serving_since}
use Rattle.mon_topo.proofs.RangeHistoryLemmas.{not_slot, serving-retired}
use Rattle.mon_topo.specs.HeldHistories.{AreHeld, BeginsWith, with_range_entry}
use Rattle.mon_topo.specs.RangeHistories as range_spec
use Rattle.mon_topo.specs.RangeHistories.{opened_slot, opened_slots, serving, turns_since}
use Rattle.mon_topo.specs.Settings.{Setting}
use Rattle.mon_value.proofs.PlainLemmas.{in_map}
use Rattle.mon_value.specs.Histories.{leaf_history, range_history}
use Rattle.mon_value.specs.LeafHistories.{replica_turns}
use Rattle.mon_value.specs.declared.histories.Histories.{Histories}
use Rattle.mon_value.specs.declared.histories.RangeEntry.{RangeEntry}
use Rattle.mon_value.specs.declared.histories.RangeEntry.TheVariants as entry
use Rattle.mon_value.specs.declared.positions.Leaf.{Leaf}
use Rattle.mon_value.specs.declared.positions.Range.{Range}
use Rattle.mon_value.specs.declared.positions.Slot.{Slot}
use Rattle.mon_value.specs.declared.positions.SlotLeaf.{SlotLeaf}
use Rattle.range_cell.specs.Rest.{AreUnopened, HaveJust}
use Rattle.write_core.proofs.AckLemmas.{contains_filter}
use Rattle.write_core.proofs.FirstOnLemmas.{told_of_retirement}
use Rattle.write_core.specs.Events.{IsToldOfRetirement}
use Rattle.write_core.specs.Retirements.{retirement_of}
use Rattle.write_core.specs.declared.retirements.Retirement.TheVariants as told

module _ (setting : Setting) (range : Range) (g : List RangeEntry)
    (legal : range_spec.IsLegal setting.held setting.zones setting.points range g) (leaf : Leaf) (pass : ℕ) (slot : Slot)
    (told_so : retirement_of g leaf ≡ told.WasRetired slot) where
  abbrev e : RangeEntry
  e = entry.Retired pass slot

  may : IsToldOfRetirement g leaf (told.WasRetired slot)
  may = subst (IsToldOfRetirement g leaf) told_so (told_of_retirement g leaf)

  -- it serves
  pub slot_serves : Contains (map (λ (replica : SlotLeaf). replica.slot) (serving g)) slot
  slot_serves = in_map (λ (replica : SlotLeaf). replica.slot) (serving g) (record { slot = slot; leaf = leaf }) may.0

  abbrev HasKept : Histories → List RangeEntry → List RangeEntry → Type 0
  HasKept seen serve since = (replica : SlotLeaf) → Contains (serving serve) replica
      → BeginsWith (replica_turns range replica.slot (leaf_history seen replica.leaf)) (turns_since replica.slot since)

  -- its retirement may come to the history, whatever else was seen
  pub retired_held : (seen : Histories) → range_history seen range ≡ g → range.0 < length seen.ranges
      → AreHeld setting.held setting.zones setting.points seen
      → AreHeld setting.held setting.zones setting.points (with_range_entry range e seen)
  retired_held seen whole here held =
      range_entry_held seen range e here setting.held setting.zones setting.points held
      (subst (λ (h : List RangeEntry). HasKept seen (h ++ e ∷ []) (h ++ e ∷ [])) (sym whole)
      (retired_kept setting.held setting.zones setting.points range seen g legal
      (subst (λ (h : List RangeEntry). HasKept seen h h) whole (held.borne_out range here).kept) pass slot))
      tt
      (subst (λ (h : List RangeEntry). range_spec.MayFollow setting.held setting.zones setting.points range h e)
      (sym whole) (slot_serves, may.1))

  same_opened : opened_slots (g ++ e ∷ []) ≡ opened_slots g
  same_opened = flat_map-append opened_slot g (e ∷ []) ∙ append-nil (opened_slots g)

  pub retired_just : (seen : Histories) → HaveJust seen range g → HaveJust seen range (g ++ e ∷ [])
  retired_just seen just = record {
    turns = λ replica among.
        let before = contains_filter (not_slot slot) (serving g) replica
        (subst (λ (xs : List SlotLeaf). Contains xs replica) (serving-retired g pass slot) among) in
        let has = just.turns replica before.0 in
        record {
          opened = has.opened;
          all = has.all ∙ sym (serving_since setting.held setting.zones setting.points range seen g legal replica
              before.0 e ∙ append-nil (turns_since replica.slot g));
        };
    fresh = subst (λ (xs : List SlotLeaf). AreUnopened seen range (length xs)) (sym same_opened) just.fresh;
  }
