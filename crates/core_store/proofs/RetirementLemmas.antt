-- What a retirement is told, and what it is asked for.
use Rattle.std.proofs.Common.{◌≡◌, List, sym, subst}
use Rattle.std.specs.Prelude.{Contains, map}
use Rattle.mon_topo.specs.RangeHistories.{serving}
use Rattle.mon_value.proofs.PlainLemmas.{in_map}
use Rattle.mon_value.specs.declared.histories.RangeEntry.{RangeEntry}
use Rattle.mon_value.specs.declared.positions.Leaf.{Leaf}
use Rattle.mon_value.specs.declared.positions.Slot.{Slot}
use Rattle.mon_value.specs.declared.positions.SlotLeaf.{SlotLeaf}
use Rattle.write_core.proofs.FirstOnLemmas.{told_of_retirement}
use Rattle.write_core.specs.Events.{IsToldOfRetirement}
use Rattle.write_core.specs.Retirements.{retirement_of}
use Rattle.write_core.specs.declared.retirements.Retirement.{Retirement}
use Rattle.write_core.specs.declared.retirements.Retirement.TheVariants as told

module _ (history : List RangeEntry) (leaf : Leaf) where
  -- what becomes of it is so
  pub told_so : (what so : Retirement) → what ≡ retirement_of history leaf → what ≡ so
      → IsToldOfRetirement history leaf so
  told_so what so e is =
      subst (IsToldOfRetirement history leaf) is
      (subst (IsToldOfRetirement history leaf) (sym e) (told_of_retirement history leaf))

  -- a slot that is retired serves
  pub slot_serves : (slot : Slot) → IsToldOfRetirement history leaf (told.WasRetired slot)
      → Contains (map (λ (replica : SlotLeaf). replica.slot) (serving history)) slot
  slot_serves slot so =
      in_map (λ (replica : SlotLeaf). replica.slot) (serving history) (record { slot = slot; leaf = leaf }) so.0
