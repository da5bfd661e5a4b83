-- What a recovery knows once it holds its range, and how it ended by how its parts did.
use Rattle.std.proofs.Common.{◌≡◌, ℕ, ◌+◌, ◌<◌, ◌≤◌, Bool, true, false, List, [], ◌∷◌, ◌++◌, length, refl, sym, ap, subst}
use Rattle.std.proofs.Common.{◌∙◌, arith, Some, None, length-append}
use Rattle.std.specs.Prelude.{Contains, OnErr, OnOk, Result, Ok, Err, is_ok}
use Rattle.std.specs.List.{AllByRecursion}
use Rattle.std.proofs.lemmas.List.Concat.{flat_map-append}
use Rattle.history_book.specs.Seats.{hand_of, times_range}
use Rattle.know.specs.Knowledge.{Knowledge}
use Rattle.mon_topo.proofs.FrontLemmas.{begins_to, behind}
use Rattle.mon_topo.proofs.PartLemmas.{length-zones_of}
use Rattle.mon_topo.proofs.RangeHistoryLemmas.{all_at, all_from}
use Rattle.mon_topo.specs.HeldHistories.{first_range_history, AreHeld, BeginsWith, IsAtHome}
use Rattle.mon_topo.specs.RangeHistories as range_spec
use Rattle.mon_topo.specs.RangeHistories.{IsInZoneOf, left_rows, opened_slots, serving}
use Rattle.mon_topo.specs.Settings.{Setting}
use Rattle.mon_topo.specs.Zones.{first_replicas, leaves_in}
use Rattle.mon_topo.specs.declared.zones.ZoneSpec.{ZoneSpec}
use Rattle.mon_value.proofs.KeptRowLemmas.{in_turn}
use Rattle.mon_value.specs.Histories.{leaf_history, range_history}
use Rattle.mon_value.specs.LeafHistories.{kept_rows}
use Rattle.mon_value.specs.declared.histories.RangeEntry.{RangeEntry}
use Rattle.mon_value.specs.declared.positions.Leaf.{Leaf}
use Rattle.mon_value.specs.declared.positions.Range.{Range}
use Rattle.mon_value.specs.declared.positions.Slot.{Slot}
use Rattle.mon_value.specs.declared.positions.SlotLeaf.{SlotLeaf}
use Rattle.mon_value.specs.declared.rows.Row.{Row}
use Rattle.owners.specs.Puts.{pass_of}
use Rattle.range_cell.proofs.BeginLemmas.{formed, kept, legal, placed}
use Rattle.range_cell.specs.Calls.{HasBegun, HasGivenBack, HasMetRange}
use Rattle.range_cell.specs.Copying.{IsHolding}
use Rattle.range_cell.specs.Recoveries.{AtItsLeaf, AtLock, Behind, HasEndedSo, HasEndedThere, HasNotCopied}
use Rattle.range_cell.specs.Recoveries.{HasNotRecovered, HasRecovered, HasSource, IsDeniedAs, IsLooking, NotYet}
use Rattle.range_cell.specs.Recoveries.{Once, OnTheWay, after_copying}
use Rattle.range_cell.specs.Rest.{HaveJust}
use Rattle.range_cell.specs.declared.answers.RecoverFault.{RecoverFault}
use Rattle.range_cell.specs.declared.answers.RecoverFault.TheVariants as fault
use Rattle.write_core.proofs.OpeningLemmas.{kept_at_home}
use Rattle.mon_topo.proofs.FirstLemmas.{opened_count}
use Rattle.write_core.specs.CopySteps.{next_slot}
use Rattle.write_core.specs.Recovering.{denial_of}

-- ---- behind the lock

first_of : (xs : List SlotLeaf) → 0 < length xs → (x : SlotLeaf) × Contains xs x
first_of [] some = absurd (omega (arith, some))
first_of (x ∷ xs) some = (x, (0, omega arith, refl))

module _ (setting : Setting) (range : Range) (leaf : Leaf) (history : List RangeEntry) (know : Knowledge)
    (held : AreHeld setting.held setting.zones setting.points know.seen)
    (here : range.0 < length know.seen.ranges) (whole : range_history know.seen range ≡ history)
    (just : HaveJust know.seen range history) where
  -- its first replicas were opened
  firsts_opened : BeginsWith history (first_range_history setting.zones range.0)
      → length (first_replicas setting.zones range.0) ≤ length (opened_slots history)
  firsts_opened begins =
      let first = first_range_history setting.zones range.0 in
      let more = behind history first in
      let split : opened_slots history ≡ opened_slots first ++ opened_slots more =
      ap opened_slots (begins_to history first begins) ∙ flat_map-append range_spec.opened_slot first more in
      let count : length (opened_slots history) ≡ length (opened_slots first) + length (opened_slots more) =
      ap length split ∙ length-append (opened_slots first) (opened_slots more) in
      let firsts : length (opened_slots first) ≡ length (first_replicas setting.zones range.0) =
      opened_count 0 (first_replicas setting.zones range.0) in
      omega (arith, count, firsts)

  -- the rows that are left of it lie in it, where some replica keeps them
  rows_home : 0 < length (serving history)
      → AllByRecursion (IsAtHome setting.held setting.zones range) (left_rows history)
  rows_home some =
      let one = first_of (serving history) some in
      let keeps = all_at (λ (x : SlotLeaf). kept_rows range x.slot (leaf_history know.seen x.leaf) ≡ left_rows history)
      (serving history) one.0 (kept setting range history know held here whole just) one.1 in
      subst (λ (rows : List Row). AllByRecursion (IsAtHome setting.held setting.zones range) rows) keeps
      (all_from (IsAtHome setting.held setting.zones range)
      (kept_rows range one.0.slot (leaf_history know.seen one.0.leaf))
      (kept_at_home setting.held setting.zones range one.0.slot (leaf_history know.seen one.0.leaf)
      (formed setting range history know held here whole just one.0 one.1)
      (λ e among. held.at_home one.0.leaf e among)))

  pub is_holding : IsInZoneOf setting.zones range leaf → denial_of history leaf ≡ None
      → BeginsWith history (first_range_history setting.zones range.0)
      → (hand_of know.purse).own ≡ Some (pass_of know) → 0 < times_range range know.purse.holds
      → IsHolding setting range leaf history know
  is_holding zoned free begins number holds =
      let there : leaf.0 < length (leaves_in setting.zones) =
      subst (λ (n : ℕ). leaf.0 < n) (length-zones_of (λ (zone : ZoneSpec). zone.leaves) 0 setting.zones) zoned.0 in
      record {
        zoned = zoned;
        free = free;
        begun = firsts_opened begins;
        number = number;
        held = holds;
        just = just;
        legal = legal setting range history know held here whole just;
        kept = kept setting range history know held here whole just;
        bare = ((in_turn range (next_slot history) (leaf_history know.seen leaf)
            (held.formed leaf (subst (λ (n : ℕ). leaf.0 < n) (sym held.all_leaves) there))).none
            (just.fresh (next_slot history) leaf (omega arith))).1;
        there = (placed setting range history know held here whole just).there;
        home = rows_home;
      }

-- ---- how it ended

module _ (leaves : ℕ) (range : Range) (leaf : Leaf) (history : List RangeEntry) (pass : ℕ) (begun mid after : Knowledge)
  where
    -- it came to its leaf with the rows
    pub ended_there : (result : Result Slot RecoverFault) → HasSource begun mid (serving history)
        → IsLooking range (after_copying history begun) begun mid
        → HasEndedThere leaves range leaf history pass mid after result
        → HasEndedSo leaves range leaf history pass begun after result
    ended_there (Ok slot) source looking ends = record { mid = mid; source = source; looking = looking; ends = ends }
    ended_there (Err (fault.Serving slot)) source looking ends = absurd ends
    ended_there (Err fault.ThreeServing) source looking ends = absurd ends
    ended_there (Err (fault.SlotsSpent count)) source looking ends = absurd ends
    ended_there (Err (fault.SourceDown founds)) source looking ends = absurd ends
    ended_there (Err (fault.TargetDown cut)) source looking ends = record { mid = mid; source = source; looking = looking; ends = ends }
    ended_there (Err fault.OutOfMemory) source looking ends =
        AtItsLeaf (record { mid = mid; source = source; looking = looking; ends = ends })

    -- it came by no rows
    pub ended_short : (why : RecoverFault) → HasNotCopied range history begun mid why
        → HasGivenBack leaves range history mid after → HasEndedSo leaves range leaf history pass begun after (Err why)
    ended_short (fault.Serving slot) copied back = absurd copied
    ended_short fault.ThreeServing copied back = absurd copied
    ended_short (fault.SlotsSpent count) copied back = absurd copied
    ended_short (fault.SourceDown founds) copied back = record { mid = mid; copied = copied; back = back }
    ended_short (fault.TargetDown cut) copied back = absurd copied
    ended_short fault.OutOfMemory copied back = OnTheWay (record { mid = mid; copied = copied; back = back })

-- it has looked at leaves and done nothing else
pub looked_so : (range : Range) (history : List RangeEntry) (begun mid : Knowledge) (why : RecoverFault)
    → HasNotCopied range history begun mid why → (n : ℕ) × IsLooking range n begun mid
looked_so range history begun mid (fault.Serving slot) copied = absurd copied
looked_so range history begun mid fault.ThreeServing copied = absurd copied
looked_so range history begun mid (fault.SlotsSpent count) copied = absurd copied
looked_so range history begun mid (fault.SourceDown founds) copied = (begun.handed, copied.0)
looked_so range history begun mid (fault.TargetDown cut) copied = absurd copied
looked_so range history begun mid fault.OutOfMemory (NotYet looking) = (begun.handed, looking)
looked_so range history begun mid fault.OutOfMemory (Once looking) = (after_copying history begun, looking)

-- ---- the whole

module _ (leaves : ℕ) (range : Range) (leaf : Leaf) (pass : ℕ) (before after : Knowledge) where
  -- the range may open one more replica
  pub recovered_so : (history : List RangeEntry) (begun : Knowledge) → denial_of history leaf ≡ None
      → HasBegun leaves range history before begun → (result : Result Slot RecoverFault)
      → HasEndedSo leaves range leaf history pass begun after result
      → HasRecovered leaves range leaf pass before after result
  recovered_so history begun free begins (Ok slot) ends =
      record { history = history; begun = begun; free = free; begins = begins; ends = ends }
  recovered_so history begun free begins (Err (fault.Serving slot)) ends = absurd ends
  recovered_so history begun free begins (Err fault.ThreeServing) ends = absurd ends
  recovered_so history begun free begins (Err (fault.SlotsSpent count)) ends = absurd ends
  recovered_so history begun free begins (Err (fault.SourceDown founds)) ends =
      record { history = history; begun = begun; free = free; begins = begins; ends = ends }
  recovered_so history begun free begins (Err (fault.TargetDown cut)) ends =
      record { history = history; begun = begun; free = free; begins = begins; ends = ends }
  recovered_so history begun free begins (Err fault.OutOfMemory) ends =
      Behind (record { history = history; begun = begun; free = free; begins = begins; ends = ends })

  -- it denies that, or had no memory
  pub denied_so : (history : List RangeEntry) → range_history after.seen range ≡ history
      → HasMetRange leaves range before.purse.holds before after → (why : RecoverFault) → IsDeniedAs history leaf why
      → HasNotRecovered leaves range leaf pass before after why
  denied_so history whole met (fault.Serving slot) why =
      record { met = met; why = ap (λ h. denial_of h leaf) whole ∙ why }
  denied_so history whole met fault.ThreeServing why =
      record { met = met; why = ap (λ h. denial_of h leaf) whole ∙ why }
  denied_so history whole met (fault.SlotsSpent count) why =
      record { met = met; why = ap (λ h. denial_of h leaf) whole ∙ why }
  denied_so history whole met (fault.SourceDown founds) why = absurd why
  denied_so history whole met (fault.TargetDown cut) why = absurd why
  denied_so history whole met fault.OutOfMemory why = AtLock met

-- ---- by whether a call succeeded

module _ {V E : Type 0} (P : Type 0) where
  pub on_ok : (r : Result V E) (b : Bool) → b ≡ is_ok r → (b ≡ true → P) → OnOk r P
  on_ok (Ok value) b is h = h is
  on_ok (Err error) b is h = tt

  pub on_err : (r : Result V E) (b : Bool) → b ≡ is_ok r → (b ≡ false → P) → OnErr r P
  on_err (Ok value) b is h = tt
  on_err (Err error) b is h = h is
