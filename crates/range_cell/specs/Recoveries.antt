-- How a recovery ended, and what its caller has then.
use Rattle.std.specs.Prelude.{◌≡◌, ◌≤◌, ◌+◌, ℕ, false, List, [], ◌∷◌, ◌++◌, length, filter, map, take, Some, None}
use Rattle.std.specs.Prelude.{Result, Ok, Err, Contains}
use Rattle.history_book.specs.Histories.{AreFronts, leaf_entry_is_about}
use Rattle.history_book.specs.declared.views.LengthNote.{LengthNote}
use Rattle.know.specs.Knowledge.{Knowledge, stopped_count}
use Rattle.mon_topo.specs.RangeHistories.{left_rows, serving}
use Rattle.mon_value.specs.Histories.{leaf_history}
use Rattle.mon_value.specs.LeafHistories.{IsDownAt, is_down}
use Rattle.mon_value.specs.declared.histories.Entry.{Entry}
use Rattle.mon_value.specs.declared.histories.Entry.TheVariants as entry
use Rattle.mon_value.specs.declared.histories.RangeEntry.{RangeEntry}
use Rattle.mon_value.specs.declared.histories.RangeEntry.TheVariants as range_entry
use Rattle.mon_value.specs.declared.positions.FoundDown.{FoundDown}
use Rattle.mon_value.specs.declared.positions.Leaf.{Leaf}
use Rattle.mon_value.specs.declared.positions.Range.{Range}
use Rattle.mon_value.specs.declared.positions.Slot.{Slot}
use Rattle.mon_value.specs.declared.positions.SlotLeaf.{SlotLeaf}
use Rattle.owners.specs.Calls.{HasFoundDown, HasFoundUp, HasLooked}
use Rattle.range_cell.specs.Calls.{HasBegun, HasEntered, HasGivenBack, HasMetRange}
use Rattle.range_cell.specs.Writes.{HasAsked}
use Rattle.range_cell.specs.Writing.{IsNotedSince}
use Rattle.range_cell.specs.declared.answers.RecoverFault.{RecoverFault}
use Rattle.range_cell.specs.declared.answers.RecoverFault.TheVariants as fault
use Rattle.write_core.specs.CopySteps.{next_slot}
use Rattle.write_core.specs.Recovering.{denial_of}
use Rattle.write_core.specs.declared.copies.Denial.TheVariants.{ServesFully, ServesThere, SlotsSpent}

-- ---- at the lock

-- a range of this history denies the recovery so, or memory ran out
abbrev pub IsDeniedAs : List RangeEntry → Leaf → RecoverFault → Type 0
IsDeniedAs history leaf (fault.Serving slot) = denial_of history leaf ≡ Some (ServesThere slot)
IsDeniedAs history leaf fault.ThreeServing = denial_of history leaf ≡ Some ServesFully
IsDeniedAs history leaf (fault.SlotsSpent count) = denial_of history leaf ≡ Some (SlotsSpent count)
IsDeniedAs history leaf (fault.SourceDown founds) = ⊥
IsDeniedAs history leaf (fault.TargetDown cut) = ⊥
IsDeniedAs history leaf fault.OutOfMemory = Unit {0}

-- ---- behind the lock: `begun` is what the caller had once it held the range

-- a leaf has the same entries about a range
abbrev pub HasSameEntries : Range → List Entry → List Entry → Type 0
HasSameEntries range old new = filter (leaf_entry_is_about range) new ≡ filter (leaf_entry_is_about range) old

-- The caller looked at leaves and appended nothing; so many rows are counted then as handed out
pub record IsLooking (range : Range) (handed : ℕ) (begun know : Knowledge) : Type 0 where
  pub fronts : AreFronts begun.seen know.seen
  pub same : (leaf : Leaf) → HasSameEntries range (leaf_history begun.seen leaf) (leaf_history know.seen leaf)
  pub own : know.purse.own ≡ begun.purse.own
  pub rooms : know.purse.rooms ≡ begun.purse.rooms
  pub notes : (more : List LengthNote) × (know.purse.notes ≡ begun.purse.notes ++ more)
  pub holds : know.purse.holds ≡ begun.purse.holds
  pub met : know.purse.met ≡ begun.purse.met
  pub stock : know.purse.stock ≡ begun.purse.stock
  pub lost : know.purse.lost ≡ begun.purse.lost
  pub counted : know.handed ≡ handed

-- the rows that are left of a range were handed out once more
abbrev pub after_copying : List RangeEntry → Knowledge → ℕ
after_copying history begun = stopped_count (begun.handed + length (left_rows history))

-- a leaf was down at a length that was noted since
pub record IsFoundDown (begun know : Knowledge) (leaf : Leaf) (cut : ℕ) : Type 0 where
  pub down : IsDownAt (leaf_history know.seen leaf) cut
  pub noted : IsNotedSince begun know leaf cut

-- a leaf was up at a length that was noted since
pub record IsFoundUp (begun know : Knowledge) (leaf : Leaf) (cut : ℕ) : Type 0 where
  pub seen_by_then : cut ≤ length (leaf_history know.seen leaf)
  pub up : is_down (take cut (leaf_history know.seen leaf)) ≡ false
  pub noted : IsNotedSince begun know leaf cut

-- the leaf of one of these replicas was found up
pub record HasSource (begun know : Knowledge) (replicas : List SlotLeaf) : Type 0 where
  pub source : SlotLeaf
  pub among : Contains replicas source
  pub cut : ℕ
  pub found : IsFoundUp begun know source.leaf cut

-- the leaves of these replicas were found down, in their order
pub record AreFoundDown (begun know : Knowledge) (replicas : List SlotLeaf) (founds : List FoundDown) : Type 0 where
  pub leaves : map (λ (found : FoundDown). found.leaf) founds
      ≡ map (λ (replica : SlotLeaf). replica.leaf) replicas
  pub down : (found : FoundDown) → Contains founds found → IsFoundDown begun know found.leaf found.cut

-- what was copied: the rows that are left of the range; or each source was down; or memory ran out
module _ (range : Range) (history : List RangeEntry) (begun know : Knowledge) where
  pub data Copies : Type 0 where
    NotYet : IsLooking range begun.handed begun know → Copies
    Once : IsLooking range (after_copying history begun) begun know → Copies

  abbrev pub HasNotCopied : RecoverFault → Type 0
  HasNotCopied (fault.Serving slot) = ⊥
  HasNotCopied fault.ThreeServing = ⊥
  HasNotCopied (fault.SlotsSpent count) = ⊥
  HasNotCopied (fault.SourceDown founds) =
      IsLooking range begun.handed begun know × AreFoundDown begun know (serving history) founds
  HasNotCopied (fault.TargetDown cut) = ⊥
  HasNotCopied fault.OutOfMemory = Copies

-- ---- at the leaf: `mid` is what the caller had when it came there with the rows

module _ (leaves : ℕ) (range : Range) (leaf : Leaf) (history : List RangeEntry) (pass : ℕ) (mid after : Knowledge) where
  -- The replica was opened on the leaf in the range's next slot, with the rows that are left of the range, and then in
  -- the range's history
  pub record HasOpened (slot : Slot) : Type 0 where
    pub slot_is : slot ≡ next_slot history
    pub opened : Knowledge
    pub at_leaf : HasFoundUp leaf (entry.Opened pass range slot (left_rows history) ∷ []) mid.purse.rooms mid opened
    pub entered : HasEntered leaves range history (range_entry.Opened pass slot leaf) opened after

  -- The leaf was found down
  pub record HasFoundTargetDown (cut : ℕ) : Type 0 where
    pub then : Knowledge
    pub at_leaf : HasFoundDown leaf cut mid.purse.rooms mid then
    pub back : HasGivenBack leaves range history then after

  -- It had no memory
  pub record HasFoundNoMemory : Type 0 where
    pub then : Knowledge
    pub at_leaf : HasLooked leaf mid.purse.rooms mid then
    pub back : HasGivenBack leaves range history then after

  abbrev pub HasNotOpened : RecoverFault → Type 0
  HasNotOpened (fault.Serving slot) = ⊥
  HasNotOpened fault.ThreeServing = ⊥
  HasNotOpened (fault.SlotsSpent count) = ⊥
  HasNotOpened (fault.SourceDown founds) = ⊥
  HasNotOpened (fault.TargetDown cut) = HasFoundTargetDown cut
  HasNotOpened fault.OutOfMemory = HasFoundNoMemory

  abbrev pub HasEndedThere : Result Slot RecoverFault → Type 0
  HasEndedThere (Ok slot) = HasOpened slot
  HasEndedThere (Err why) = HasNotOpened why

-- ---- from the lock on

module _ (leaves : ℕ) (range : Range) (leaf : Leaf) (history : List RangeEntry) (pass : ℕ) (begun after : Knowledge)
  where
    -- the caller had the rows of a replica whose leaf was up, and then came to the leaf
    pub record HasCarried (end : Knowledge → Type 0) : Type 0 where
      pub mid : Knowledge
      pub source : HasSource begun mid (serving history)
      pub looking : IsLooking range (after_copying history begun) begun mid
      pub ends : end mid

    -- it had no rows, and gave the range back
    pub record HasReturned (why : RecoverFault) : Type 0 where
      pub mid : Knowledge
      pub copied : HasNotCopied range history begun mid why
      pub back : HasGivenBack leaves range history mid after

    -- memory ran out before it had the rows, or at its leaf
    pub data RanShort : Type 0 where
      OnTheWay : HasReturned fault.OutOfMemory → RanShort
      AtItsLeaf : HasCarried (λ mid. HasFoundNoMemory leaves range leaf history pass mid after) → RanShort

    abbrev pub HasEndedSo : Result Slot RecoverFault → Type 0
    HasEndedSo (Ok slot) = HasCarried (λ mid. HasOpened leaves range leaf history pass mid after slot)
    HasEndedSo (Err (fault.Serving slot)) = ⊥
    HasEndedSo (Err fault.ThreeServing) = ⊥
    HasEndedSo (Err (fault.SlotsSpent count)) = ⊥
    HasEndedSo (Err (fault.SourceDown founds)) = HasReturned (fault.SourceDown founds)
    HasEndedSo (Err (fault.TargetDown cut)) =
        HasCarried (λ mid. HasFoundTargetDown leaves range leaf history pass mid after cut)
    HasEndedSo (Err fault.OutOfMemory) = RanShort

-- ---- the whole recovery

-- the range may open one more replica on the leaf, and the recovery ended so
pub record HasTriedTo (leaves : ℕ) (range : Range) (leaf : Leaf) (pass : ℕ) (before after : Knowledge)
    (result : Result Slot RecoverFault) : Type 0 where
  pub history : List RangeEntry
  pub begun : Knowledge
  pub free : denial_of history leaf ≡ None
  pub begins : HasBegun leaves range history before begun
  pub ends : HasEndedSo leaves range leaf history pass begun after result

module _ (leaves : ℕ) (range : Range) (leaf : Leaf) (pass : ℕ) (before after : Knowledge) where
  -- memory ran out at the lock, where nothing else came of the call, or behind it
  pub data RanOut : Type 0 where
    AtLock : HasMetRange leaves range before.purse.holds before after → RanOut
    Behind : HasTriedTo leaves range leaf pass before after (Err fault.OutOfMemory) → RanOut

  abbrev pub HasNotRecovered : RecoverFault → Type 0
  HasNotRecovered (fault.Serving slot) =
      HasAsked leaves range before after (λ history. denial_of history leaf ≡ Some (ServesThere slot))
  HasNotRecovered fault.ThreeServing =
      HasAsked leaves range before after (λ history. denial_of history leaf ≡ Some ServesFully)
  HasNotRecovered (fault.SlotsSpent count) =
      HasAsked leaves range before after (λ history. denial_of history leaf ≡ Some (SlotsSpent count))
  HasNotRecovered (fault.SourceDown founds) =
      HasTriedTo leaves range leaf pass before after (Err (fault.SourceDown founds))
  HasNotRecovered (fault.TargetDown cut) =
      HasTriedTo leaves range leaf pass before after (Err (fault.TargetDown cut))
  HasNotRecovered fault.OutOfMemory = RanOut

  -- what a recovery gives, by its answer
  abbrev pub HasRecovered : Result Slot RecoverFault → Type 0
  HasRecovered (Ok slot) = HasTriedTo leaves range leaf pass before after (Ok slot)
  HasRecovered (Err why) = HasNotRecovered why
