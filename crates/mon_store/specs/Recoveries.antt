-- How a recovery ends, and what its caller has then.
use Rattle.std.specs.Prelude.{◌≡◌, ◌+◌, ℕ, List, [], ◌∷◌, ◌++◌, length, map, Some, None, Contains}
use Rattle.history_book.specs.Histories.{AreFronts}
use Rattle.history_book.specs.Seats.{hand_of}
use Rattle.history_book.specs.declared.views.BookEntry.{BookEntry}
use Rattle.history_book.specs.declared.views.BookEntry.TheVariants as one
use Rattle.history_book.specs.declared.views.History.{History}
use Rattle.history_book.specs.declared.views.History.TheVariants as of
use Rattle.know.specs.Knowledge.{Knowledge, stopped_count}
use Rattle.mon_config.specs.declared.config.Config.{Config}
use Rattle.mon_topo.specs.RangeHistories.{left_rows, serving}
use Rattle.mon_value.specs.Histories.{leaf_history, range_history}
use Rattle.mon_value.specs.declared.histories.Entry.TheVariants as entry
use Rattle.mon_value.specs.declared.histories.RangeEntry.{RangeEntry}
use Rattle.mon_value.specs.declared.histories.RangeEntry.TheVariants as range_entry
use Rattle.mon_value.specs.declared.positions.FoundDown.{FoundDown}
use Rattle.mon_value.specs.declared.positions.Leaf.{Leaf}
use Rattle.mon_value.specs.declared.positions.Range.{Range}
use Rattle.mon_value.specs.declared.positions.Slot.{Slot}
use Rattle.mon_value.specs.declared.positions.SlotLeaf.{SlotLeaf}
use Rattle.mon_value.specs.declared.rows.Row.{Row}
use Rattle.owners.specs.Puts.{pass_of}
use Rattle.range_cell.specs.declared.answers.RecoverFault.{RecoverFault}
use Rattle.range_cell.specs.declared.answers.RecoverFault.TheVariants as fault
use Rattle.write_core.specs.CopySteps.{next_slot}
use Rattle.write_core.specs.Recovering.{denial_of}
use Rattle.write_core.specs.declared.copies.Denial.TheVariants.{ServesFully, ServesThere, SlotsSpent}
use Rattle.mon_store.specs.Writes.{WasFoundSo, new_entries, only_in, own_entries}
use Rattle.running_query.specs.Ends.{WasFoundDown, WasFoundUp}

-- what a recovery adds: the replica with its rows, on the leaf, and the replica in its range's history
abbrev pub opened : ℕ → Range → Slot → Leaf → List Row → History → List BookEntry
opened pass range slot leaf rows whose =
    only_in (of.Leaf leaf) (one.Leaf (entry.Opened pass range slot rows)) whose
    ++ only_in (of.Range range) (one.Range (range_entry.Opened pass slot leaf)) whose

-- The number and what was met, handed out and lost are as before, and all that had been seen is seen; only the count of
-- rows may have grown, by those that were copied
pub record IsMoved (before after : Knowledge) : Type 0 where
  pub fronts : AreFronts before.seen after.seen
  pub number : (hand_of after.purse).own ≡ (hand_of before.purse).own
  pub met : after.purse.met ≡ before.purse.met
  pub stock : after.purse.stock ≡ before.purse.stock
  pub lost : after.purse.lost ≡ before.purse.lost

-- Nothing was opened: the caller's own entries are as before, and no history has a new one under its number
pub record IsUnrecovered (before after : Knowledge) : Type 0 where
  pub moved : IsMoved before after
  pub own : after.purse.own ≡ before.purse.own
  pub none : (history : History) → new_entries before after history ≡ []

-- the leaf of each of these replicas was found down, in their order
pub record WereFoundDown (before after : Knowledge) (replicas : List SlotLeaf) (founds : List FoundDown) : Type 0 where
  pub leaves : map (λ (found : FoundDown). found.leaf) founds ≡ map (λ (replica : SlotLeaf). replica.leaf) replicas
  pub down : (found : FoundDown) → Contains founds found → WasFoundDown before after found.leaf found.cut

-- the leaf of one of these replicas was found up
pub record WasSourceUp (before after : Knowledge) (replicas : List SlotLeaf) : Type 0 where
  pub source : SlotLeaf
  pub among : Contains replicas source
  pub cut : ℕ
  pub up : WasFoundUp before after source.leaf cut

module _ (config : Config) (range : Range) (leaf : Leaf) (before after : Knowledge) where
  -- The range's history opens one more replica on the leaf: in its next slot, with the rows that are left of the range.
  -- That stands in both histories, behind all that the range's had, and is all that was added; these rows were handed
  -- out
  pub record IsRecovered (slot : Slot) : Type 0 where
    pub history : List RangeEntry
    pub found : WasFoundSo config range history before after
    pub free : denial_of history leaf ≡ None
    pub next : slot ≡ next_slot history
    pub on_leaf : Contains (leaf_history after.seen leaf)
        (entry.Opened (pass_of before) range slot (left_rows history))
    pub told : range_history after.seen range ≡ history ++ range_entry.Opened (pass_of before) slot leaf ∷ []
    pub own : (whose : History) → own_entries after.purse.own whose
        ≡ own_entries before.purse.own whose ++ opened (pass_of before) range slot leaf (left_rows history) whose
    pub new : (whose : History) → new_entries before after whose
        ≡ opened (pass_of before) range slot leaf (left_rows history) whose
    pub moved : IsMoved before after
    pub handed : after.handed ≡ stopped_count (before.handed + length (left_rows history))

  -- The range was found with a history of which this is said
  pub record IsNotRecoveredAs (why : List RangeEntry → Type 0) : Type 0 where
    pub history : List RangeEntry
    pub found : WasFoundSo config range history before after
    pub cause : why history

  -- why nothing was opened
  abbrev pub IsNotRecovered : RecoverFault → Type 0
  IsNotRecovered (fault.Serving slot) = IsNotRecoveredAs (λ history. denial_of history leaf ≡ Some (ServesThere slot))
  IsNotRecovered fault.ThreeServing = IsNotRecoveredAs (λ history. denial_of history leaf ≡ Some ServesFully)
  IsNotRecovered (fault.SlotsSpent count) =
      IsNotRecoveredAs (λ history. denial_of history leaf ≡ Some (SlotsSpent count))
  IsNotRecovered (fault.SourceDown founds) =
      IsNotRecoveredAs (λ history. (denial_of history leaf ≡ None) × WereFoundDown before after (serving history) founds)
  IsNotRecovered (fault.TargetDown cut) =
      IsNotRecoveredAs (λ history. (denial_of history leaf ≡ None) × WasFoundDown before after leaf cut
      × WasSourceUp before after (serving history))
  IsNotRecovered fault.OutOfMemory = Unit {0}
