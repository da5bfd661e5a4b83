-- How a trim ends, and what its caller has then.
use Rattle.std.specs.Prelude.{◌≡◌, ℕ, ℤ, List, [], ◌∷◌, ◌++◌, map, Contains}
use Rattle.history_book.specs.declared.views.BookEntry.{BookEntry}
use Rattle.history_book.specs.declared.views.History.{History}
use Rattle.know.specs.Knowledge.{Knowledge}
use Rattle.mon_config.specs.declared.config.Config.{Config}
use Rattle.mon_topo.specs.RangeHistories.{IsAckOf, serving}
use Rattle.mon_value.specs.Histories.{range_history}
use Rattle.mon_value.specs.Turns.{Hides}
use Rattle.mon_value.specs.declared.histories.Ack.{Ack}
use Rattle.mon_value.specs.declared.histories.Miss.{Miss}
use Rattle.mon_value.specs.declared.histories.RangeEntry.{RangeEntry}
use Rattle.mon_value.specs.declared.histories.RangeEntry.TheVariants as range_entry
use Rattle.mon_value.specs.declared.positions.FoundDown.{FoundDown}
use Rattle.mon_value.specs.declared.positions.Range.{Range}
use Rattle.mon_value.specs.declared.positions.SlotLeaf.{SlotLeaf}
use Rattle.owners.specs.Puts.{pass_of}
use Rattle.range_cell.specs.declared.answers.TrimFault.{TrimFault}
use Rattle.range_cell.specs.declared.answers.TrimFault.TheVariants as fault
use Rattle.running_query.specs.Ends.{WasFoundDown}
use Rattle.mon_store.specs.Writes.{IsStill, WasFoundSo, new_entries, own_entries, turn_in, turned}

-- the trim of a replica, on its leaf
abbrev pub trim_in : ℕ → Range → ℤ → History → SlotLeaf → List BookEntry
trim_in pass range bound = turn_in pass range (Hides bound)

-- one of each replica that took the bound, and the one acknowledgement, in the range's history
abbrev pub trimmed : ℕ → Range → ℤ → Ack → List SlotLeaf → History → List BookEntry
trimmed pass range bound = turned pass range (Hides bound)

module _ (config : Config) (range : Range) (bound : ℤ) (before after : Knowledge) where
  -- The bound came to the range, which was found with this history: each replica that serves by it took the bound or
  -- missed it, and some took it; these trims and the acknowledgement are all that was added, behind all that had been
  -- seen; and each leaf that missed the bound was found down
  pub record IsTrimmed (ack : Ack) : Type 0 where
    pub history : List RangeEntry
    pub found : WasFoundSo config range history before after
    pub named : IsAckOf range (serving history) ack
    pub took : List SlotLeaf
    pub took_are : map (λ (replica : SlotLeaf). replica.slot) took ≡ ack.took
    pub served : (replica : SlotLeaf) → Contains took replica → Contains (serving history) replica
    pub acknowledged : range_history after.seen range
        ≡ history ++ range_entry.Trimmed (pass_of before) bound ack ∷ []
    pub own : (whose : History) → own_entries after.purse.own whose
        ≡ own_entries before.purse.own whose ++ trimmed (pass_of before) range bound ack took whose
    pub new : (whose : History)
        → new_entries before after whose ≡ trimmed (pass_of before) range bound ack took whose
    pub missed : (miss : Miss) → Contains ack.missed miss → WasFoundDown before after miss.leaf miss.cut
    pub still : IsStill before after

module _ (config : Config) (range : Range) (before after : Knowledge) where
  -- By the history that the range was found with, each replica that serves is on a leaf that was found down
  pub record AreAllDown (at : Range) (founds : List FoundDown) : Type 0 where
    pub at_is : at ≡ range
    pub history : List RangeEntry
    pub found : WasFoundSo config range history before after
    pub leaves : map (λ (found : FoundDown). found.leaf) founds
        ≡ map (λ (replica : SlotLeaf). replica.leaf) (serving history)
    pub down : (found : FoundDown) → Contains founds found → WasFoundDown before after found.leaf found.cut

  -- why the bound did not come
  abbrev pub IsNotTrimmed : TrimFault → Type 0
  IsNotTrimmed (fault.Unavailable at founds) = AreAllDown at founds
  IsNotTrimmed fault.OutOfMemory = Unit {0}
