-- How a retirement ends, and what its caller has then.
use Rattle.std.specs.Prelude.{◌≡◌, ℕ, List, [], ◌∷◌, ◌++◌}
use Rattle.history_book.specs.declared.views.BookEntry.{BookEntry}
use Rattle.history_book.specs.declared.views.BookEntry.TheVariants as one
use Rattle.history_book.specs.declared.views.History.{History}
use Rattle.history_book.specs.declared.views.History.TheVariants as of
use Rattle.know.specs.Knowledge.{Knowledge}
use Rattle.mon_config.specs.declared.config.Config.{Config}
use Rattle.mon_value.specs.Histories.{range_history}
use Rattle.mon_value.specs.declared.histories.RangeEntry.{RangeEntry}
use Rattle.mon_value.specs.declared.histories.RangeEntry.TheVariants as range_entry
use Rattle.mon_value.specs.declared.positions.Leaf.{Leaf}
use Rattle.mon_value.specs.declared.positions.Range.{Range}
use Rattle.mon_value.specs.declared.positions.Slot.{Slot}
use Rattle.owners.specs.Puts.{pass_of}
use Rattle.range_cell.specs.declared.answers.RetireFault.{RetireFault}
use Rattle.range_cell.specs.declared.answers.RetireFault.TheVariants as fault
use Rattle.write_core.specs.Retirements.{retirement_of}
use Rattle.write_core.specs.declared.retirements.Retirement.{Retirement}
use Rattle.write_core.specs.declared.retirements.Retirement.TheVariants as told
use Rattle.mon_store.specs.Writes.{IsStill, WasFoundSo, new_entries, only_in, own_entries}

-- the retirement of a slot, in the range's history
abbrev pub retired : ℕ → Range → Slot → History → List BookEntry
retired pass range slot whose = only_in (of.Range range) (one.Range (range_entry.Retired pass slot)) whose

module _ (config : Config) (range : Range) (leaf : Leaf) (before after : Knowledge) where
  -- The range was found with a history by which the replica in this slot serves on the leaf, and another beside it; its
  -- retirement is all that was added, behind all that the range was found with
  pub record IsRetired (slot : Slot) : Type 0 where
    pub history : List RangeEntry
    pub found : WasFoundSo config range history before after
    pub was : retirement_of history leaf ≡ told.WasRetired slot
    pub told : range_history after.seen range ≡ history ++ range_entry.Retired (pass_of before) slot ∷ []
    pub own : (whose : History) → own_entries after.purse.own whose
        ≡ own_entries before.purse.own whose ++ retired (pass_of before) range slot whose
    pub new : (whose : History) → new_entries before after whose ≡ retired (pass_of before) range slot whose
    pub still : IsStill before after

  -- The range was found with a history by which this is told
  pub record IsNotRetiredAs (why : Retirement) : Type 0 where
    pub history : List RangeEntry
    pub found : WasFoundSo config range history before after
    pub cause : retirement_of history leaf ≡ why

  -- why nothing was retired
  abbrev pub IsNotRetired : RetireFault → Type 0
  IsNotRetired fault.NotServing = IsNotRetiredAs told.NotServing
  IsNotRetired (fault.LastServing slot) = IsNotRetiredAs (told.LastServing slot)
