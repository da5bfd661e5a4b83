-- How a retirement ended, and what its caller has then.
use Rattle.std.specs.Prelude.{◌≡◌, ℕ, List, Result, Ok, Err}
use Rattle.know.specs.Knowledge.{Knowledge}
use Rattle.mon_topo.specs.HeldHistories.{BeginsWith}
use Rattle.mon_value.specs.Histories.{range_history}
use Rattle.mon_value.specs.declared.histories.RangeEntry.{RangeEntry}
use Rattle.mon_value.specs.declared.histories.RangeEntry.TheVariants as range_entry
use Rattle.mon_value.specs.declared.positions.Leaf.{Leaf}
use Rattle.mon_value.specs.declared.positions.Range.{Range}
use Rattle.mon_value.specs.declared.positions.Slot.{Slot}
use Rattle.range_cell.specs.Calls.{HasEntered}
use Rattle.range_cell.specs.Writes.{HasAsked}
use Rattle.range_cell.specs.declared.answers.RetireFault.{RetireFault}
use Rattle.range_cell.specs.declared.answers.RetireFault.TheVariants as fault
use Rattle.write_core.specs.Retirements.{retirement_of}
use Rattle.write_core.specs.declared.retirements.Retirement.TheVariants as told

module _ (leaves : ℕ) (range : Range) (leaf : Leaf) (pass : ℕ) (before after : Knowledge) where
  -- The range was found with this history, by which its replica on the leaf may go, and just this entry came to it; the
  -- caller holds what it held
  pub record HasRetiredSo (slot : Slot) : Type 0 where
    pub history : List RangeEntry
    pub front : BeginsWith history (range_history before.seen range)
    pub told_so : retirement_of history leaf ≡ told.WasRetired slot
    pub entered : HasEntered leaves range history (range_entry.Retired pass slot) before after
    pub holding : after.purse.holds ≡ before.purse.holds

  -- by the history whose length was noted it may not, and nothing else came of the call
  abbrev pub HasNotRetired : RetireFault → Type 0
  HasNotRetired fault.NotServing =
      HasAsked leaves range before after (λ history. retirement_of history leaf ≡ told.NotServing)
  HasNotRetired (fault.LastServing slot) =
      HasAsked leaves range before after (λ history. retirement_of history leaf ≡ told.LastServing slot)

  -- what a retirement gives, by its answer
  abbrev pub HasRetired : Result Slot RetireFault → Type 0
  HasRetired (Ok slot) = HasRetiredSo slot
  HasRetired (Err why) = HasNotRetired why
