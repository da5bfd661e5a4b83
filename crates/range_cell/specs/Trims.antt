-- How a trim ended, and what its caller has then.
use Rattle.std.specs.Prelude.{ℕ, ℤ, List, Result, Ok, Err}
use Rattle.know.specs.Knowledge.{Knowledge}
use Rattle.mon_value.specs.declared.histories.Ack.{Ack}
use Rattle.mon_value.specs.declared.histories.RangeEntry.{RangeEntry}
use Rattle.mon_value.specs.declared.positions.Range.{Range}
use Rattle.mon_value.specs.Turns.{Hides}
use Rattle.range_cell.specs.Calls.{HasBegun, HasMetRange}
use Rattle.range_cell.specs.Writes.{HasTurned}
use Rattle.range_cell.specs.declared.answers.TrimFault.{TrimFault}
use Rattle.range_cell.specs.declared.answers.TrimFault.TheVariants as fault

module _ (leaves : ℕ) (range : Range) (bound : ℤ) (pass : ℕ) (before after : Knowledge) where
  -- the caller held the range, which had this history, and the trim ended so
  pub record HasTriedTo (result : Result Ack TrimFault) : Type 0 where
    pub history : List RangeEntry
    pub begun : Knowledge
    pub begins : HasBegun leaves range history before begun
    pub ends : HasTurned leaves range (Hides bound) history pass begun after result

  -- memory ran out at the lock, where nothing else came of the call, or behind it
  pub data RanOut : Type 0 where
    AtLock : HasMetRange leaves range before.purse.holds before after → RanOut
    Behind : HasTriedTo (Err fault.OutOfMemory) → RanOut

  abbrev pub HasNotTrimmed : TrimFault → Type 0
  HasNotTrimmed (fault.Unavailable at founds) = HasTriedTo (Err (fault.Unavailable at founds))
  HasNotTrimmed fault.OutOfMemory = RanOut

  -- what a trim gives, by its answer
  abbrev pub HasTrimmed : Result Ack TrimFault → Type 0
  HasTrimmed (Ok ack) = HasTriedTo (Ok ack)
  HasTrimmed (Err fault) = HasNotTrimmed fault
