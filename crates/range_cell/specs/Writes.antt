-- How a write ended, and what its caller has then.
use Rattle.std.specs.Prelude.{◌≡◌, ℕ, true, false, List, [], Result, Ok, Err}
use Rattle.std.specs.List.{flat_map}
use Rattle.know.specs.Knowledge.{Knowledge}
use Rattle.mon_topo.specs.RangeHistories.{serving, turn_ack}
use Rattle.mon_value.specs.Histories.{range_history}
use Rattle.mon_value.specs.declared.histories.Ack.{Ack}
use Rattle.mon_value.specs.declared.histories.RangeEntry.{RangeEntry}
use Rattle.mon_value.specs.declared.positions.FoundDown.{FoundDown}
use Rattle.mon_value.specs.declared.positions.Range.{Range}
use Rattle.mon_value.specs.declared.rows.Row.{Row}
use Rattle.mon_value.specs.Turns.{Turn, Adds}
use Rattle.range_cell.specs.Calls.{HasBegun, HasEntered, HasGivenBack, HasMetRange}
use Rattle.range_cell.specs.Stages.{IsThrough, IsWithdrawing}
use Rattle.range_cell.specs.declared.answers.TrimFault.{TrimFault}
use Rattle.range_cell.specs.declared.answers.TrimFault.TheVariants as trim_fault
use Rattle.range_cell.specs.declared.answers.WriteFault.{WriteFault}
use Rattle.range_cell.specs.declared.answers.WriteFault.TheVariants as fault
use Rattle.write_core.specs.Marks.{ack_of, found_in_mark, some_took}
use Rattle.write_core.specs.RangeAnswers.{lock_answer}
use Rattle.write_core.specs.declared.asks.WriteTold.TheVariants as told
use Rattle.write_core.specs.declared.marks.Mark.{Mark}

-- ---- behind the lock: `begun` is what the caller had once it held the range, whose history this is

module _ (leaves : ℕ) (range : Range) (turn : Turn) (history : List RangeEntry) (pass : ℕ) (begun after : Knowledge) where
  -- Each replica took the turn or was found down, some took it, and this is acknowledged
  pub record HasAcknowledged (ack : Ack) : Type 0 where
    pub mid : Knowledge
    pub marks : List Mark
    pub through : IsThrough range turn pass begun (serving history) mid marks
    pub some : some_took marks ≡ true
    pub ack_is : ack_of range marks ≡ ack
    pub entered : HasEntered leaves range history (turn_ack pass turn ack) mid after

  -- Each replica was found down, and nothing was written
  pub record HasFoundNone (founds : List FoundDown) : Type 0 where
    pub mid : Knowledge
    pub marks : List Mark
    pub through : IsThrough range turn pass begun (serving history) mid marks
    pub none : some_took marks ≡ false
    pub founds_are : flat_map found_in_mark marks ≡ founds
    pub back : HasGivenBack leaves range history mid after

  -- It was given up for want of memory: nothing was written, and no room is left
  pub record HasGivenUp : Type 0 where
    pub mid : Knowledge
    pub withdrawn : IsWithdrawing range pass begun (serving history) mid []
    pub back : HasGivenBack leaves range history mid after

  abbrev pub HasNotCome : TrimFault → Type 0
  HasNotCome (trim_fault.Unavailable at founds) = (at ≡ range) × HasFoundNone founds
  HasNotCome trim_fault.OutOfMemory = HasGivenUp

  -- how a turn ended, be it a row or a bound
  abbrev pub HasTurned : Result Ack TrimFault → Type 0
  HasTurned (Ok ack) = HasAcknowledged ack
  HasTurned (Err fault) = HasNotCome fault

  abbrev pub HasFailed : WriteFault → Type 0
  HasFailed fault.NoZone = ⊥
  HasFailed (fault.OldPoint last) = ⊥
  HasFailed (fault.RangeFull count) = ⊥
  HasFailed (fault.Unavailable at founds) = (at ≡ range) × HasFoundNone founds
  HasFailed fault.OutOfMemory = HasGivenUp

  -- and how a write did
  abbrev pub HasEnded : Result Ack WriteFault → Type 0
  HasEnded (Ok ack) = HasAcknowledged ack
  HasEnded (Err fault) = HasFailed fault

-- ---- the whole write

-- the caller came to the range, was told this, and went as it came
pub record HasAsked (leaves : ℕ) (range : Range) (before after : Knowledge) (told : List RangeEntry → Type 0)
    : Type 0 where
  pub met : HasMetRange leaves range before.purse.holds before after
  pub why : told (range_history after.seen range)

-- the row went in, and the write ended so
pub record HasTried (leaves : ℕ) (range : Range) (row : Row) (limit pass : ℕ) (before : Knowledge)
    (ended : List RangeEntry → Knowledge → Type 0) : Type 0 where
  pub history : List RangeEntry
  pub begun : Knowledge
  pub takes : lock_answer limit history row ≡ told.Slots (serving history)
  pub begins : HasBegun leaves range history before begun
  pub ends : ended history begun

module _ (leaves : ℕ) (range : Range) (row : Row) (limit pass : ℕ) (before after : Knowledge) where
  abbrev pub HasTriedTo : Result Ack WriteFault → Type 0
  HasTriedTo result = HasTried leaves range row limit pass before
      (λ history begun. HasEnded leaves range (Adds row) history pass begun after result)

  -- memory ran out at the lock, where nothing else came of the call, or behind it
  pub data RanOut : Type 0 where
    AtLock : HasMetRange leaves range before.purse.holds before after → RanOut
    Behind : HasTriedTo (Err fault.OutOfMemory) → RanOut

  abbrev pub HasNotWritten : WriteFault → Type 0
  HasNotWritten fault.NoZone = ⊥
  HasNotWritten (fault.OldPoint last) =
      HasAsked leaves range before after (λ history. lock_answer limit history row ≡ told.OldPoint last)
  HasNotWritten (fault.RangeFull count) =
      HasAsked leaves range before after (λ history. lock_answer limit history row ≡ told.RangeFull count)
  HasNotWritten (fault.Unavailable at founds) = HasTriedTo (Err (fault.Unavailable at founds))
  HasNotWritten fault.OutOfMemory = RanOut

  -- what a write gives, by its answer
  abbrev pub HasWritten : Result Ack WriteFault → Type 0
  HasWritten (Ok ack) = HasTriedTo (Ok ack)
  HasWritten (Err fault) = HasNotWritten fault
