-- How a write's machine ends once all replicas are decided, what the range's lock tells a row, and how writes and trims
-- end.
use Rattle.std.proofs.Common.{◌≡◌, ℕ, Bool, true, false, List, refl}
use Rattle.std.proofs.Common.{ap, subst, ◌∙◌, cond, None, Some}
use Rattle.std.specs.Prelude.{ℤ, Option, Result, Ok, Err}
use Rattle.std.specs.List.{flat_map}
use Rattle.mon_value.proofs.SourceMoreLemmas.{source_more}
use Rattle.mon_topo.specs.RangeHistories.{IsLegal, acknowledged_rows, serving}
use Rattle.mon_topo.specs.Settings.{Setting}
use Rattle.mon_value.specs.declared.histories.Ack.{Ack}
use Rattle.mon_value.specs.declared.histories.RangeEntry.{RangeEntry}
use Rattle.mon_value.specs.declared.positions.FoundDown.{FoundDown}
use Rattle.mon_value.specs.declared.positions.Range.{Range}
use Rattle.mon_value.specs.Turns.{Adds, Hides}
use Rattle.mon_value.specs.declared.rows.Row.{Row}
use Rattle.know.specs.Knowledge.{Knowledge}
use Rattle.range_cell.specs.Calls.{HasBegun}
use Rattle.range_cell.specs.Trims as trims
use Rattle.range_cell.specs.Writes.{Behind, HasEnded, HasTriedTo, HasTurned, HasWritten}
use Rattle.range_cell.specs.declared.answers.TrimFault.{TrimFault}
use Rattle.range_cell.specs.declared.answers.TrimFault.TheVariants as trim_fault
use Rattle.range_cell.specs.declared.answers.WriteFault.{WriteFault}
use Rattle.range_cell.specs.declared.answers.WriteFault.TheVariants as fault
use Rattle.write_core.proofs.LockLemmas.{lock_told}
use Rattle.write_core.proofs.OpeningLemmas.{acked_source}
use Rattle.write_core.specs.Marks.{ack_of, end_of, found_in_mark, some_took}
use Rattle.write_core.specs.Program.{Acking, Ended, EndsSo, Marked, Stage, after}
use Rattle.write_core.specs.RangeAnswers.{lock_answer, refusal, told_unless}
use Rattle.write_core.specs.Steps.{IsToldByRange}
use Rattle.write_core.specs.declared.asks.WriteEnd.{WriteEnd}
use Rattle.write_core.specs.declared.asks.WriteEnd.TheVariants as end
use Rattle.write_core.specs.declared.asks.WriteTold.{WriteTold}
use Rattle.write_core.specs.declared.asks.WriteTold.TheVariants as told
use Rattle.write_core.specs.declared.marks.Mark.{Mark}
use Rattle.write_core.specs.declared.refusals.Refused.{Refused}
use Rattle.write_core.specs.declared.refusals.Refused.TheVariants as refused

-- ---- the end

module _ (range : Range) (marks : List Mark) where
  abbrev end_by : Bool → WriteEnd
  end_by b = cond b (end.Written (ack_of range marks)) (end.Unavailable (flat_map found_in_mark marks))

  written_at : (ack : Ack) (b : Bool) → some_took marks ≡ b → end.Written ack ≡ end_by b
      → (some_took marks ≡ true) × (ack_of range marks ≡ ack)
  written_at ack true is e = (is, cc)
  written_at ack false is e = absurd cc

  -- it is written where some replica took the row
  pub written_end : (ack : Ack) → end.Written ack ≡ end_of range marks
      → (some_took marks ≡ true) × (ack_of range marks ≡ ack)
  written_end ack e = written_at ack (some_took marks) refl e

  unavailable_at : (founds : List FoundDown) (b : Bool) → some_took marks ≡ b → end.Unavailable founds ≡ end_by b
      → (some_took marks ≡ false) × (flat_map found_in_mark marks ≡ founds)
  unavailable_at founds true is e = absurd cc
  unavailable_at founds false is e = (is, cc)

  pub unavailable_end : (founds : List FoundDown) → end.Unavailable founds ≡ end_of range marks
      → (some_took marks ≡ false) × (flat_map found_in_mark marks ≡ founds)
  unavailable_end founds e = unavailable_at founds (some_took marks) refl e

  -- the machine that was told that it is done has ended so
  pub ended_so : (other : Range) (stage next : Stage) (e : WriteEnd) → stage ≡ Acking (Marked marks)
      → next ≡ after stage told.Done → other ≡ range → EndsSo other next e → e ≡ end_of range marks
  ended_so other stage next e acking done same ends =
      subst (λ (r : Range). EndsSo r (Ended (Marked marks)) e) same
      (subst (λ (s : Stage). EndsSo other s e) (done ∙ ap (λ s. after s told.Done) acking) ends)

-- ---- at the lock

-- a row that goes in may come behind the acknowledged ones
pub taken_true : (setting : Setting) (range : Range) (history : List RangeEntry) (row : Row)
    → IsLegal setting.held setting.zones setting.points range history
    → IsToldByRange setting history (Adds row) (lock_answer setting.points history row)
taken_true setting range history row legal =
    lock_told setting range history row legal
    (source_more (acknowledged_rows history) row
    (acked_source setting.held setting.zones setting.points range history legal))

-- it tells no other answers
abbrev told_at_lock : WriteTold → Bool
told_at_lock (told.Slots replicas) = true
told_at_lock (told.OldPoint last) = true
told_at_lock (told.RangeFull count) = true
told_at_lock (told.Up buckets) = false
told_at_lock (told.Down cut) = false
told_at_lock told.Done = false

lock_tells : (limit : ℕ) (history : List RangeEntry) (row : Row)
    → told_at_lock (lock_answer limit history row) ≡ true
lock_tells limit history row = by (refusal limit history row)
  where
    by : (why : Option Refused) → told_at_lock (told_unless (serving history) why) ≡ true
    by None = refl
    by (Some (refused.OldPoint last)) = refl
    by (Some (refused.RangeFull count)) = refl

module _ (limit : ℕ) (history : List RangeEntry) (row : Row) where
  pub never_up : (buckets : List ℕ) → told.Up buckets ≡ lock_answer limit history row → ⊥
  never_up buckets e = by (ap told_at_lock e ∙ lock_tells limit history row)
    where
      by : false ≡ true → ⊥
      by h = cc

  pub never_down : (cut : ℕ) → told.Down cut ≡ lock_answer limit history row → ⊥
  never_down cut e = by (ap told_at_lock e ∙ lock_tells limit history row)
    where
      by : false ≡ true → ⊥
      by h = cc

  pub never_done : told.Done ≡ lock_answer limit history row → ⊥
  never_done e = by (ap told_at_lock e ∙ lock_tells limit history row)
    where
      by : false ≡ true → ⊥
      by h = cc

-- what no lock tells
pub ruleset never_at_lock = (never_up, never_down, never_done)

-- ---- what a write gives

module _ (leaves : ℕ) (range : Range) (row : Row) (limit pass : ℕ) (before after : Knowledge)
    (history : List RangeEntry) (begun : Knowledge) (takes : lock_answer limit history row ≡ told.Slots (serving history))
    (begins : HasBegun leaves range history before begun) where
  tried : (result : Result Ack WriteFault) → HasEnded leaves range (Adds row) history pass begun after result
      → HasTriedTo leaves range row limit pass before after result
  tried result ended = record { history = history; begun = begun; takes = takes; begins = begins; ends = ended }

  pub ended_written : (result : Result Ack WriteFault) → HasEnded leaves range (Adds row) history pass begun after result
      → HasWritten leaves range row limit pass before after result
  ended_written (Ok ack) ended = tried (Ok ack) ended
  ended_written (Err fault.NoZone) ended = absurd ended
  ended_written (Err (fault.OldPoint last)) ended = absurd ended
  ended_written (Err (fault.RangeFull count)) ended = absurd ended
  ended_written (Err (fault.Unavailable at founds)) ended = tried (Err (fault.Unavailable at founds)) ended
  ended_written (Err fault.OutOfMemory) ended = Behind (tried (Err fault.OutOfMemory) ended)

-- ---- what a trim gives

module _ (leaves : ℕ) (range : Range) (bound : ℤ) (pass : ℕ) (before after : Knowledge) (history : List RangeEntry)
    (begun : Knowledge) (begins : HasBegun leaves range history before begun) where
  held_to : (result : Result Ack TrimFault) → HasTurned leaves range (Hides bound) history pass begun after result
      → trims.HasTriedTo leaves range bound pass before after result
  held_to result ended = record { history = history; begun = begun; begins = begins; ends = ended }

  pub turned_trimmed : (result : Result Ack TrimFault)
      → HasTurned leaves range (Hides bound) history pass begun after result
      → trims.HasTrimmed leaves range bound pass before after result
  turned_trimmed (Ok ack) ended = held_to (Ok ack) ended
  turned_trimmed (Err (trim_fault.Unavailable at founds)) ended = held_to (Err (trim_fault.Unavailable at founds)) ended
  turned_trimmed (Err trim_fault.OutOfMemory) ended = trims.Behind (held_to (Err trim_fault.OutOfMemory) ended)
