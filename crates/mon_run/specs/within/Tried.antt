-- What the run of a made input from memory came to, and the status that a trial has behind it.
use Rattle.std.specs.Prelude.{◌≡◌, ◌==◌, ℕ, true, false}
use Rattle.mon_run.specs.Endings.{Runs, is_status, progress, seen_by}
use Rattle.mon_run.specs.Steps.{Rose}
use Rattle.mon_run.specs.Outside.{FolderState, SinkState}
use Rattle.mon_run.specs.Trials.{made_words, trial_start}
use Rattle.mon_run.specs.declared.outcome.Outcome.{Outcome}

-- the made input of a number ran, and the sink is then so
pub record RanMade (number : ℕ) (sink : SinkState) (outcome : Outcome) : Type 0 where
  pub folder : FolderState
  pub ran : Runs made_words outcome.status (seen_by outcome.ended) (trial_start number)
      (progress folder sink outcome.lines)

-- behind a run that said something, a trial has one of these statuses
pub record EndsWith (status : ℕ) (before after : SinkState) : Type 0 where
  pub read : (status == 4) ≡ false
  pub write_failed : status ≡ 5 → Rose before.faults after.faults
  pub is : is_status status ≡ true
