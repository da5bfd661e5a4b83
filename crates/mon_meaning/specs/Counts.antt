-- What is counted, and what a refusal says of it.
use Rattle.std.specs.Prelude.{◌<◌, ◌≤◌, ℕ}
use Rattle.mon_value.specs.declared.refusals.Refusal.{Refusal}
use Rattle.mon_value.specs.declared.refusals.Refusal.TheVariants as refusal
use Rattle.mon_meaning.specs.declared.meter.OverLimit.{OverLimit}

-- the load that is told lies above the limit, and is at most what there is to count
pub record IsLoadBetween (limit most : ℕ) (over : OverLimit) : Type 0 where
  pub above : limit < over.load
  pub within : over.load ≤ most

-- a refusal tells such a load, want of memory aside
abbrev pub TellsOver : ℕ → ℕ → Refusal OverLimit → Type 0
TellsOver limit most (refusal.Fault over) = IsLoadBetween limit most over
TellsOver limit most refusal.OutOfMemory = Unit {0}
