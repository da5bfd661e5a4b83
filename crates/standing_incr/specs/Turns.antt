-- Rows and moments that come in turn, and what a result that is replayed over them answers.
use Rattle.std.specs.Prelude.{ℤ, pos, ◌≡◌, ◌≤ℤ◌, ℕ, List, [], ◌∷◌, ◌++◌, true, false, Result, Ok, Err}
use Rattle.mon_value.specs.LeafHistories.{IsSource}
use Rattle.mon_value.specs.declared.refusals.Refusal.{Refusal}
use Rattle.mon_value.specs.declared.refusals.Refusal.TheVariants as refusal
use Rattle.mon_value.specs.declared.rows.Row.{Row}
use Rattle.mon_value.specs.declared.tables.Table.{Table}
use Rattle.mon_meaning.specs.Central.{IsMeant, IsOver}
use Rattle.typed_trees.specs.Nodes.{TypedTree, typed_tree}
use Rattle.typed_trees.specs.Soundness.{IsTyped}
use Rattle.mon_meaning.specs.Incremental.{is_incremental}
use Rattle.standing_incr.specs.HeldRows.{held_of}
use Rattle.standing_incr.specs.Keeping.{StandingResult}
use Rattle.standing_incr.specs.declared.replaying.Turn.{Turn}
use Rattle.standing_incr.specs.declared.replaying.Turn.TheVariants as turn
use Rattle.standing_incr.specs.declared.faults.ReplayFault.{ReplayFault}
use Rattle.standing_incr.specs.declared.faults.ReplayFault.TheVariants as fault

-- the rows that are added
abbrev pub added : List Turn → List Row
added [] = []
added (turn.Add row ∷ turns) = row ∷ added turns
added (turn.Advance moment ∷ turns) = added turns

-- the last moment
abbrev pub moment_after : ℤ → List Turn → ℤ
moment_after moment [] = moment
moment_after moment (turn.Add row ∷ turns) = moment_after moment turns
moment_after moment (turn.Advance later ∷ turns) = moment_after later turns

-- no moment falls
abbrev pub MomentsRise : ℤ → List Turn → Type 0
MomentsRise moment [] = Unit {0}
MomentsRise moment (turn.Add row ∷ turns) = MomentsRise moment turns
MomentsRise moment (turn.Advance later ∷ turns) = (moment ≤ℤ later) × MomentsRise later turns

-- why there is no result, want of memory aside
abbrev pub IsReplayRefused : TypedTree → List Row → ℤ → ℕ → Refusal ReplayFault → Type 0
IsReplayRefused typed rows moment limit (refusal.Fault (fault.NotIncremental not)) = is_incremental typed.tree ≡ false
IsReplayRefused typed rows moment limit (refusal.Fault (fault.OverLimit over)) = IsOver typed rows moment limit over
IsReplayRefused typed rows moment limit refusal.OutOfMemory = Unit {0}

-- the table of a query over some rows, or why there is none
abbrev pub IsReplayed : TypedTree → List Row → ℤ → ℕ → Result Table (Refusal ReplayFault) → Type 0
IsReplayed typed rows moment limit (Ok table) = IsMeant typed rows moment limit table
IsReplayed typed rows moment limit (Err refused) = IsReplayRefused typed rows moment limit refused

-- a result without rows over which turns can be taken: their rows are a source that fits what the query was typed over,
-- and no moment falls
pub record CanReplay (start : StandingResult) (turns : List Turn) : Type 0 where
  pub empty : start.held ≡ []
  pub incremental : is_incremental (typed_tree start.typed).tree ≡ true
  pub fits : IsTyped (typed_tree start.typed) (added turns)
  pub source : IsSource (added turns)
  pub from : pos 0 ≤ℤ start.moment
  pub rise : MomentsRise start.moment turns

-- what is held is what is held of the rows of the turns that were taken, and no moment of the others falls
pub record HoldsAll (start : StandingResult) (turns taken left : List Turn) (kept : StandingResult) : Type 0 where
  pub whole : taken ++ left ≡ turns
  pub query : (typed_tree kept.typed) ≡ (typed_tree start.typed)
  pub moment : kept.moment ≡ moment_after start.moment taken
  pub held : kept.held ≡ held_of (typed_tree start.typed) kept.moment (added taken)
  pub from : pos 0 ≤ℤ kept.moment
  pub rise : MomentsRise kept.moment left
