-- A write that asks for nothing more has all its marks decided.
use Rattle.std.proofs.Common.{◌≡◌, ℕ, false, List, [], ◌∷◌, refl}
use Rattle.know.specs.Knowledge.{Knowledge}
use Rattle.mon_value.specs.declared.positions.Range.{Range}
use Rattle.mon_value.specs.declared.positions.SlotLeaf.{SlotLeaf}
use Rattle.mon_value.specs.Turns.{Turn}
use Rattle.range_cell.specs.Stages.{IsAt, IsQuiet, IsThroughAt}
use Rattle.write_core.specs.Program.{Acking, Ended, Entering, Inside, Locking, Marked, Not, Reserving, Stage, ask_of}
use Rattle.write_core.specs.Program.{enter, reserve}
use Rattle.write_core.specs.Rounds.{is_no_mark_left}
use Rattle.write_core.specs.declared.marks.Mark.{Mark}

module _ (range : Range) (turn : Turn) (pass : ℕ) (before : Knowledge) (replicas : List SlotLeaf)
    (know : Knowledge) where
  pub is_through_at : (stage : Stage) → IsAt range turn pass before replicas know stage → IsQuiet (ask_of stage)
      → IsThroughAt range turn pass before replicas know stage
  is_through_at Locking at quiet = absurd at
  is_through_at (Reserving round) at quiet = absurd (by round.left at.more quiet)
    where
      by : (left : List Mark) → is_no_mark_left left ≡ false → IsQuiet (reserve left) → ⊥
      by [] more quiet = cc
      by (mark ∷ left) more quiet = quiet
  is_through_at (Entering round) at quiet = absurd (by round.left at.more quiet)
    where
      by : (left : List Mark) → is_no_mark_left left ≡ false → IsQuiet (enter left) → ⊥
      by [] more quiet = cc
      by (mark ∷ left) more quiet = quiet
  is_through_at (Inside round at_root in_zone) at quiet = absurd at
  is_through_at (Acking (Not why)) at quiet = absurd at
  is_through_at (Acking (Marked marks)) at quiet = record { marks = marks; stage_is = refl; through = at }
  is_through_at (Ended verdict) at quiet = absurd at
