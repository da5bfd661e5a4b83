-- A leaf was asked for room, and its write is at the next stage.
use Rattle.std.proofs.Common.{◌≡◌, ℕ, true, List, [], ◌∷◌, ◌++◌, refl, sym, subst}
use Rattle.know.specs.Knowledge.{Knowledge}
use Rattle.know.specs.declared.answers.Found.{Found}
use Rattle.know.specs.declared.answers.Found.TheVariants as found
use Rattle.mon_value.specs.declared.positions.Leaf.{Leaf}
use Rattle.mon_value.specs.declared.positions.Range.{Range}
use Rattle.mon_value.specs.declared.positions.Slot.{Slot}
use Rattle.mon_value.specs.declared.positions.SlotLeaf.{SlotLeaf}
use Rattle.mon_value.specs.Turns.{Turn}
use Rattle.owners.specs.Calls.{HasReserved}
use Rattle.range_cell.proofs.FateLemmas.{waiting_is}
use Rattle.range_cell.proofs.NextStageLemmas.{at_reserving, moved, pushed}
use Rattle.range_cell.proofs.WritingLemmas.{reserved_down, reserved_up}
use Rattle.range_cell.specs.Stages.{IsAt, IsSoFar}
use Rattle.range_cell.specs.Turns.{told_of}
use Rattle.write_core.specs.Invariant.{AreAll, is_asked, is_waiting}
use Rattle.write_core.specs.Marks.{with_fate}
use Rattle.write_core.specs.Program.{Acking, Ended, Entering, Inside, Locking, Reserving, Stage, after, ask_of, enter}
use Rattle.write_core.specs.Program.{reserve}
use Rattle.write_core.specs.declared.asks.WriteAsk.TheVariants as ask
use Rattle.write_core.specs.declared.marks.Fate.TheVariants as fate
use Rattle.write_core.specs.declared.marks.Mark.{Mark}

module _ (range : Range) (turn : Turn) (pass : ℕ) (before : Knowledge) (replicas : List SlotLeaf)
    (old new : Knowledge) where
  abbrev SoFar : Knowledge → List Mark → Type 0
  SoFar = IsSoFar range turn pass before replicas

  abbrev At : Knowledge → Stage → Type 0
  At = IsAt range turn pass before replicas

  by_reserved : (done left : List Mark) (mark : Mark) → SoFar old (done ++ mark ∷ left) → AreAll is_asked done
      → AreAll is_waiting (mark ∷ left) → (f : Found) → HasReserved mark.leaf f old new
      → At new (after (Reserving (record { done = done; left = mark ∷ left })) (told_of f))
  by_reserved done left mark so asked waits found.Up reserved =
      at_reserving range turn pass before replicas new (done ++ with_fate mark fate.Ready ∷ []) left
      (moved range turn pass before replicas new done left mark fate.Ready
      (reserved_up range turn pass before old new done left mark so.writing (waiting_is mark.fate waits.0) reserved)
      so.serve)
      (pushed (λ (m : Mark). is_asked m.fate ≡ true) done (with_fate mark fate.Ready) asked refl) waits.1
  by_reserved done left mark so asked waits (found.Down cut) reserved =
      at_reserving range turn pass before replicas new (done ++ with_fate mark (fate.Missed cut) ∷ []) left
      (moved range turn pass before replicas new done left mark (fate.Missed cut)
      (reserved_down range turn pass before old new done left mark so.writing (waiting_is mark.fate waits.0) cut
      reserved)
      so.serve)
      (pushed (λ (m : Mark). is_asked m.fate ≡ true) done (with_fate mark (fate.Missed cut)) asked refl) waits.1

  reserved_next : (done left : List Mark) (slot : Slot) (leaf : Leaf) → SoFar old (done ++ left) → AreAll is_asked done
      → AreAll is_waiting left → reserve left ≡ ask.Reserve slot leaf → (f : Found) → HasReserved leaf f old new
      → At new (after (Reserving (record { done = done; left = left })) (told_of f))
  reserved_next done [] slot leaf so asked waits asks f reserved = absurd cc
  reserved_next done (mark ∷ left) slot leaf so asked waits asks f reserved =
      let same : mark.leaf ≡ leaf = cc in
      by_reserved done left mark so asked waits f (subst (λ (l : Leaf). HasReserved l f old new) (sym same) reserved)

  pub reserve_turn : (stage : Stage) (slot : Slot) (leaf : Leaf) → At old stage → ask_of stage ≡ ask.Reserve slot leaf
      → (f : Found) → HasReserved leaf f old new → At new (after stage (told_of f))
  reserve_turn Locking slot leaf at asks f reserved = absurd cc
  reserve_turn (Reserving round) slot leaf at asks f reserved =
      reserved_next round.done round.left slot leaf at.so_far at.asked at.waits asks f reserved
  reserve_turn (Entering round) slot leaf at asks f reserved = absurd (entering_not round.left asks)
    where
      entering_not : (left : List Mark) → enter left ≡ ask.Reserve slot leaf → ⊥
      entering_not [] h = cc
      entering_not (mark ∷ left) h = cc
  reserve_turn (Inside round at_root in_zone) slot leaf at asks f reserved = absurd at
  reserve_turn (Acking verdict) slot leaf at asks f reserved = absurd cc
  reserve_turn (Ended verdict) slot leaf at asks f reserved = absurd at
