-- A turn came to a leaf, and its write is at the next stage.
use Rattle.std.proofs.Common.{◌≡◌, ℕ, true, List, [], ◌∷◌, ◌++◌, refl, sym, ap, subst}
use Rattle.know.specs.Knowledge.{Knowledge}
use Rattle.know.specs.declared.answers.Found.{Found}
use Rattle.know.specs.declared.answers.Found.TheVariants as found
use Rattle.mon_value.specs.LeafHistories.{turn_entry}
use Rattle.mon_value.specs.declared.positions.Leaf.{Leaf}
use Rattle.mon_value.specs.declared.positions.Range.{Range}
use Rattle.mon_value.specs.declared.positions.Slot.{Slot}
use Rattle.mon_value.specs.declared.positions.SlotLeaf.{SlotLeaf}
use Rattle.mon_value.specs.Turns.{Turn}
use Rattle.owners.specs.Calls.{HasPut}
use Rattle.owners.specs.Puts.{pass_of, number_or}
use Rattle.range_cell.proofs.ApartReplicaLemmas.{apart_done, apart_left}
use Rattle.range_cell.proofs.FateLemmas.{asked_nothing, ready_is}
use Rattle.range_cell.proofs.NextStageLemmas.{at_entering, moved, pushed}
use Rattle.range_cell.proofs.WritingLemmas.{put_down, put_up}
use Rattle.range_cell.specs.Stages.{AreApart, IsAt, IsSoFar}
use Rattle.range_cell.specs.Turns.{after_put}
use Rattle.range_cell.specs.Writing.{put_of}
use Rattle.write_core.specs.Invariant.{AreAll, IsAtReady, is_asked, is_decided}
use Rattle.write_core.specs.Marks.{is_ready, with_fate}
use Rattle.write_core.specs.Program.{Acking, Ended, Entering, Inside, Locking, Reserving, Stage, ask_of, enter, reserve}
use Rattle.write_core.specs.declared.asks.WriteAsk.TheVariants as ask
use Rattle.write_core.specs.declared.marks.Fate.TheVariants as fate
use Rattle.write_core.specs.declared.marks.Mark.{Mark}

module _ (range : Range) (turn : Turn) (pass : ℕ) (before : Knowledge) (replicas : List SlotLeaf)
    (old new : Knowledge) where
  abbrev SoFar : Knowledge → List Mark → Type 0
  SoFar = IsSoFar range turn pass before replicas

  abbrev At : Knowledge → Stage → Type 0
  At = IsAt range turn pass before replicas

  by_put : (done left : List Mark) (mark : Mark) → AreApart replicas → SoFar old (done ++ mark ∷ left)
      → AreAll is_decided done → AreAll is_asked (mark ∷ left) → is_ready mark.fate ≡ true → (f : Found)
      → HasPut mark.leaf (put_of pass range turn mark) f old new
      → At new (after_put (Entering (record { done = done; left = mark ∷ left })) f)
  by_put done left mark apart so decided asked ready found.Up put =
      let here = subst AreApart (sym so.serve) apart in
      at_entering range turn pass before replicas new (done ++ with_fate mark fate.Took ∷ []) left
      (moved range turn pass before replicas new done left mark fate.Took
      (put_up range turn pass before old new done left mark so.writing (ready_is mark.fate ready)
      (apart_done range turn pass mark done left here) (apart_left range turn pass mark done left here)
      (asked_nothing pass range turn left asked.1) put)
      so.serve)
      (pushed (λ (m : Mark). is_decided m.fate ≡ true) done (with_fate mark fate.Took) decided refl) asked.1
  by_put done left mark apart so decided asked ready (found.Down cut) put =
      at_entering range turn pass before replicas new (done ++ with_fate mark (fate.Missed cut) ∷ []) left
      (moved range turn pass before replicas new done left mark (fate.Missed cut)
      (put_down range turn pass before old new done left mark so.writing (ready_is mark.fate ready) cut put)
      so.serve)
      (pushed (λ (m : Mark). is_decided m.fate ≡ true) done (with_fate mark (fate.Missed cut)) decided refl) asked.1

  put_next : (done left : List Mark) (slot : Slot) (leaf : Leaf) → AreApart replicas → SoFar old (done ++ left)
      → AreAll is_decided done → AreAll is_asked left → IsAtReady left → enter left ≡ ask.Enter slot leaf → (f : Found)
      → HasPut leaf (turn_entry pass range slot turn) f old new
      → At new (after_put (Entering (record { done = done; left = left })) f)
  put_next done [] slot leaf apart so decided asked ready asks f put = absurd cc
  put_next done (mark ∷ left) slot leaf apart so decided asked ready asks f put =
      let same : mark.leaf ≡ leaf = cc in
      let place : mark.slot ≡ slot = cc in
      by_put done left mark apart so decided asked ready f
      (subst (λ (l : Leaf). HasPut l (put_of pass range turn mark) f old new) (sym same)
      (subst (λ (s : Slot). HasPut leaf (turn_entry pass range s turn)
      f old new) (sym place) put))

  pub put_turn : (stage : Stage) (slot : Slot) (leaf : Leaf) → AreApart replicas → At old stage
      → ask_of stage ≡ ask.Enter slot leaf → (f : Found)
      → HasPut leaf (turn_entry (pass_of old) range slot turn) f old new
      → At new (after_put stage f)
  put_turn Locking slot leaf apart at asks f put = absurd cc
  put_turn (Reserving round) slot leaf apart at asks f put = absurd (reserving_not round.left asks)
    where
      reserving_not : (left : List Mark) → reserve left ≡ ask.Enter slot leaf → ⊥
      reserving_not [] h = cc
      reserving_not (mark ∷ left) h = cc
  put_turn (Entering round) slot leaf apart at asks f put =
      put_next round.done round.left slot leaf apart at.so_far at.decided at.asked at.ready asks f
      (subst (λ (n : ℕ). HasPut leaf (turn_entry n range slot turn) f
      old new) (ap (number_or 0) at.so_far.writing.number) put)
  put_turn (Inside round at_root in_zone) slot leaf apart at asks f put = absurd at
  put_turn (Acking verdict) slot leaf apart at asks f put = absurd cc
  put_turn (Ended verdict) slot leaf apart at asks f put = absurd at
