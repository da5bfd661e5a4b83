-- What a call requires holds at the stage that asks for the call.
use Rattle.std.proofs.Common.{◌≡◌, ℕ, ◌<◌, List, [], ◌∷◌, ◌++◌, length, map, sym, ap, append-nil, subst, ◌∙◌, Some}
use Rattle.std.specs.List.{AllByRecursion}
use Rattle.know.specs.Knowledge.{Knowledge}
use Rattle.mon_topo.specs.Settings.{Setting}
use Rattle.mon_topo.specs.Zones.{leaves_in}
use Rattle.mon_value.specs.Histories.{leaf_history}
use Rattle.mon_value.specs.LeafHistories.{replica_rows}
use Rattle.mon_value.specs.declared.positions.Leaf.{Leaf}
use Rattle.mon_value.specs.declared.positions.Range.{Range}
use Rattle.mon_value.specs.declared.positions.Slot.{Slot}
use Rattle.mon_value.specs.declared.positions.SlotLeaf.{SlotLeaf}
use Rattle.mon_value.specs.declared.rows.Row.{Row}
use Rattle.mon_value.specs.Turns.{Turn, Adds, Hides}
use Rattle.history_book.specs.Seats.{hand_of, times_range, times_room}
use Rattle.owners.specs.Puts.{HasSeenOpened, MayTurn, number_or, pass_of}
use Rattle.range_cell.proofs.ApartReplicaLemmas.{at_mark}
use Rattle.range_cell.proofs.FateLemmas.{ready_is, waiting_is}
use Rattle.range_cell.proofs.WritingLemmas.{all_back, has_room}
use Rattle.range_cell.specs.Stages.{ArePlaced, ComesBehind, IsOpenTo, IsSoFar, IsSomewhere}
use Rattle.range_cell.specs.Writing.{HasTurns, IsFated, IsWriting}
use Rattle.write_core.specs.Invariant.{AreAll, IsAtReady, is_waiting}
use Rattle.write_core.specs.Marks.{replica_of}
use Rattle.write_core.specs.Program.{Acking, Ended, Entering, Inside, Locking, Reserving, Stage, ask_of, enter, reserve}
use Rattle.write_core.specs.Steps.{IsTurnAtHome}
use Rattle.write_core.specs.declared.asks.WriteAsk.TheVariants as ask
use Rattle.write_core.specs.declared.marks.Fate.{Fate}
use Rattle.write_core.specs.declared.marks.Mark.{Mark}

module _ (setting : Setting) (range : Range) (turn : Turn) (know : Knowledge) where
  seen_by : (before : Knowledge) (mark : Mark) (done left : List Mark) (replicas : List SlotLeaf)
      → ArePlaced setting replicas → map replica_of (done ++ mark ∷ left) ≡ replicas
      → HasTurns before know range mark.slot mark.leaf [] → HasSeenOpened setting know mark.leaf range mark.slot
  seen_by before mark done left replicas placed serve has = record {
    there = at_mark (λ (replica : SlotLeaf). replica.leaf.0 < length (leaves_in setting.zones)) done left mark
        (subst (AllByRecursion (λ (replica : SlotLeaf). replica.leaf.0 < length (leaves_in setting.zones))) (sym serve)
        placed.there);
    opened = has.opened;
  }

  fated_at : (pass : ℕ) (before : Knowledge) (done left : List Mark) (mark : Mark)
      → IsWriting range turn pass before know (done ++ mark ∷ left)
      → IsFated range turn pass before know mark mark.fate
  fated_at pass before done left mark w =
      (all_back (λ (m : Mark). IsFated range turn pass before know m m.fate) done (mark ∷ left) w.each).0

  reserve_seen : (pass : ℕ) (before : Knowledge) (replicas : List SlotLeaf) (done left : List Mark)
      (slot : Slot) (leaf : Leaf) → ArePlaced setting replicas → IsSoFar range turn pass before replicas know (done ++ left)
      → AreAll is_waiting left → reserve left ≡ ask.Reserve slot leaf → HasSeenOpened setting know leaf range slot
  reserve_seen pass before replicas done [] slot leaf placed so waits asks = absurd cc
  reserve_seen pass before replicas done (mark ∷ left) slot leaf placed so waits asks =
      let same : mark.leaf ≡ leaf = cc in
      let place : mark.slot ≡ slot = cc in
      subst (λ (l : Leaf). HasSeenOpened setting know l range slot) same
      (subst (λ (s : Slot). HasSeenOpened setting know mark.leaf range s) place
      (seen_by before mark done left replicas placed so.serve
      (subst (λ (f : Fate). IsFated range turn pass before know mark f) (waiting_is mark.fate waits.0)
      (fated_at pass before done left mark so.writing))))

  pub may_reserve : (stage : Stage) (slot : Slot) (leaf : Leaf) → IsSomewhere setting range turn know stage
      → ask_of stage ≡ ask.Reserve slot leaf → HasSeenOpened setting know leaf range slot
  may_reserve Locking slot leaf here asks = absurd here.at
  may_reserve (Reserving round) slot leaf here asks =
      reserve_seen here.pass here.before here.replicas round.done round.left slot leaf here.placed
      here.at.so_far here.at.waits asks
  may_reserve (Entering round) slot leaf here asks = absurd (entering_not round.left asks)
    where
      entering_not : (left : List Mark) → enter left ≡ ask.Reserve slot leaf → ⊥
      entering_not [] h = cc
      entering_not (mark ∷ left) h = cc
  may_reserve (Inside round at_root in_zone) slot leaf here asks = absurd here.at
  may_reserve (Acking verdict) slot leaf here asks = absurd cc
  may_reserve (Ended verdict) slot leaf here asks = absurd here.at

  -- by the turn
  may_come : (one : Turn) (slot : Slot) (leaf : Leaf) → HasSeenOpened setting know leaf range slot
      → (hand_of know.purse).own ≡ Some (pass_of know) → 0 < times_room leaf know.purse.rooms
      → 0 < times_range range know.purse.holds → IsTurnAtHome setting range one
      → ComesBehind (replica_rows range slot (leaf_history know.seen leaf)) one
      → MayTurn setting know leaf range slot one
  may_come (Adds row) slot leaf seen number room holds home behind =
      record { seen = seen; number = number; room = room; holds = holds; home = home; source = behind }
  may_come (Hides bound) slot leaf seen number room holds home behind =
      record { seen = seen; number = number; room = room; holds = holds }

  put_may : (pass : ℕ) (before : Knowledge) (replicas : List SlotLeaf) (done left : List Mark)
      (slot : Slot) (leaf : Leaf) → ArePlaced setting replicas → IsSoFar range turn pass before replicas know (done ++ left)
      → IsAtReady left → enter left ≡ ask.Enter slot leaf → IsTurnAtHome setting range turn
      → AllByRecursion (IsOpenTo range turn before) replicas → MayTurn setting know leaf range slot turn
  put_may pass before replicas done [] slot leaf placed so ready asks home each = absurd cc
  put_may pass before replicas done (mark ∷ left) slot leaf placed so ready asks home each =
      let same : mark.leaf ≡ leaf = cc in
      let place : mark.slot ≡ slot = cc in
      let is = ready_is mark.fate ready in
      let has : HasTurns before know range mark.slot mark.leaf [] =
      subst (λ (f : Fate). IsFated range turn pass before know mark f) is
      (fated_at pass before done left mark so.writing) in
      let open_to = at_mark (IsOpenTo range turn before) done left mark
      (subst (AllByRecursion (IsOpenTo range turn before)) (sym so.serve) each) in
      let rows : replica_rows range mark.slot (leaf_history know.seen mark.leaf)
      ≡ replica_rows range mark.slot (leaf_history before.seen mark.leaf) =
      has.rows ∙ append-nil (replica_rows range mark.slot (leaf_history before.seen mark.leaf)) in
      subst (λ (l : Leaf). MayTurn setting know l range slot turn) same
      (subst (λ (s : Slot). MayTurn setting know mark.leaf range s turn) place
      (may_come turn mark.slot mark.leaf (seen_by before mark done left replicas placed so.serve has)
      (so.writing.number ∙ ap (λ n. Some n) (sym (ap (number_or 0) so.writing.number)))
      (has_room range turn pass before know know done left mark so.writing is) so.writing.held home
      (subst (λ (rs : List Row). ComesBehind rs turn) (sym rows) open_to.behind)))

  pub may_put_at : (stage : Stage) (slot : Slot) (leaf : Leaf) (here : IsSomewhere setting range turn know stage)
      → ask_of stage ≡ ask.Enter slot leaf → MayTurn setting know leaf range slot turn
  may_put_at Locking slot leaf here asks = absurd here.at
  may_put_at (Reserving round) slot leaf here asks = absurd (reserving_not round.left asks)
    where
      reserving_not : (left : List Mark) → reserve left ≡ ask.Enter slot leaf → ⊥
      reserving_not [] h = cc
      reserving_not (mark ∷ left) h = cc
  may_put_at (Entering round) slot leaf here asks =
      put_may here.pass here.before here.replicas round.done round.left slot leaf here.placed
      here.at.so_far here.at.ready asks here.home here.each
  may_put_at (Inside round at_root in_zone) slot leaf here asks = absurd here.at
  may_put_at (Acking verdict) slot leaf here asks = absurd cc
  may_put_at (Ended verdict) slot leaf here asks = absurd here.at
