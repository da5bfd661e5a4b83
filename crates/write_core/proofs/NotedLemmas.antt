-- What a write or a recovery found down, it has noted.
use Rattle.write_core.specs.Events.{Retires, retired, retires_with}
use Rattle.write_core.specs.declared.retirements.Retirement.{Retirement}
use Rattle.std.proofs.Common.{◌≡◌, ◌≢◌, ℕ, Bool, Some, None, Option, List, [], ◌∷◌, ◌++◌, length, map, refl, sym}
use Rattle.std.proofs.Common.{subst, inl, inr}
use Rattle.std.specs.List.{AllByRecursion as All}
use Rattle.std.proofs.lemmas.Bool.{cases_eq}
use Rattle.std.proofs.lemmas.List.Elements.{Contains-append_left, Contains-push}
use Rattle.mon_topo.proofs.RangeHistoryLemmas.{all_append}
use Rattle.mon_topo.specs.Settings.{Setting, zone_of_leaf}
use Rattle.mon_value.specs.declared.positions.FoundDown.{FoundDown}
use Rattle.mon_value.specs.declared.positions.Leaf.{Leaf}
use Rattle.mon_value.specs.declared.positions.Range.{Range}
use Rattle.mon_value.specs.declared.positions.SlotLeaf.{SlotLeaf}
use Rattle.mon_value.specs.declared.rows.Row.{Row}
use Rattle.write_core.proofs.DeedLemmas.{marks_entering, marks_reserving}
use Rattle.write_core.proofs.KeepsLemmas.{changed_by, changed_other, changed_same}
use Rattle.write_core.specs.CopySteps.{CanCopyAt, CanRecover, IsToldAtTarget, IsToldBySource, IsToldByTarget}
use Rattle.write_core.specs.CopySteps.{after_copy_event, copied_in, copy_at, copy_of, newcomer, told_range}
use Rattle.write_core.specs.Deeds.{marks_at}
use Rattle.write_core.specs.Events.{Aims, Begins, CanHappen, CanRun, Copies, Event, Goes, Learns, Resolves}
use Rattle.write_core.specs.Events.{SwitchTold, Switches, Visits, after_event, after_events, new_recovery, new_writer}
use Rattle.write_core.specs.Events.{switched, switches_with}
use Rattle.write_core.specs.Invariant.{IsNewActor, IsNewWorld}
use Rattle.write_core.specs.Marks.{waiting}
use Rattle.write_core.specs.Noted.{AreNoted, CopySo, FateSo, FoundsSo, HasNoted, IsNotedBy, MarkSo, MarksSo, OutcomeSo}
use Rattle.write_core.specs.Program.{Acking, Ended, Entering, Inside, Locking, Reserving, Stage, after, done_inside}
use Rattle.write_core.specs.Program.{entering, reserving}
use Rattle.write_core.specs.Recovering.{Admits, Beginning, Carrying, CopyStage, CopyTold, Copying, Denied, Denies}
use Rattle.write_core.specs.Recovering.{Gives, HasRoom, Nearing, NoSource, NoTarget, Opens, Outcome, Over, Sources}
use Rattle.write_core.specs.Recovering.{Telling, WasDone, WasDown, WasOpened, Within, copied_after, copying, found_on}
use Rattle.write_core.specs.Rounds.{Round, round_marks, round_of, round_with_look}
use Rattle.write_core.specs.Steps.{CanComeAt, CanEnter, CanGo, CanReserve, IsToldAtEntry, IsToldByLeaf, after_answer}
use Rattle.write_core.specs.Steps.{after_entering, after_reserving, entrant, gone_on_inside, same_view, step_at}
use Rattle.write_core.specs.Steps.{with_acknowledgement}
use Rattle.mon_topo.specs.Views.{View, of_leaf, of_range, with_entry, with_root_bit, with_zone_bit}
use Rattle.write_core.specs.World.{Actor, LengthNote, OfLeaf, OfRange, Recovers, Recovery, Stands, World, Writer}
use Rattle.write_core.specs.World.{Writes, at_leaf, at_range, met_at_leaf, met_at_range, put_of, recovers_on}
use Rattle.write_core.specs.World.{stands_on, wiser, with_value_at, writes_on}
use Rattle.write_core.specs.declared.asks.WriteTold.{WriteTold}
use Rattle.write_core.specs.declared.asks.WriteTold.TheVariants as told
use Rattle.write_core.specs.declared.marks.Fate.{Fate}
use Rattle.write_core.specs.declared.marks.Fate.TheVariants as fate
use Rattle.write_core.specs.declared.marks.Mark.{Mark}

-- ---- whatever is so of each leaf that an actor was told is down is so of each that it says was

module _ (So : Leaf → ℕ → Type 0) where
  abbrev AllSo : List Mark → Type 0
  AllSo = All (MarkSo So)

  waiting_so : (replicas : List SlotLeaf) → AllSo (map waiting replicas)
  waiting_so [] = tt
  waiting_so (replica ∷ replicas) = (tt, waiting_so replicas)

  looked_so : (done left : List Mark) (f : Fate) → AllSo (done ++ left)
      → ((mark : Mark) (rest : List Mark) → left ≡ mark ∷ rest → FateSo So mark.leaf f)
      → AllSo (round_marks (round_with_look done left f))
  looked_so [] [] f h now = tt
  looked_so [] (mark ∷ left) f h now = (now mark left refl, h.1)
  looked_so (one ∷ done) [] f h now = (h.0, looked_so done [] f h.1 (λ mark rest same. absurd cc))
  looked_so (one ∷ done) (mark ∷ left) f h now = (h.0, looked_so done (mark ∷ left) f h.1 now)

  reserving_so : (round : Round) → AllSo (round_marks round) → MarksSo So (reserving round)
  reserving_so round = subst AllSo (sym (marks_reserving round))

  entering_so : (round : Round) → AllSo (round_marks round) → MarksSo So (entering round)
  entering_so round = subst AllSo (sym (marks_entering round))

  inside_so : (round : Round) (at_root in_zone : List ℕ) → AllSo (round_marks round)
      → MarksSo So (done_inside round at_root in_zone)
  inside_so round (bucket ∷ at_root) in_zone h = h
  inside_so round [] (bucket ∷ in_zone) h = h
  inside_so round [] [] h =
      entering_so (round_with_look round.done round.left fate.Took)
      (looked_so round.done round.left fate.Took h (λ mark rest same. tt))

  -- what has to be so of what a write is told
  abbrev pub LeftSo : List Mark → WriteTold → Type 0
  LeftSo (mark ∷ left) (told.Down cut) = So mark.leaf cut
  LeftSo left answer = Unit {0}

  abbrev pub ToldSo : Stage → WriteTold → Type 0
  ToldSo (Reserving round) answer = LeftSo round.left answer
  ToldSo (Entering round) answer = LeftSo round.left answer
  ToldSo stage answer = Unit {0}

  missed_so : (left : List Mark) (cut : ℕ) → LeftSo left (told.Down cut) → (mark : Mark) (rest : List Mark)
      → left ≡ mark ∷ rest → FateSo So mark.leaf (fate.Missed cut)
  missed_so [] cut h mark rest same = absurd cc
  missed_so (one ∷ left) cut h mark rest same = subst (λ (x : Leaf). So x cut) (one_leaf one mark left rest same) h
    where
      one_leaf : (a b : Mark) (xs ys : List Mark) → a ∷ xs ≡ b ∷ ys → a.leaf ≡ b.leaf
      one_leaf a b xs ys e = cc

  pub write_so : (stage : Stage) (answer : WriteTold) → MarksSo So stage → ToldSo stage answer
      → MarksSo So (after stage answer)
  write_so Locking (told.Slots replicas) h now = reserving_so (round_of (map waiting replicas)) (waiting_so replicas)
  write_so Locking (told.OldPoint last) h now = tt
  write_so Locking (told.RangeFull count) h now = tt
  write_so Locking (told.Up buckets) h now = h
  write_so Locking (told.Down cut) h now = h
  write_so Locking told.Done h now = h
  write_so (Reserving round) (told.Slots replicas) h now = h
  write_so (Reserving round) (told.OldPoint last) h now = h
  write_so (Reserving round) (told.RangeFull count) h now = h
  write_so (Reserving round) (told.Up buckets) h now =
      reserving_so (round_with_look round.done round.left fate.Ready)
      (looked_so round.done round.left fate.Ready h (λ mark rest same. tt))
  write_so (Reserving round) (told.Down cut) h now =
      reserving_so (round_with_look round.done round.left (fate.Missed cut))
      (looked_so round.done round.left (fate.Missed cut) h (missed_so round.left cut now))
  write_so (Reserving round) told.Done h now = h
  write_so (Entering round) (told.Slots replicas) h now = h
  write_so (Entering round) (told.OldPoint last) h now = h
  write_so (Entering round) (told.RangeFull count) h now = h
  write_so (Entering round) (told.Up buckets) h now = h
  write_so (Entering round) (told.Down cut) h now =
      entering_so (round_with_look round.done round.left (fate.Missed cut))
      (looked_so round.done round.left (fate.Missed cut) h (missed_so round.left cut now))
  write_so (Entering round) told.Done h now = h
  write_so (Inside round at_root in_zone) (told.Slots replicas) h now = h
  write_so (Inside round at_root in_zone) (told.OldPoint last) h now = h
  write_so (Inside round at_root in_zone) (told.RangeFull count) h now = h
  write_so (Inside round at_root in_zone) (told.Up buckets) h now = h
  write_so (Inside round at_root in_zone) (told.Down cut) h now = h
  write_so (Inside round at_root in_zone) told.Done h now = inside_so round at_root in_zone h
  write_so (Acking verdict) (told.Slots replicas) h now = h
  write_so (Acking verdict) (told.OldPoint last) h now = h
  write_so (Acking verdict) (told.RangeFull count) h now = h
  write_so (Acking verdict) (told.Up buckets) h now = h
  write_so (Acking verdict) (told.Down cut) h now = h
  write_so (Acking verdict) told.Done h now = h
  write_so (Ended verdict) (told.Slots replicas) h now = h
  write_so (Ended verdict) (told.OldPoint last) h now = h
  write_so (Ended verdict) (told.RangeFull count) h now = h
  write_so (Ended verdict) (told.Up buckets) h now = h
  write_so (Ended verdict) (told.Down cut) h now = h
  write_so (Ended verdict) told.Done h now = h

  -- ---- a recovery

  copying_so : (leaf : Leaf) (founds : List FoundDown) (left : List SlotLeaf) → FoundsSo So founds
      → CopySo So leaf (copying founds left)
  copying_so leaf founds [] h = h
  copying_so leaf founds (source ∷ left) h = h

  abbrev pub CopyToldSo : Leaf → CopyStage → CopyTold → Type 0
  CopyToldSo leaf (Copying founds (source ∷ left)) (WasDown cut) = So source.leaf cut
  CopyToldSo leaf (Carrying rows) (WasDown cut) = So leaf cut
  CopyToldSo leaf (Nearing rows) (WasDown cut) = So leaf cut
  CopyToldSo leaf stage told = Unit {0}

  lock_so : (leaf : Leaf) (told : CopyTold) → CopySo So leaf (copied_after Beginning told)
  lock_so leaf (Sources replicas) = copying_so leaf [] replicas tt
  lock_so leaf (Denies why) = tt
  lock_so leaf (Gives rows) = tt
  lock_so leaf HasRoom = tt
  lock_so leaf (Admits buckets) = tt
  lock_so leaf (WasDown cut) = tt
  lock_so leaf (WasOpened slot) = tt
  lock_so leaf WasDone = tt

  source_so : (leaf : Leaf) (founds : List FoundDown) (source : SlotLeaf) (left : List SlotLeaf) (told : CopyTold)
      → FoundsSo So founds → CopyToldSo leaf (Copying founds (source ∷ left)) told
      → CopySo So leaf (copied_after (Copying founds (source ∷ left)) told)
  source_so leaf founds source left (WasDown cut) h now =
      copying_so leaf (founds ++ found_on source cut ∷ []) left
      (all_append (λ (found : FoundDown). So found.leaf found.cut) founds (found_on source cut ∷ []) h (now, tt))
  source_so leaf founds source left (Gives rows) h now = tt
  source_so leaf founds source left (Sources replicas) h now = h
  source_so leaf founds source left (Denies why) h now = h
  source_so leaf founds source left HasRoom h now = h
  source_so leaf founds source left (Admits buckets) h now = h
  source_so leaf founds source left (WasOpened slot) h now = h
  source_so leaf founds source left WasDone h now = h

  target_so : (leaf : Leaf) (rows : List Row) (told : CopyTold) → CopyToldSo leaf (Carrying rows) told
      → CopySo So leaf (copied_after (Carrying rows) told)
  target_so leaf rows HasRoom now = tt
  target_so leaf rows (WasDown cut) now = now
  target_so leaf rows (Sources replicas) now = tt
  target_so leaf rows (Denies why) now = tt
  target_so leaf rows (Gives more) now = tt
  target_so leaf rows (Admits buckets) now = tt
  target_so leaf rows (WasOpened slot) now = tt
  target_so leaf rows WasDone now = tt

  entry_so : (leaf : Leaf) (rows : List Row) (told : CopyTold) → CopyToldSo leaf (Nearing rows) told
      → CopySo So leaf (copied_after (Nearing rows) told)
  entry_so leaf rows (Admits buckets) now = tt
  entry_so leaf rows (WasDown cut) now = now
  entry_so leaf rows (Sources replicas) now = tt
  entry_so leaf rows (Denies why) now = tt
  entry_so leaf rows (Gives more) now = tt
  entry_so leaf rows HasRoom now = tt
  entry_so leaf rows (WasOpened slot) now = tt
  entry_so leaf rows WasDone now = tt

  within_so : (leaf : Leaf) (rows : List Row) (at_root in_zone : List ℕ) (told : CopyTold)
      → CopySo So leaf (copied_after (Within rows at_root in_zone) told)
  within_so leaf rows (bucket ∷ at_root) in_zone (Sources replicas) = tt
  within_so leaf rows (bucket ∷ at_root) in_zone (Denies why) = tt
  within_so leaf rows (bucket ∷ at_root) in_zone (Gives more) = tt
  within_so leaf rows (bucket ∷ at_root) in_zone HasRoom = tt
  within_so leaf rows (bucket ∷ at_root) in_zone (Admits buckets) = tt
  within_so leaf rows (bucket ∷ at_root) in_zone (WasDown cut) = tt
  within_so leaf rows (bucket ∷ at_root) in_zone (WasOpened slot) = tt
  within_so leaf rows (bucket ∷ at_root) in_zone WasDone = tt
  within_so leaf rows [] (bucket ∷ in_zone) (Sources replicas) = tt
  within_so leaf rows [] (bucket ∷ in_zone) (Denies why) = tt
  within_so leaf rows [] (bucket ∷ in_zone) (Gives more) = tt
  within_so leaf rows [] (bucket ∷ in_zone) HasRoom = tt
  within_so leaf rows [] (bucket ∷ in_zone) (Admits buckets) = tt
  within_so leaf rows [] (bucket ∷ in_zone) (WasDown cut) = tt
  within_so leaf rows [] (bucket ∷ in_zone) (WasOpened slot) = tt
  within_so leaf rows [] (bucket ∷ in_zone) WasDone = tt
  within_so leaf rows [] [] (Sources replicas) = tt
  within_so leaf rows [] [] (Denies why) = tt
  within_so leaf rows [] [] (Gives more) = tt
  within_so leaf rows [] [] HasRoom = tt
  within_so leaf rows [] [] (Admits buckets) = tt
  within_so leaf rows [] [] (WasDown cut) = tt
  within_so leaf rows [] [] (WasOpened slot) = tt
  within_so leaf rows [] [] WasDone = tt

  last_so : (leaf : Leaf) (outcome : Outcome) (told : CopyTold) → OutcomeSo So leaf outcome
      → CopySo So leaf (copied_after (Telling outcome) told)
  last_so leaf outcome (Sources replicas) h = h
  last_so leaf outcome (Denies why) h = h
  last_so leaf outcome (Gives more) h = h
  last_so leaf outcome HasRoom h = h
  last_so leaf outcome (Admits buckets) h = h
  last_so leaf outcome (WasDown cut) h = h
  last_so leaf outcome (WasOpened slot) h = h
  last_so leaf outcome WasDone h = h

  pub copy_so : (leaf : Leaf) (stage : CopyStage) (told : CopyTold) → CopySo So leaf stage
      → CopyToldSo leaf stage told → CopySo So leaf (copied_after stage told)
  copy_so leaf Beginning told h now = lock_so leaf told
  copy_so leaf (Copying founds []) told h now = h
  copy_so leaf (Copying founds (source ∷ left)) told h now = source_so leaf founds source left told h now
  copy_so leaf (Carrying rows) told h now = target_so leaf rows told now
  copy_so leaf (Nearing rows) told h now = entry_so leaf rows told now
  copy_so leaf (Within rows at_root in_zone) told h now = within_so leaf rows at_root in_zone told
  copy_so leaf (Telling outcome) told h now = last_so leaf outcome told h
  copy_so leaf (Over outcome) told h now = h

-- ---- with more notes, what was noted still is

module _ (A B : Leaf → ℕ → Type 0) (from : (leaf : Leaf) (cut : ℕ) → A leaf cut → B leaf cut) where
  fate_on : (leaf : Leaf) (f : Fate) → FateSo A leaf f → FateSo B leaf f
  fate_on leaf fate.Waiting h = tt
  fate_on leaf fate.Ready h = tt
  fate_on leaf fate.Took h = tt
  fate_on leaf (fate.Missed cut) h = from leaf cut h

  marks_on : (marks : List Mark) → All (MarkSo A) marks → All (MarkSo B) marks
  marks_on [] h = tt
  marks_on (mark ∷ marks) h = (fate_on mark.leaf mark.fate h.0, marks_on marks h.1)

  founds_on : (founds : List FoundDown) → FoundsSo A founds → FoundsSo B founds
  founds_on [] h = tt
  founds_on (found ∷ founds) h = (from found.leaf found.cut h.0, founds_on founds h.1)

  outcome_on : (leaf : Leaf) (outcome : Outcome) → OutcomeSo A leaf outcome → OutcomeSo B leaf outcome
  outcome_on leaf (Opens slot) h = tt
  outcome_on leaf (Denied why) h = tt
  outcome_on leaf (NoSource founds) h = founds_on founds h
  outcome_on leaf (NoTarget cut) h = from leaf cut h

  copy_on : (leaf : Leaf) (stage : CopyStage) → CopySo A leaf stage → CopySo B leaf stage
  copy_on leaf Beginning h = tt
  copy_on leaf (Copying founds sources) h = founds_on founds h
  copy_on leaf (Carrying rows) h = tt
  copy_on leaf (Nearing rows) h = tt
  copy_on leaf (Within rows at_root in_zone) h = tt
  copy_on leaf (Telling outcome) h = outcome_on leaf outcome h
  copy_on leaf (Over outcome) h = outcome_on leaf outcome h

noted_on : (notes : List LengthNote) (note : LengthNote) (leaf : Leaf) (cut : ℕ) → HasNoted notes leaf cut
    → HasNoted (notes ++ note ∷ []) leaf cut
noted_on notes note leaf cut = Contains-append_left notes (note ∷ []) (OfLeaf leaf cut)

noted_now : (notes : List LengthNote) (leaf : Leaf) (cut whole : ℕ) → cut ≡ whole
    → HasNoted (notes ++ OfLeaf leaf whole ∷ []) leaf cut
noted_now notes leaf cut whole same =
    subst (λ (n : ℕ). HasNoted (notes ++ OfLeaf leaf whole ∷ []) leaf n) (sym same)
    (Contains-push notes (OfLeaf leaf whole))

-- ---- in the world

-- two tables are changed at one place
both_changed : {X Y : Type 0} (xs : ℕ → X) (ys : ℕ → Y) (i : ℕ) (x : X) (y : Y) (P : X → Y → Type 0) → P x y
    → ((j : ℕ) → j ≢ i → P (xs j) (ys j)) → (j : ℕ) → P (with_value_at xs i x j) (with_value_at ys i y j)
both_changed {X} {Y} xs ys i x y P own others j =
    elim (cases_eq j i) [
      | inl same ↦ subst (λ (k : ℕ). P (with_value_at xs i x k) (with_value_at ys i y k)) (sym same)
          (subst (λ (some : X). P some (with_value_at ys i y i)) (sym (changed_same xs i x))
          (subst (λ (some : Y). P x some) (sym (changed_same ys i y)) own))
      | inr apart ↦ subst (λ (some : X). P some (with_value_at ys i y j)) (sym (changed_other xs i j x apart))
          (subst (λ (some : Y). P (xs j) some) (sym (changed_other ys i j y apart)) (others j apart))
    ]

module _ (setting : Setting) (world : World) (noted : AreNoted world) where
  noted_at_leaf : (i : ℕ) (view : View) (leaf : Leaf) (change : View → View) (holder : Option ℕ) (next : View → Actor)
      → IsNotedBy (world.notes i ++ OfLeaf leaf (length (of_leaf (change world.truth) leaf)) ∷ [])
      (next (met_at_leaf world view leaf change))
      → AreNoted (at_leaf world i view leaf change holder next)
  noted_at_leaf i view leaf change holder next own =
      both_changed world.notes world.actors i
      (world.notes i ++ OfLeaf leaf (length (of_leaf (change world.truth) leaf)) ∷ [])
      (next (met_at_leaf world view leaf change)) IsNotedBy own (λ j apart. noted j)

  noted_at_range : (i : ℕ) (view : View) (range : Range) (change : View → View) (holder : Option ℕ)
      (next : View → Actor)
      → IsNotedBy (world.notes i ++ OfRange range (length (of_range (change world.truth) range)) ∷ [])
      (next (met_at_range world view range change))
      → AreNoted (at_range world i view range change holder next)
  noted_at_range i view range change holder next own =
      both_changed world.notes world.actors i
      (world.notes i ++ OfRange range (length (of_range (change world.truth) range)) ∷ [])
      (next (met_at_range world view range change)) IsNotedBy own (λ j apart. noted j)

  -- the note of a leaf's history as it is
  abbrev note_of : Leaf → LengthNote
  note_of leaf = OfLeaf leaf (length (of_leaf world.truth leaf))

  -- ---- a write

  module _ (i : ℕ) (who : Writer) where
    abbrev notes : List LengthNote
    notes = world.notes i

    -- with one note more
    on_so : (note : LengthNote) (stage : Stage) (answer : WriteTold) → MarksSo (HasNoted notes) stage
        → ToldSo (HasNoted (notes ++ note ∷ [])) stage answer
        → MarksSo (HasNoted (notes ++ note ∷ [])) (after stage answer)
    on_so note stage answer h now =
        write_so (HasNoted (notes ++ note ∷ [])) stage answer
        (marks_on (HasNoted notes) (HasNoted (notes ++ note ∷ [])) (noted_on notes note) (marks_at stage) h) now

    reserve_told : (mark : Mark) (left : List Mark) (answer : WriteTold)
        → IsToldByLeaf (of_leaf world.truth mark.leaf) answer
        → LeftSo (HasNoted (notes ++ note_of mark.leaf ∷ [])) (mark ∷ left) answer
    reserve_told mark left (told.Down cut) can =
        noted_now notes mark.leaf cut (length (of_leaf world.truth mark.leaf)) can.1
    reserve_told mark left (told.Up buckets) can = tt
    reserve_told mark left (told.Slots replicas) can = tt
    reserve_told mark left (told.OldPoint last) can = tt
    reserve_told mark left (told.RangeFull count) can = tt
    reserve_told mark left told.Done can = tt

    enter_told : (mark : Mark) (left : List Mark) (answer : WriteTold)
        → IsToldAtEntry setting (of_leaf world.truth mark.leaf) who.turn answer
        → LeftSo (HasNoted (notes ++ note_of mark.leaf ∷ [])) (mark ∷ left) answer
    enter_told mark left (told.Down cut) can =
        noted_now notes mark.leaf cut (length (of_leaf world.truth mark.leaf)) can.1
    enter_told mark left (told.Up buckets) can = tt
    enter_told mark left (told.Slots replicas) can = tt
    enter_told mark left (told.OldPoint last) can = tt
    enter_told mark left (told.RangeFull count) can = tt
    enter_told mark left told.Done can = tt

    reserve_noted : (done left : List Mark) (answer : WriteTold)
        → MarksSo (HasNoted notes) (Reserving (record { done = done; left = left })) → CanReserve world left answer
        → AreNoted (after_reserving world i who left (after (Reserving (record { done = done; left = left })) answer))
    reserve_noted done [] answer h can = noted
    reserve_noted done (mark ∷ left) answer h can =
        let stage = Reserving (record { done = done; left = mark ∷ left }) in
        noted_at_leaf i who.view mark.leaf same_view None (writes_on who (after stage answer))
        (on_so (note_of mark.leaf) stage answer h
        (reserve_told mark left answer can.1))

    enter_noted : (done left : List Mark) (answer : WriteTold)
        → MarksSo (HasNoted notes) (Entering (record { done = done; left = left }))
        → CanEnter setting world who left answer
        → AreNoted
        (after_entering world i who left answer (after (Entering (record { done = done; left = left })) answer))
    enter_noted done [] answer h can = noted
    enter_noted done (mark ∷ left) answer h can =
        let stage = Entering (record { done = done; left = mark ∷ left }) in
        noted_at_leaf i who.view mark.leaf same_view (entrant i answer) (writes_on who (after stage answer))
        (on_so (note_of mark.leaf) stage answer h
        (enter_told mark left answer can.1))

    inside_noted : (done left : List Mark) (at_root in_zone : List ℕ) (answer : WriteTold)
        → MarksSo (HasNoted notes) (Inside (record { done = done; left = left }) at_root in_zone)
        → AreNoted (gone_on_inside setting world i who left at_root in_zone
        (after (Inside (record { done = done; left = left }) at_root in_zone) answer))
    inside_noted done [] at_root in_zone answer h = noted
    inside_noted done (mark ∷ left) (bucket ∷ at_root) in_zone answer h =
        let stage = Inside (record { done = done; left = mark ∷ left }) (bucket ∷ at_root) in_zone in
        noted_at_leaf i who.view mark.leaf (with_root_bit (zone_of_leaf setting mark.leaf) bucket) (Some i)
        (writes_on who (after stage answer))
        (on_so (note_of mark.leaf) stage answer h tt)
    inside_noted done (mark ∷ left) [] (bucket ∷ in_zone) answer h =
        let stage = Inside (record { done = done; left = mark ∷ left }) [] (bucket ∷ in_zone) in
        noted_at_leaf i who.view mark.leaf (with_zone_bit mark.leaf bucket) (Some i)
        (writes_on who (after stage answer))
        (on_so (note_of mark.leaf) stage answer h tt)
    inside_noted done (mark ∷ left) [] [] answer h =
        let stage = Inside (record { done = done; left = mark ∷ left }) [] [] in
        let change = with_entry mark.leaf (put_of who mark) in
        noted_at_leaf i who.view mark.leaf change None (writes_on who (after stage answer))
        (on_so (OfLeaf mark.leaf (length (of_leaf (change world.truth) mark.leaf))) stage answer h tt)

    stage_noted : (stage : Stage) (answer : WriteTold) → MarksSo (HasNoted notes) stage
        → CanComeAt setting world who stage answer → AreNoted (step_at setting world i who stage answer)
    stage_noted Locking answer h can =
        noted_at_range i who.view who.range same_view (Some i) (writes_on who (after Locking answer))
        (on_so (OfRange who.range (length (of_range world.truth who.range))) Locking answer h tt)
    stage_noted (Reserving round) answer h can = reserve_noted round.done round.left answer h can
    stage_noted (Entering round) answer h can = enter_noted round.done round.left answer h can
    stage_noted (Inside round at_root in_zone) answer h can =
        inside_noted round.done round.left at_root in_zone answer h
    stage_noted (Acking verdict) answer h can =
        let change = with_acknowledgement who verdict in
        noted_at_range i who.view who.range change None (writes_on who (after (Acking verdict) answer))
        (on_so (OfRange who.range (length (of_range (change world.truth) who.range))) (Acking verdict) answer h tt)
    stage_noted (Ended verdict) answer h can = noted

  goes_noted : (i : ℕ) (actor : Actor) (answer : WriteTold) → IsNotedBy (world.notes i) actor
      → CanGo setting world actor answer → AreNoted (after_answer setting world i actor answer)
  goes_noted i (Writes who) answer h can = stage_noted i who who.stage answer h can
  goes_noted i (Recovers who) answer h can = noted
  goes_noted i (Stands who) answer h can = noted

  -- ---- a recovery

  module _ (i : ℕ) (who : Recovery) where
    abbrev own : List LengthNote
    own = world.notes i

    copied_so : (note : LengthNote) (stage : CopyStage) (told : CopyTold) → CopySo (HasNoted own) who.leaf stage
        → CopyToldSo (HasNoted (own ++ note ∷ [])) who.leaf stage told
        → CopySo (HasNoted (own ++ note ∷ [])) who.leaf (copied_after stage told)
    copied_so note stage told h now =
        copy_so (HasNoted (own ++ note ∷ [])) who.leaf stage told
        (copy_on (HasNoted own) (HasNoted (own ++ note ∷ [])) (noted_on own note) who.leaf stage h) now

    source_told : (founds : List FoundDown) (source : SlotLeaf) (left : List SlotLeaf) (told : CopyTold)
        → IsToldBySource who.range source.slot (of_leaf world.truth source.leaf) told
        → CopyToldSo (HasNoted (own ++ note_of source.leaf ∷ [])) who.leaf (Copying founds (source ∷ left)) told
    source_told founds source left (WasDown cut) can =
        noted_now own source.leaf cut (length (of_leaf world.truth source.leaf)) can.1
    source_told founds source left (Gives rows) can = tt
    source_told founds source left (Sources replicas) can = tt
    source_told founds source left (Denies why) can = tt
    source_told founds source left HasRoom can = tt
    source_told founds source left (Admits buckets) can = tt
    source_told founds source left (WasOpened slot) can = tt
    source_told founds source left WasDone can = tt

    target_told : (rows : List Row) (told : CopyTold) → IsToldByTarget (of_leaf world.truth who.leaf) told
        → CopyToldSo (HasNoted (own ++ note_of who.leaf ∷ [])) who.leaf (Carrying rows) told
    target_told rows (WasDown cut) can = noted_now own who.leaf cut (length (of_leaf world.truth who.leaf)) can.1
    target_told rows (Gives more) can = tt
    target_told rows (Sources replicas) can = tt
    target_told rows (Denies why) can = tt
    target_told rows HasRoom can = tt
    target_told rows (Admits buckets) can = tt
    target_told rows (WasOpened slot) can = tt
    target_told rows WasDone can = tt

    entry_told : (rows : List Row) (told : CopyTold) → IsToldAtTarget setting (of_leaf world.truth who.leaf) rows told
        → CopyToldSo (HasNoted (own ++ note_of who.leaf ∷ [])) who.leaf (Nearing rows) told
    entry_told rows (WasDown cut) can = noted_now own who.leaf cut (length (of_leaf world.truth who.leaf)) can.1
    entry_told rows (Gives more) can = tt
    entry_told rows (Sources replicas) can = tt
    entry_told rows (Denies why) can = tt
    entry_told rows HasRoom can = tt
    entry_told rows (Admits buckets) can = tt
    entry_told rows (WasOpened slot) can = tt
    entry_told rows WasDone can = tt

    within_noted : (rows : List Row) (at_root in_zone : List ℕ) (told : CopyTold)
        → AreNoted (copied_in setting world i who rows at_root in_zone
        (copied_after (Within rows at_root in_zone) told))
    within_noted rows (bucket ∷ at_root) in_zone told =
        let stage = Within rows (bucket ∷ at_root) in_zone in
        noted_at_leaf i who.view who.leaf (with_root_bit (zone_of_leaf setting who.leaf) bucket) (Some i)
        (recovers_on who (copied_after stage told)) (copied_so (note_of who.leaf) stage told tt tt)
    within_noted rows [] (bucket ∷ in_zone) told =
        let stage = Within rows [] (bucket ∷ in_zone) in
        noted_at_leaf i who.view who.leaf (with_zone_bit who.leaf bucket) (Some i)
        (recovers_on who (copied_after stage told)) (copied_so (note_of who.leaf) stage told tt tt)
    within_noted rows [] [] told =
        let change = with_entry who.leaf (copy_of who (of_range world.truth who.range) rows) in
        noted_at_leaf i who.view who.leaf change None (recovers_on who (copied_after (Within rows [] []) told))
        (copied_so (OfLeaf who.leaf (length (of_leaf (change world.truth) who.leaf))) (Within rows [] []) told tt tt)

    copy_noted : (stage : CopyStage) (told : CopyTold) → CopySo (HasNoted own) who.leaf stage
        → CanCopyAt setting world who stage told → AreNoted (copy_at setting world i who stage told)
    copy_noted Beginning told h can =
        noted_at_range i who.view who.range same_view (Some i) (recovers_on who (copied_after Beginning told))
        (copied_so (OfRange who.range (length (of_range world.truth who.range))) Beginning told h tt)
    copy_noted (Copying founds []) told h can = noted
    copy_noted (Copying founds (source ∷ left)) told h can =
        let stage = Copying founds (source ∷ left) in
        noted_at_leaf i who.view source.leaf same_view None (recovers_on who (copied_after stage told))
        (copied_so (note_of source.leaf) stage told h (source_told founds source left told can.1))
    copy_noted (Carrying rows) told h can =
        noted_at_leaf i who.view who.leaf same_view None (recovers_on who (copied_after (Carrying rows) told))
        (copied_so (note_of who.leaf) (Carrying rows) told h (target_told rows told can.1))
    copy_noted (Nearing rows) told h can =
        noted_at_leaf i who.view who.leaf same_view (newcomer i told)
        (recovers_on who (copied_after (Nearing rows) told))
        (copied_so (note_of who.leaf) (Nearing rows) told h (entry_told rows told can.1))
    copy_noted (Within rows at_root in_zone) told h can = within_noted rows at_root in_zone told
    copy_noted (Telling outcome) told h can =
        let change = told_range who (of_range world.truth who.range) outcome in
        noted_at_range i who.view who.range change None (recovers_on who (copied_after (Telling outcome) told))
        (copied_so (OfRange who.range (length (of_range (change world.truth) who.range))) (Telling outcome) told h tt)
    copy_noted (Over outcome) told h can = noted

  copies_noted : (i : ℕ) (actor : Actor) (told : CopyTold) → IsNotedBy (world.notes i) actor
      → CanRecover setting world actor told → AreNoted (after_copy_event setting world i actor told)
  copies_noted i (Recovers who) told h can = copy_noted i who who.stage told h can
  copies_noted i (Writes who) told h can = noted
  copies_noted i (Stands who) told h can = noted

  -- ---- whatever else happens

  switch_noted : (i : ℕ) (actor : Actor) (leaf : Leaf) (down : Bool) (told : SwitchTold)
      → AreNoted (switched world i actor leaf down told)
  switch_noted i (Stands who) leaf down told =
      noted_at_leaf i who.view leaf (switches_with leaf down who.pass told) None (stands_on who) tt
  switch_noted i (Writes who) leaf down told = noted
  switch_noted i (Recovers who) leaf down told = noted

  retire_noted : (i : ℕ) (actor : Actor) (range : Range) (leaf : Leaf) (told : Retirement)
      → AreNoted (retired world i actor range leaf told)
  retire_noted i (Stands who) range leaf told =
      noted_at_range i who.view range (retires_with range who.pass told) None (stands_on who) tt
  retire_noted i (Writes who) range leaf told = noted
  retire_noted i (Recovers who) range leaf told = noted

  wiser_noted : (some : List LengthNote) (actor : Actor) (view : View) → IsNotedBy some actor
      → IsNotedBy some (wiser actor view)
  wiser_noted some (Writes who) view h = h
  wiser_noted some (Recovers who) view h = h
  wiser_noted some (Stands who) view h = tt

  one_noted : (i : ℕ) (actor : Actor) → IsNotedBy (world.notes i) actor → (j : ℕ)
      → IsNotedBy (world.notes j) (with_value_at world.actors i actor j)
  one_noted i actor own =
      changed_by world.actors i actor (λ j some. IsNotedBy (world.notes j) some) own (λ j apart. noted j)

  pub event_noted : (event : Event) → CanHappen setting world event → AreNoted (after_event setting world event)
  event_noted (Goes i answer) can = goes_noted i (world.actors i) answer (noted i) can
  event_noted (Copies i told) can = copies_noted i (world.actors i) told (noted i) can
  event_noted (Switches i leaf down told) can = switch_noted i (world.actors i) leaf down told
  event_noted (Retires i range leaf told) can = retire_noted i (world.actors i) range leaf told
  event_noted (Learns i view) can =
      one_noted i (wiser (world.actors i) view) (wiser_noted (world.notes i) (world.actors i) view (noted i))
  event_noted (Begins i turn range) can = one_noted i (Writes (new_writer turn range (world.actors i))) tt
  event_noted (Aims i range leaf) can = one_noted i (Recovers (new_recovery range leaf (world.actors i))) tt
  event_noted (Visits leaf view) can = noted
  event_noted (Resolves range view) can = noted

new_actor_noted : (setting : Setting) (world : World) (known_notes : List LengthNote) (actor : Actor)
    → IsNewActor setting world actor → IsNotedBy known_notes actor
new_actor_noted setting world known_notes (Writes who) new = subst (MarksSo (HasNoted known_notes)) (sym new.stage) tt
new_actor_noted setting world known_notes (Recovers who) new = subst (CopySo (HasNoted known_notes) who.leaf) (sym new.stage) tt
new_actor_noted setting world known_notes (Stands who) new = tt

-- who has not begun has said nothing
pub new_noted : (setting : Setting) (world : World) → IsNewWorld setting world → AreNoted world
new_noted setting world new i = new_actor_noted setting world (world.notes i) (world.actors i) (new.actors i)

pub run_noted : (setting : Setting) (world : World) (events : List Event) → CanRun setting world events
    → AreNoted world → AreNoted (after_events setting world events)
run_noted setting world [] can noted = noted
run_noted setting world (event ∷ events) can noted =
    run_noted setting (after_event setting world event) events can.1 (event_noted setting world noted event can.0)
