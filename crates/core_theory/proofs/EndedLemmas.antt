-- What a write that has ended says was down, was down.
use Rattle.std.proofs.Common.{◌≡◌, ◌∙◌, ℕ, ℤ, Bool, List, [], ◌∷◌, map, refl, sym, ap, subst}
use Rattle.std.specs.List.{AllByRecursion as All}
use Rattle.mon_topo.specs.Settings.{Setting}
use Rattle.mon_topo.specs.Views.{IsViewWithin, View, of_leaf}
use Rattle.mon_value.specs.LeafHistories.{IsDownAt}
use Rattle.mon_value.specs.declared.positions.Leaf.{Leaf}
use Rattle.mon_value.specs.declared.rows.Row.{Row}
use Rattle.query_traces.specs.Rounds.{QuerySetting}
use Rattle.query_traces.specs.declared.asks.Ask.{Ask}
use Rattle.query_traces.specs.declared.asks.Ask.TheVariants as ask
use Rattle.core_theory.proofs.CoreLemmas.{stays_woven}
use Rattle.core_store.proofs.HolderLemmas.{holding_entering, holding_reserving}
use Rattle.core_theory.specs.Core.{CanCome, CanGoOn, Core, CoreEvent, Happens, Hears, Tells, asked_now, came}
use Rattle.core_theory.specs.Core.{core_gone_on, world_then}
use Rattle.core_theory.specs.FoundDown.{FindsWhatItSays, IsFoundDown}
use Rattle.core_store.specs.Holders.{IsHolding}
use Rattle.core_theory.specs.Licensed.{IsWoven}
use Rattle.write_core.proofs.CopyAsking.{down_moves}
use Rattle.write_core.proofs.KeepsLemmas.{changed_by}
use Rattle.write_core.proofs.KeptLemmas.{part_stays}
use Rattle.write_core.proofs.ViewLemmas.{within_itself}
use Rattle.write_core.specs.CopySteps.{after_copy_event, copied_in, copy_at}
use Rattle.write_core.specs.Events.{Aims, Begins, CanHappen, CanRun, Copies, Event, Goes, Learns, Resolves, Retires}
use Rattle.write_core.specs.Events.{SwitchTold, Switches, Visits, after_event, after_events, new_recovery, new_writer}
use Rattle.write_core.specs.Events.{retired, switched}
use Rattle.write_core.specs.declared.retirements.Retirement.{Retirement}
use Rattle.mon_value.specs.declared.positions.Range.{Range}
use Rattle.write_core.specs.Invariant.{HasSeen, IsActor, IsAt, IsKept, IsMark, IsNewActor, IsNewWorld, IsWriter}
use Rattle.write_core.specs.Marks.{waiting}
use Rattle.write_core.specs.Noted.{AreNoted, FateSo, HasNoted, IsNotedBy, MarkSo, MarksSo}
use Rattle.write_core.specs.Program.{Acking, Ended, Entering, Inside, Locking, Marked, Not, Reserving, Stage, Verdict}
use Rattle.write_core.specs.Program.{after, done_inside}
use Rattle.write_core.specs.Recovering.{Beginning, Carrying, CopyStage, Copying, Nearing, Over, Telling, Within}
use Rattle.write_core.specs.declared.copies.CopyTold.{CopyTold}
use Rattle.write_core.specs.Rounds.{Round, after_look, round_of}
use Rattle.write_core.specs.Steps.{CanComeAt, CanGo, after_answer, after_entering, after_reserving, gone_on_inside}
use Rattle.write_core.specs.Steps.{step_at, with_acknowledgement}
use Rattle.write_core.specs.World.{Actor, Recovers, Recovery, Stands, World, Writer, Writes, recovers_on}
use Rattle.write_core.specs.World.{met_at_range, stands_on, with_value_at, wiser, writes_on}
use Rattle.write_core.specs.declared.asks.WriteTold.{WriteTold}
use Rattle.write_core.specs.declared.asks.WriteTold.TheVariants as told
use Rattle.write_core.specs.declared.marks.Fate.{Fate}
use Rattle.write_core.specs.declared.marks.Fate.TheVariants as fate
use Rattle.write_core.specs.declared.marks.Mark.{Mark}

-- ---- marks

module _ (A B : Leaf → ℕ → Type 0) (from : (leaf : Leaf) (cut : ℕ) → A leaf cut → B leaf cut) where
  fate_on : (leaf : Leaf) (f : Fate) → FateSo A leaf f → FateSo B leaf f
  fate_on leaf fate.Waiting h = tt
  fate_on leaf fate.Ready h = tt
  fate_on leaf fate.Took h = tt
  fate_on leaf (fate.Missed cut) h = from leaf cut h

  marks_on : (marks : List Mark) → All (MarkSo A) marks → All (MarkSo B) marks
  marks_on [] h = tt
  marks_on (mark ∷ marks) h = (fate_on mark.leaf mark.fate h.0, marks_on marks h.1)

module _ (world : World) (i : ℕ) where
  fate_found : (leaf : Leaf) (f : Fate) → FateSo (HasNoted (world.notes i)) leaf f
      → FateSo (λ l cut. IsDownAt (of_leaf world.truth l) cut) leaf f → FateSo (IsFoundDown world i) leaf f
  fate_found leaf fate.Waiting a b = tt
  fate_found leaf fate.Ready a b = tt
  fate_found leaf fate.Took a b = tt
  fate_found leaf (fate.Missed cut) a b = record { noted = a; down = b }

  marks_found : (marks : List Mark) → All (MarkSo (HasNoted (world.notes i))) marks
      → All (MarkSo (λ l cut. IsDownAt (of_leaf world.truth l) cut)) marks → All (MarkSo (IsFoundDown world i)) marks
  marks_found [] a b = tt
  marks_found (mark ∷ marks) a b = (fate_found mark.leaf mark.fate a.0 b.0, marks_found marks a.1 b.1)

-- ---- stages that are behind the lock, and before the end

holding_done : (round : Round) (at_root in_zone : List ℕ) → IsHolding (done_inside round at_root in_zone)
holding_done round (bucket ∷ at_root) in_zone = tt
holding_done round [] (bucket ∷ in_zone) = tt
holding_done round [] [] = holding_entering (after_look round fate.Took)

after_lock : (answer : WriteTold) (verdict : Verdict) → after Locking answer ≡ Ended verdict → ⊥
after_lock (told.Slots replicas) verdict e = subst IsHolding e (holding_reserving (round_of (map waiting replicas)))
after_lock (told.OldPoint last) verdict e = absurd cc
after_lock (told.RangeFull count) verdict e = absurd cc
after_lock (told.Up buckets) verdict e = absurd cc
after_lock (told.Down cut) verdict e = absurd cc
after_lock told.Done verdict e = absurd cc

after_reserve : (round : Round) (answer : WriteTold) → IsHolding (after (Reserving round) answer)
after_reserve round (told.Slots replicas) = tt
after_reserve round (told.OldPoint last) = tt
after_reserve round (told.RangeFull count) = tt
after_reserve round (told.Up buckets) = holding_reserving (after_look round fate.Ready)
after_reserve round (told.Down cut) = holding_reserving (after_look round (fate.Missed cut))
after_reserve round told.Done = tt

after_entry : (round : Round) (answer : WriteTold) → IsHolding (after (Entering round) answer)
after_entry round (told.Slots replicas) = tt
after_entry round (told.OldPoint last) = tt
after_entry round (told.RangeFull count) = tt
after_entry round (told.Up buckets) = tt
after_entry round (told.Down cut) = holding_entering (after_look round (fate.Missed cut))
after_entry round told.Done = tt

after_inside : (round : Round) (at_root in_zone : List ℕ) (answer : WriteTold)
    → IsHolding (after (Inside round at_root in_zone) answer)
after_inside round at_root in_zone (told.Slots replicas) = tt
after_inside round at_root in_zone (told.OldPoint last) = tt
after_inside round at_root in_zone (told.RangeFull count) = tt
after_inside round at_root in_zone (told.Up buckets) = tt
after_inside round at_root in_zone (told.Down cut) = tt
after_inside round at_root in_zone told.Done = holding_done round at_root in_zone

-- ---- what is claimed of each write that has ended

abbrev DownIn : World → Leaf → ℕ → Type 0
DownIn world leaf cut = IsDownAt (of_leaf world.truth leaf) cut

abbrev EndDown : World → Actor → Type 0
EndDown world actor =
    (writer : Writer) (marks : List Mark) → actor ≡ Writes writer → writer.stage ≡ Ended (Marked marks)
    → All (MarkSo (DownIn world)) marks

abbrev AreEndsDown : World → Type 0
AreEndsDown world = (i : ℕ) → EndDown world (world.actors i)

no_end : (world : World) (who : Writer) (next : Stage) (view : View) → ((verdict : Verdict) → next ≡ Ended verdict → ⊥)
    → EndDown world (writes_on who next view)
no_end world who next view none writer marks is ended =
    absurd (none (Marked marks) (ap stage_of is ∙ ended))
  where
    stage_of : Actor → Stage
    stage_of (Writes one) = one.stage
    stage_of (Recovers one) = Locking
    stage_of (Stands one) = Locking

no_write : (world : World) (actor : Actor) → ((writer : Writer) → actor ≡ Writes writer → ⊥) → EndDown world actor
no_write world actor none writer marks is ended = absurd (none writer is)

recovers_none : (who : Recovery) (writer : Writer) → Recovers who ≡ Writes writer → ⊥
recovers_none who writer e = cc

module _ (setting : Setting) (world : World) (kept : IsKept setting world) (ends : AreEndsDown world) where
  abbrev Grows : World → Type 0
  Grows new = (leaf : Leaf) (cut : ℕ) → DownIn world leaf cut → DownIn new leaf cut

  one_end : (new : World) → Grows new → (i : ℕ) (actor : Actor) → EndDown new actor
      → new.actors ≡ with_value_at world.actors i actor → AreEndsDown new
  one_end new grows i actor own same j =
      subst (λ (actors : ℕ → Actor). EndDown new (actors j)) (sym same)
      (changed_by world.actors i actor (λ k some. EndDown new some) own
      (λ k apart writer marks is ended. marks_on (DownIn world) (DownIn new) grows marks
      (ends k writer marks is ended)) j)

  -- a write goes on, and has not ended; or who goes on is none
  one_going : (new : World) → Grows new → (i : ℕ) (who : Writer) (next : Stage) (view : View)
      → ((verdict : Verdict) → next ≡ Ended verdict → ⊥)
      → new.actors ≡ with_value_at world.actors i (writes_on who next view) → AreEndsDown new
  one_going new grows i who next view none = one_end new grows i (writes_on who next view)
      (no_end new who next view none)

  one_other : (new : World) → Grows new → (i : ℕ) (actor : Actor) → ((writer : Writer) → actor ≡ Writes writer → ⊥)
      → new.actors ≡ with_value_at world.actors i actor → AreEndsDown new
  one_other new grows i actor none = one_end new grows i actor (no_write new actor none)

  -- ---- a write

  module _ (i : ℕ) (who : Writer) (own : IsWriter setting world i who) where
    seen_down : (mark : Mark) (f : Fate) → HasSeen world who mark f → FateSo (DownIn world) mark.leaf f
    seen_down mark fate.Waiting h = tt
    seen_down mark fate.Ready h = tt
    seen_down mark fate.Took h = tt
    seen_down mark (fate.Missed cut) h = down_moves who.view world.truth own.part.within mark.leaf cut h

    each_down : (marks : List Mark) → All (IsMark world who) marks → All (MarkSo (DownIn world)) marks
    each_down [] h = tt
    each_down (mark ∷ marks) h = (seen_down mark mark.fate h.0.seen, each_down marks h.1)

    reserve_ends : (left : List Mark) (next : Stage) → IsHolding next → Grows (after_reserving world i who left next)
        → AreEndsDown (after_reserving world i who left next)
    reserve_ends [] next holding grows = ends
    reserve_ends (mark ∷ left) next holding grows =
        one_going (after_reserving world i who (mark ∷ left) next) grows i who next _
        (λ verdict e. subst IsHolding e holding) refl

    enter_ends : (left : List Mark) (answer : WriteTold) (next : Stage) → IsHolding next
        → Grows (after_entering world i who left answer next)
        → AreEndsDown (after_entering world i who left answer next)
    enter_ends [] answer next holding grows = ends
    enter_ends (mark ∷ left) answer next holding grows =
        one_going (after_entering world i who (mark ∷ left) answer next) grows i who next _
        (λ verdict e. subst IsHolding e holding) refl

    inside_ends : (left : List Mark) (at_root in_zone : List ℕ) (next : Stage) → IsHolding next
        → Grows (gone_on_inside setting world i who left at_root in_zone next)
        → AreEndsDown (gone_on_inside setting world i who left at_root in_zone next)
    inside_ends [] at_root in_zone next holding grows = ends
    inside_ends (mark ∷ left) (bucket ∷ at_root) in_zone next holding grows =
        one_going (gone_on_inside setting world i who (mark ∷ left) (bucket ∷ at_root) in_zone next) grows i who next _
        (λ verdict e. subst IsHolding e holding) refl
    inside_ends (mark ∷ left) [] (bucket ∷ in_zone) next holding grows =
        one_going (gone_on_inside setting world i who (mark ∷ left) [] (bucket ∷ in_zone) next) grows i who next _
        (λ verdict e. subst IsHolding e holding) refl
    inside_ends (mark ∷ left) [] [] next holding grows =
        one_going (gone_on_inside setting world i who (mark ∷ left) [] [] next) grows i who next _
        (λ verdict e. subst IsHolding e holding) refl

    -- what it knows of its replicas before its end it says at its end
    acked_ends : (verdict : Verdict) → IsAt setting world i who (Acking verdict) → (new : World) → Grows new
        → (view : View) → EndDown new (writes_on who (Ended verdict) view)
    acked_ends (Not why) at new grows view writer marks is ended =
        absurd (other (ap stage_of is ∙ ended))
      where
        stage_of : Actor → Stage
        stage_of (Writes one) = one.stage
        stage_of (Recovers one) = Locking
        stage_of (Stands one) = Locking

        other : Ended (Not why) ≡ Ended (Marked marks) → ⊥
        other e = cc
    acked_ends (Marked all) at new grows view writer marks is ended =
        subst (All (MarkSo (DownIn new))) (same (ap stage_of is ∙ ended))
        (marks_on (DownIn world) (DownIn new) grows all (each_down all at.going.each))
      where
        stage_of : Actor → Stage
        stage_of (Writes one) = one.stage
        stage_of (Recovers one) = Locking
        stage_of (Stands one) = Locking

        same : Ended (Marked all) ≡ Ended (Marked marks) → all ≡ marks
        same e = cc

    stage_ends : (stage : Stage) (answer : WriteTold) → IsAt setting world i who stage
        → Grows (step_at setting world i who stage answer) → CanComeAt setting world who stage answer
        → AreEndsDown (step_at setting world i who stage answer)
    stage_ends Locking answer at grows can =
        one_going (step_at setting world i who Locking answer) grows i who (after Locking answer) _
        (after_lock answer) refl
    stage_ends (Reserving round) answer at grows can =
        reserve_ends round.left (after (Reserving round) answer) (after_reserve round answer) grows
    stage_ends (Entering round) answer at grows can =
        enter_ends round.left answer (after (Entering round) answer) (after_entry round answer) grows
    stage_ends (Inside round at_root in_zone) answer at grows can =
        inside_ends round.left at_root in_zone (after (Inside round at_root in_zone) answer)
        (after_inside round at_root in_zone answer) grows
    stage_ends (Acking verdict) answer at grows can =
        let met : View = met_at_range world who.view who.range (with_acknowledgement who verdict) in
        let new : World = step_at setting world i who (Acking verdict) answer in
        one_end new grows i (writes_on who (after (Acking verdict) answer) met)
        (subst (λ (a : WriteTold). EndDown new (writes_on who (after (Acking verdict) a) met)) (sym can)
        (acked_ends verdict at new grows met)) refl
    stage_ends (Ended verdict) answer at grows can = absurd can

  goes_ends : (i : ℕ) (actor : Actor) (answer : WriteTold) → IsActor setting world i actor
      → Grows (after_answer setting world i actor answer) → CanGo setting world actor answer
      → AreEndsDown (after_answer setting world i actor answer)
  goes_ends i (Writes who) answer own grows can = stage_ends i who own who.stage answer own.at grows can
  goes_ends i (Recovers who) answer own grows can = absurd can
  goes_ends i (Stands who) answer own grows can = absurd can

  -- ---- a recovery

  within_ends : (i : ℕ) (who : Recovery) (rows : List Row) (at_root in_zone : List ℕ) (next : CopyStage)
      → Grows (copied_in setting world i who rows at_root in_zone next)
      → AreEndsDown (copied_in setting world i who rows at_root in_zone next)
  within_ends i who rows (bucket ∷ at_root) in_zone next grows =
      one_other (copied_in setting world i who rows (bucket ∷ at_root) in_zone next) grows i (recovers_on who next _)
      (λ writer e. recovers_none _ writer e) refl
  within_ends i who rows [] (bucket ∷ in_zone) next grows =
      one_other (copied_in setting world i who rows [] (bucket ∷ in_zone) next) grows i (recovers_on who next _)
      (λ writer e. recovers_none _ writer e) refl
  within_ends i who rows [] [] next grows =
      one_other (copied_in setting world i who rows [] [] next) grows i (recovers_on who next _)
      (λ writer e. recovers_none _ writer e) refl

  copy_ends : (i : ℕ) (who : Recovery) (stage : CopyStage) (answer : CopyTold)
      → Grows (copy_at setting world i who stage answer) → AreEndsDown (copy_at setting world i who stage answer)
  copy_ends i who Beginning answer grows =
      one_other (copy_at setting world i who Beginning answer) grows i (recovers_on who _ _)
      (λ writer e. recovers_none _ writer e) refl
  copy_ends i who (Copying founds []) answer grows = ends
  copy_ends i who (Copying founds (source ∷ left)) answer grows =
      one_other (copy_at setting world i who (Copying founds (source ∷ left)) answer) grows i (recovers_on who _ _)
      (λ writer e. recovers_none _ writer e) refl
  copy_ends i who (Carrying rows) answer grows =
      one_other (copy_at setting world i who (Carrying rows) answer) grows i (recovers_on who _ _)
      (λ writer e. recovers_none _ writer e) refl
  copy_ends i who (Nearing rows) answer grows =
      one_other (copy_at setting world i who (Nearing rows) answer) grows i (recovers_on who _ _)
      (λ writer e. recovers_none _ writer e) refl
  copy_ends i who (Within rows at_root in_zone) answer grows = within_ends i who rows at_root in_zone _ grows
  copy_ends i who (Telling outcome) answer grows =
      one_other (copy_at setting world i who (Telling outcome) answer) grows i (recovers_on who _ _)
      (λ writer e. recovers_none _ writer e) refl
  copy_ends i who (Over outcome) answer grows = ends

  copies_ends : (i : ℕ) (actor : Actor) (answer : CopyTold)
      → Grows (after_copy_event setting world i actor answer)
      → AreEndsDown (after_copy_event setting world i actor answer)
  copies_ends i (Writes who) answer grows = ends
  copies_ends i (Recovers who) answer grows = copy_ends i who who.stage answer grows
  copies_ends i (Stands who) answer grows = ends

  -- ---- whatever happens

  stands_none : (view : View) (pass : ℕ) (writer : Writer)
      → Stands (record { pass = pass; view = view }) ≡ Writes writer → ⊥
  stands_none view pass writer e = cc

  switch_ends : (i : ℕ) (actor : Actor) (leaf : Leaf) (to : Bool) (answer : SwitchTold)
      → Grows (switched world i actor leaf to answer) → AreEndsDown (switched world i actor leaf to answer)
  switch_ends i (Writes who) leaf to answer grows = ends
  switch_ends i (Recovers who) leaf to answer grows = ends
  switch_ends i (Stands who) leaf to answer grows =
      one_other (switched world i (Stands who) leaf to answer) grows i (stands_on who _)
      (λ writer e. stands_none _ who.pass writer e) refl

  retire_ends : (i : ℕ) (actor : Actor) (range : Range) (leaf : Leaf) (answer : Retirement)
      → Grows (retired world i actor range leaf answer) → AreEndsDown (retired world i actor range leaf answer)
  retire_ends i (Writes who) range leaf answer grows = ends
  retire_ends i (Recovers who) range leaf answer grows = ends
  retire_ends i (Stands who) range leaf answer grows =
      one_other (retired world i (Stands who) range leaf answer) grows i (stands_on who _)
      (λ writer e. stands_none _ who.pass writer e) refl

  wiser_end : (actor : Actor) (view : View) → EndDown world actor → EndDown world (wiser actor view)
  wiser_end (Writes who) view h = λ writer marks is ended. h who marks refl (ap stage_of is ∙ ended)
    where
      stage_of : Actor → Stage
      stage_of (Writes one) = one.stage
      stage_of (Recovers one) = Locking
      stage_of (Stands one) = Locking
  wiser_end (Recovers who) view h = no_write world (wiser (Recovers who) view) (λ writer e. recovers_none _ writer e)
  wiser_end (Stands who) view h =
      no_write world (wiser (Stands who) view) (λ writer e. stands_none _ who.pass writer e)

  locks_first : (verdict : Verdict) → Locking ≡ Ended verdict → ⊥
  locks_first verdict e = cc

  event_ends : (event : Event) → Grows (after_event setting world event) → CanHappen setting world event
      → AreEndsDown (after_event setting world event)
  event_ends (Goes i answer) grows can = goes_ends i (world.actors i) answer (kept.actors i) grows can
  event_ends (Copies i answer) grows can = copies_ends i (world.actors i) answer grows
  event_ends (Switches i leaf to answer) grows can = switch_ends i (world.actors i) leaf to answer grows
  event_ends (Retires i range leaf answer) grows can = retire_ends i (world.actors i) range leaf answer grows
  event_ends (Learns i view) grows can =
      one_end (after_event setting world (Learns i view)) grows i (wiser (world.actors i) view)
      (wiser_end (world.actors i) view (ends i)) refl
  event_ends (Begins i turn range) grows can =
      one_going (after_event setting world (Begins i turn range)) grows i (new_writer turn range (world.actors i)) Locking
      _ locks_first refl
  event_ends (Aims i range leaf) grows can =
      one_other (after_event setting world (Aims i range leaf)) grows i
      (Recovers (new_recovery range leaf (world.actors i))) (λ writer e. recovers_none _ writer e) refl
  event_ends (Visits leaf view) grows can = ends
  event_ends (Resolves range view) grows can = ends

-- histories only grow
truth_grows : (setting : Setting) (world : World) (event : Event) → IsKept setting world
    → CanHappen setting world event → IsViewWithin world.truth (after_event setting world event).truth
truth_grows setting world event kept can =
    (part_stays setting world (event ∷ []) world.truth (can, tt) kept
    (record { sound = kept.truth; within = within_itself world.truth })).within

-- ---- in the core

-- what is kept of a world beside its invariant
pub record Finds (world : World) : Type 0 where
  pub noted : AreNoted world
  pub down : AreEndsDown world

-- who has ended says what was noted
ended_noted : (world : World) (i : ℕ) (actor : Actor) → IsNotedBy (world.notes i) actor → (writer : Writer)
    (marks : List Mark) → actor ≡ Writes writer → writer.stage ≡ Ended (Marked marks)
    → All (MarkSo (HasNoted (world.notes i))) marks
ended_noted world i actor h writer marks is ended =
    subst (MarksSo (HasNoted (world.notes i))) ended
    (subst (λ (a : Actor). IsNotedBy (world.notes i) a) is h)

pub finds_all : (world : World) → Finds world → (i : ℕ) → FindsWhatItSays world i
finds_all world h i writer marks is ended =
    marks_found world i marks (ended_noted world i (world.actors i) (h.noted i) writer marks is ended)
    (h.down i writer marks is ended)

new_end : (setting : Setting) (world : World) (actor : Actor) → IsNewActor setting world actor → EndDown world actor
new_end setting world (Writes who) new = λ writer marks is ended.
    absurd (none (sym new.stage ∙ ap stage_of is ∙ ended))
  where
    stage_of : Actor → Stage
    stage_of (Writes one) = one.stage
    stage_of (Recovers one) = Locking
    stage_of (Stands one) = Locking

    none : {verdict : Verdict} → Locking ≡ Ended verdict → ⊥
    none e = cc
new_end setting world (Recovers who) new = no_write world (Recovers who) (λ writer e. recovers_none who writer e)
new_end setting world (Stands who) new = no_write world (Stands who) (λ writer e. cc)

-- by the law that whatever is said of leaves that were down was noted
module _ (store : Setting)
    (law : (world : World) (events : List Event) → CanRun store world events → AreNoted world
    → AreNoted (after_events store world events)) where
  pub new_finds : ((world : World) → IsNewWorld store world → AreNoted world) → (world : World)
      → IsNewWorld store world → Finds world
  new_finds begins world new =
      record { noted = begins world new; down = λ i. new_end store world (world.actors i) (new.actors i) }

  told_finds : (setting : QuerySetting) (moment : ℤ) (world : World) (view : View) (asks : Ask) → Finds world
      → Finds (world_then store setting moment world view asks)
  told_finds setting moment world view (ask.LoadRoot bucket) h = h
  told_finds setting moment world view (ask.LoadZone zone bucket) h = h
  told_finds setting moment world view (ask.Resolve range) h = record { noted = h.noted; down = h.down }
  told_finds setting moment world view (ask.Visit leaf) h = record { noted = h.noted; down = h.down }
  told_finds setting moment world view ask.Finished h = h

  pub came_finds : (core : Core store) (event : CoreEvent store) → CanCome store core event → IsWoven store core
      → Finds core.world → Finds (came store core event).world
  came_finds core (Happens event) can woven h = record {
    noted = law core.world (event ∷ []) (can, tt) h.noted;
    down = event_ends store core.world woven.world h.down event
        (down_moves core.world.truth (after_event store core.world event).truth
        (truth_grows store core.world event woven.world can)) can;
  }
  came_finds core (Tells i answer stage) can woven h =
      told_finds (core.readers i).setting (core.readers i).moment core.world (core.readers i).view
      (asked_now store (core.readers i)) h
  came_finds core (Hears i view) can woven h = h

  pub go_on_finds : (core : Core store) (events : List (CoreEvent store)) → CanGoOn store core events
      → IsWoven store core → Finds core.world → Finds (core_gone_on store core events).world
  go_on_finds core [] can woven h = h
  go_on_finds core (event ∷ events) can woven h =
      go_on_finds (came store core event) events can.1 (stays_woven store core (event ∷ []) (can.0, tt) woven)
      (came_finds core event can.0 woven h)
