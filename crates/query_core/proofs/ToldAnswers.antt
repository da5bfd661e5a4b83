-- What a licensed session asks of is there, and may be told truly; and the slots of a leaf that it visits can be read.
use Rattle.std.proofs.Common.{◌≡◌, ◌≤ℤ◌, ℕ, ℤ, pos, true, List, length, take, sym, ap, subst}
use Rattle.mon_value.specs.Histories.{leaf_history}
use Rattle.mon_topo.specs.HeldHistories.{AreWithin}
use Rattle.mon_topo.specs.Settings.{Setting}
use Rattle.mon_topo.specs.Zones.{first_leaf}
use Rattle.mon_value.specs.declared.positions.Leaf.{Leaf}
use Rattle.mon_value.specs.declared.positions.RangeSlot.{RangeSlot}
use Rattle.query_traces.specs.AskedPlaces.{IsThere}
use Rattle.query_traces.specs.Askings.{IsAskedOf}
use Rattle.query_traces.specs.Rounds.{has_leaf, Round, QuerySetting, typed_of}
use Rattle.query_traces.specs.declared.asks.Ask.TheVariants as ask
use Rattle.query_traces.specs.declared.asks.Told.{Told}
use Rattle.query_core.specs.declared.courses.Course.{Course}
use Rattle.query_core.specs.declared.stages.Stage.{Stage}
use Rattle.query_core.specs.declared.stages.Stage.TheVariants as at
use Rattle.query_core.specs.declared.stages.Step.{Step}
use Rattle.query_core.specs.declared.stages.Step.TheVariants as step
use Rattle.query_core.specs.declared.stages.Turn.{Turn}
use Rattle.query_core.specs.declared.stages.Turn.TheVariants as turn
use Rattle.query_core.specs.Courses.{trace_of}
use Rattle.query_core.specs.Machine.{Query, avoided_after, new_query, slots_at, slots_in, slots_visited}
use Rattle.query_core.specs.Mixtures.{HasParts, MayBeTold, MayMix, MayMixRoot}
use Rattle.query_core.specs.Program as spec
use Rattle.query_core.specs.Program.{ask_of}
use Rattle.mon_meaning.specs.ReadableSlots.{CanBeRead}
use Rattle.query_core.specs.Sessions as session
use Rattle.query_traces.specs.TrueAnswers as truth
use Rattle.mon_topo.specs.Views.{IsSound, IsViewWithin, View}
use Rattle.query_traces.specs.Traces.{IsBetween}
use Rattle.query_traces.specs.Visits.{Visits}
use Rattle.query_core.proofs.MixedParts.{zone_mixes}
use Rattle.query_core.proofs.AnswerParts.{answer_parts}
use Rattle.query_core.proofs.PartClaims.{StageParts, StepParts, TurnParts}
use Rattle.query_core.proofs.PlaceFacts.{is_there}
use Rattle.query_core.proofs.RightAnswers.{claim_now, listed, parts_now, trace_zoned}
use Rattle.query_traces.proofs.RoundLemmas.{has_at}
use Rattle.query_core.proofs.SessionEnds.{seen_since, sound_then}
use Rattle.query_core.proofs.StageLemmas.{slots_here}
use Rattle.query_core.proofs.TraceAnswers.{unmet_rows}
use Rattle.query_core.proofs.TraceClaims as claim
use Rattle.query_core.proofs.TraceClaims.{Anybody}
use Rattle.query_core.proofs.TraceRows.{ranges_once}
use Rattle.query_core.proofs.TraceSession.{answer_so, stops_so}
use Rattle.query_core.proofs.UnreadLeaves.{TellsOf}
use Rattle.query_core.proofs.VisitedSlots.{all_opened, can_be_read, front_home}
use Rattle.query_core.proofs.WholeTraces.{zones_mix}
use Rattle.query_core.proofs.ZoneRows.{AllZoned}

-- what it asks of is there
pub all_there : (store : Setting) (setting : QuerySetting) (moment : ℤ) (asked : IsAskedOf store setting)
    → pos 0 ≤ℤ moment → (view : View) (events : List (session.Event store setting moment)) → IsSound store view
    → session.IsLicensed store setting moment view (new_query setting) events
    → IsThere store.zones (ask_of setting (session.query_after store setting moment (new_query setting) events).stage)
all_there store setting moment asked from view events sound licensed =
    let last = session.query_after store setting moment (new_query setting) events in
    is_there store setting view.seen (session.view_after store setting moment view events) last.avoided last.stage
    (claim_now store setting moment asked from view events sound licensed)

module _ (store : Setting) (setting : QuerySetting) (moment : ℤ) (asked : IsAskedOf store setting)
    (from : pos 0 ≤ℤ moment)
    (view : View) (events : List (session.Event store setting moment)) (sound : IsSound store view)
    (licensed : session.IsLicensed store setting moment view (new_query setting) events) (after : View)
    (grown : IsViewWithin (session.view_after store setting moment view events) after) (sound_after : IsSound store after)
  where
    abbrev now : View
    now = session.view_after store setting moment view events

    abbrev last : Query
    last = session.query_after store setting moment (new_query setting) events

    sound_now : IsSound store now
    sound_now = sound_then store setting moment events view (new_query setting) sound licensed

    since : AreWithin view.seen now.seen
    since = seen_since store setting moment events view (new_query setting) licensed

    -- ---- what is mixed

    behind_zoned : (avoided : List Leaf) (course : Course) → claim.BehindSo store setting view.seen after avoided course
        → AllZoned store.zones (trace_of course).resolved
    behind_zoned avoided course is =
        trace_zoned store setting moment asked view.seen after sound_after.held Anybody (trace_of course)
        (stops_so store setting moment view.seen asked.replicas asked.areas (listed store setting asked)
        (unmet_rows store setting asked) after avoided course is)

    turn_mixes : (avoided : List Leaf) (some : Turn) → TurnParts store setting moment (TellsOf setting) after.seen some
        → claim.TurnSo store setting view.seen after avoided some → MayMixRoot setting some
    turn_mixes avoided (turn.Goes stage) so is = tt
    turn_mixes avoided (turn.Through course) so is =
        zones_mix store setting asked moment from after.seen sound_after.held course so
        (behind_zoned avoided course is.behind)

    step_mixes : (avoided : List Leaf) (some : Step) → StepParts store setting moment (TellsOf setting) after.seen some
        → claim.StepSo store setting view.seen after avoided some → MayMix setting some
    step_mixes avoided (step.Takes turn) so is = turn_mixes avoided turn so is
    step_mixes avoided (step.Gathered course parts) so is =
        subst (λ (one : Course). HasParts setting one.answers parts) (sym so.is)
        (zone_mixes store setting asked moment from after.seen sound_after.held so.before so.area so.resolved so.looks
        so.in_zone so.whole
        (subst (λ (one : Course). AllZoned store.zones (trace_of one).resolved) so.is (behind_zoned avoided course is))
        parts so.parts_so)

    pub may_be_told : (answer : Told)
        → truth.IsTrueAnswer store setting moment now after last.avoided (slots_at last) (ask_of setting last.stage)
        answer
        → MayBeTold setting last.stage answer
    may_be_told answer true_then = record {
      may_mix = step_mixes (avoided_after last.avoided last.stage answer) (spec.after setting last.stage answer)
          (answer_parts store setting moment (TellsOf setting) asked.areas now after sound_now grown.seen last.avoided
          last.stage answer (parts_now store setting moment asked from view events sound licensed) true_then)
          (answer_so store setting moment view.seen asked.replicas asked.areas (listed store setting asked)
          (unmet_rows store setting asked) now after grown since sound_now sound_after last.avoided (slots_at last)
          last.stage
          answer (claim_now store setting moment asked from view events sound licensed) true_then);
    }

    -- ---- what is read

    module _ (leaf : Leaf) (cut : ℕ)
        (between : IsBetween (length (leaf_history now.seen leaf)) (length (leaf_history after.seen leaf)) cut) where
      abbrev Readable : List RangeSlot → Type 0
      Readable slots = CanBeRead (typed_of setting) (take cut (leaf_history after.seen leaf)) slots

      visited_read : (course : Course) (round : Round) (visits : Visits)
          → StageParts store setting moment (TellsOf setting) now.seen (at.Visiting course round visits leaf)
          → claim.StageSo store setting view.seen now last.avoided (at.Visiting course round visits leaf)
          → Readable (slots_in round leaf)
      visited_read course round visits so is =
          let ours = is.visits_are.ours.0 in
          let low = first_leaf store.zones is.k in
          let visit = so.2 in
          let here : has_leaf round.area leaf ≡ true =
          has_at round.area leaf visit.place visit.there (ap (λ (one : Leaf). one.0) visit.is) in
          subst Readable (sym (slots_here round leaf here))
          (can_be_read store setting asked (take cut (leaf_history after.seen leaf))
          (front_home store after.seen sound_after.held leaf cut) leaf round.resolved
          (ranges_once round.area.first_range.0 round.resolved so.1.ranges)
          (all_opened view.seen now.seen after.seen grown.seen low visits.looks leaf
          (is.visits_are.span.cuts leaf ours.0 ours.1) cut between round.resolved is.visits_are.span.stand))

      read_by : (stage : Stage) → StageParts store setting moment (TellsOf setting) now.seen stage
          → claim.StageSo store setting view.seen now last.avoided stage → ask_of setting stage ≡ ask.Visit leaf
          → Readable (slots_visited stage)
      read_by (at.Rooting loading) so is e = absurd cc
      read_by (at.Entering course round loading) so is e = absurd cc
      read_by (at.Resolving course round range) so is e = absurd cc
      read_by (at.Reloading course round loading) so is e = absurd cc
      read_by (at.Visiting course round visits other) so is e =
          let same : other ≡ leaf = cc in
          subst (λ (one : Leaf). Readable (slots_in round one)) (sym same)
          (visited_read course round visits
          (subst (λ (one : Leaf). StageParts store setting moment (TellsOf setting) now.seen
          (at.Visiting course round visits one)) same so)
          (subst (λ (one : Leaf). claim.StageSo store setting view.seen now last.avoided
          (at.Visiting course round visits one)) same is))
      read_by (at.Ended end) so is e = absurd cc

      pub can_read : ask_of setting last.stage ≡ ask.Visit leaf → Readable (slots_at last)
      can_read =
          read_by last.stage (parts_now store setting moment asked from view events sound licensed)
          (claim_now store setting moment asked from view events sound licensed)
