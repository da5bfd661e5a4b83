-- What a licensed session keeps of its trace and of its leaves' answers together, and so how it ends.
use Rattle.std.proofs.Common.{◌≡◌, ◌∙◌, ◌≤ℤ◌, ◌-◌, ◌+◌, ◌⊎◌, inl, inr, ℕ, ℤ, pos, zero, suc, false, List, [], ◌∷◌}
use Rattle.std.proofs.Common.{length, map, take, get_or, refl, sym, ap, subst, arith, Result, Ok, Err}
use Rattle.std.specs.List.{AllByRecursion, sum}
use Rattle.mon_hints.specs.Formulas.{all_named, formula_tree, formulas, AreAmong}
use Rattle.mon_topo.proofs.HeldLemmas.{seen_within_itself, seen_within_through}
use Rattle.mon_value.specs.Histories.{leaf_history}
use Rattle.mon_value.specs.declared.histories.Histories.{Histories}
use Rattle.mon_topo.specs.HeldHistories.{AreHeld, AreWithin}
use Rattle.mon_topo.specs.Settings.{Setting}
use Rattle.mon_topo.specs.Zones.{first_leaf}
use Rattle.mon_value.specs.declared.positions.FoundDown.{FoundDown}
use Rattle.mon_value.specs.declared.positions.Leaf.{Leaf}
use Rattle.mon_value.specs.declared.positions.Range.{Range}
use Rattle.typed_rows.proofs.JoinedRows.{all-map}
use Rattle.query_traces.specs.Answers.{IsAnsweredRightly, IsStoppedRightly}
use Rattle.query_traces.specs.Askings.{IsAskedOf}
use Rattle.query_traces.specs.declared.answers.Answer.{Answer}
use Rattle.query_traces.specs.declared.answers.RoundFault.{RoundFault}
use Rattle.query_traces.specs.declared.answers.RoundFault.TheVariants as fault
use Rattle.query_traces.specs.declared.answers.Trace.{Trace}
use Rattle.query_core.specs.declared.courses.Course.{Course}
use Rattle.query_traces.specs.declared.looks.Look.{Look}
use Rattle.query_core.specs.declared.stages.Stage.{Stage}
use Rattle.query_core.specs.declared.stages.Stage.TheVariants as at
use Rattle.query_core.specs.declared.stages.Step.{Step}
use Rattle.query_core.specs.declared.stages.Step.TheVariants as step
use Rattle.query_core.specs.declared.stages.Turn.{Turn}
use Rattle.query_core.specs.declared.stages.Turn.TheVariants as turn
use Rattle.query_traces.specs.Founds.{HasNoReplica}
use Rattle.query_traces.specs.Rounds.{unread_look, slots_on, QuerySetting, typed_of}
use Rattle.query_core.specs.Machine.{Query, avoided_after, new_query, slots_at}
use Rattle.query_core.specs.Mixtures.{zone_turn}
use Rattle.query_core.specs.Program as spec
use Rattle.query_core.specs.SentTold.{sent_told}
use Rattle.query_core.specs.Sessions as session
use Rattle.mon_topo.specs.Views.{IsSound, View}
use Rattle.query_traces.specs.Traces.{IsFirstServing, is_wanted}
use Rattle.mon_meaning.specs.ReadableSlots.{slot_rows}
use Rattle.query_core.proofs.SentSums.{StageSent, sent_session}
use Rattle.query_core.proofs.SessionEnds.{seen_since, sound_then, stage_last}
use Rattle.query_core.proofs.PartClaims.{EndParts, StageParts}
use Rattle.query_core.proofs.ReadLeaves.{cuts_of, flags_of}
use Rattle.query_traces.proofs.ResolvedZones.{zoned_first}
use Rattle.query_core.proofs.SessionParts.{Keeps, StepTells, TurnTells}
use Rattle.query_traces.proofs.Spans.{ResolvedSo, Tells, look_at, up_to}
use Rattle.query_core.proofs.TraceAnswers.{read_rightly, trace_fresh, trace_of_histories, unmet_rows}
use Rattle.query_core.proofs.TraceClaims as claim
use Rattle.query_core.proofs.TraceClaims.{Anybody, Nobody}
use Rattle.query_core.proofs.TraceSession.{answer_so, ended_so, event_so, zone_so}
use Rattle.query_core.proofs.TraceEnds.{above, answered, answered_sends, over_sends}
use Rattle.query_core.proofs.UnreadLeaves.{TellsOf}
use Rattle.query_core.proofs.ZoneRows.{AllZoned}

-- ---- what is told of leaves, by their looks

flag_of : (looks : List Look) (i : ℕ) → get_or (flags_of looks) i false ≡ (get_or looks i (unread_look 0)).read
flag_of [] zero = refl
flag_of [] (suc i) = refl
flag_of (look ∷ looks) zero = refl
flag_of (look ∷ looks) (suc i) = flag_of looks i

cut_at : (looks : List Look) (i : ℕ) → get_or (cuts_of looks) i 0 ≡ (get_or looks i (unread_look 0)).cut
cut_at [] zero = refl
cut_at [] (suc i) = refl
cut_at (look ∷ looks) zero = refl
cut_at (look ∷ looks) (suc i) = cut_at looks i

-- the buckets that a plan's formulas name are those that its query loads words of
pub listed : (store : Setting) (setting : QuerySetting) → IsAskedOf store setting
    → AreAmong (all_named (formulas (map formula_tree setting.plan.formulas))) setting.plan.buckets
listed store setting asked bucket named = asked.listed.same bucket ∙ named

module _ (store : Setting) (setting : QuerySetting) (moment : ℤ) (asked : IsAskedOf store setting)
    (at_entry : Histories) where
  module _ (now : View) (avoided : List Leaf) where
    told_by : (leaf : Leaf) (course : Course)
        → ⊥ ⊎ Tells (claim.wanted store setting) (claim.met store setting) store.buckets_of
        (up_to now.seen leaf (look_at 0 course.looks leaf)) (slots_on leaf course.resolved)
        (look_at 0 course.looks leaf)
        → (look_at 0 course.looks leaf).read ≡ false
        → AllByRecursion (λ row. is_wanted (typed_of setting) row ≡ false)
        (slot_rows (take (look_at 0 course.looks leaf).cut (leaf_history now.seen leaf))
        (slots_on leaf course.resolved))
    told_by leaf course (inl none) flag = absurd none
    told_by leaf course (inr tells) flag = tells.unread flag

    course_tells : (below k : ℕ) (course : Course) → claim.CourseSo store setting at_entry now avoided below k course
        → TellsOf setting now.seen course
    course_tells below k course so leaf there flag =
        let place : leaf.0 - 0 ≡ leaf.0 = omega arith in
        let read : (look_at 0 course.looks leaf).read ≡ false =
        ap (λ n. (get_or course.looks n (unread_look 0)).read) place ∙ sym (flag_of course.looks leaf.0) ∙ flag in
        let cut : (look_at 0 course.looks leaf).cut ≡ get_or (cuts_of course.looks) leaf.0 0 =
        ap (λ n. (get_or course.looks n (unread_look 0)).cut) place ∙ sym (cut_at course.looks leaf.0) in
        subst (λ (n : ℕ). AllByRecursion (λ row. is_wanted (typed_of setting) row ≡ false)
        (slot_rows (take n (leaf_history now.seen leaf)) (slots_on leaf course.resolved))) cut
        (told_by leaf course (so.span.tells leaf (omega arith) (omega (arith, there, so.span.long))) read)

    turn_tells : (some : Turn) → claim.TurnSo store setting at_entry now avoided some
        → TurnTells store setting moment (TellsOf setting) asked.areas now.seen some
    turn_tells (turn.Goes stage) so = tt
    turn_tells (turn.Through course) so =
        course_tells (first_leaf store.zones so.behind.k) so.behind.k course so.behind.course_is

    step_tells : (some : Step) → claim.StepSo store setting at_entry now avoided some
        → StepTells store setting moment (TellsOf setting) asked.areas now.seen some
    step_tells (step.Takes turn) so = turn_tells turn so
    step_tells (step.Gathered course parts) so = (
      course_tells (first_leaf store.zones so.k) so.k course so.course_is,
      λ mixed. turn_tells (zone_turn setting course mixed)
          (zone_so store setting moment at_entry asked.replicas asked.areas (listed store setting asked)
          (unmet_rows store setting asked)
          now avoided course mixed so),
    )

  -- each range of a trace resolved to a leaf of its zone
  pub trace_zoned : (now : View) → AreHeld store.held store.zones store.points now.seen → (Skip : Leaf → Type 0)
      (trace : Trace) → claim.TraceSo store setting at_entry now Skip trace → AllZoned store.zones trace.resolved
  trace_zoned now held Skip trace is =
      zoned_first store.held store.zones store.points asked.replicas at_entry now.seen held is.avoided trace.resolved
      (all-map (ResolvedSo at_entry now.seen is.avoided 0 (first_leaf store.zones (length store.zones)))
      (IsFirstServing at_entry now.seen is.avoided) trace.resolved (λ one so. so.first) is.span.each)

  -- ---- from one event to the next

  pub record AreKept (before : View) (query : Query) : Type 0 where
    pub since : AreWithin at_entry before.seen
    pub sound : IsSound store before
    pub stage : claim.StageSo store setting at_entry before query.avoided query.stage

  pub keeps : Keeps store setting moment (TellsOf setting) asked.areas AreKept
  keeps = record {
    on = λ before query event also licensed. (
      record {
        since = seen_within_through at_entry before.seen event.view.seen also.since licensed.grown.seen;
        sound = licensed.sound;
        stage = event_so store setting moment at_entry asked.replicas asked.areas (listed store setting asked)
            (unmet_rows store setting asked) before query event also.since also.sound also.stage licensed;
      },
      step_tells event.view (avoided_after query.avoided query.stage event.answer)
          (spec.after setting query.stage event.answer)
          (answer_so store setting moment at_entry asked.replicas asked.areas (listed store setting asked)
          (unmet_rows store setting asked) before event.view licensed.grown also.since also.sound licensed.sound
          query.avoided
          (slots_at query) query.stage event.answer also.stage licensed.true_then),
    );
  }

  pub kept_first : (view : View) → view.seen ≡ at_entry → IsSound store view → AreKept view (new_query setting)
  kept_first view same sound = record {
    since = subst (λ (seen : Histories). AreWithin seen view.seen) same (seen_within_itself view.seen);
    sound = sound;
    stage = record { none = refl; loaded = tt };
  }

-- ---- how a session ends

module _ (store : Setting) (setting : QuerySetting) (moment : ℤ) (asked : IsAskedOf store setting)
    (from : pos 0 ≤ℤ moment)
    (view : View) (events : List (session.Event store setting moment)) (sound : IsSound store view)
    (licensed : session.IsLicensed store setting moment view (new_query setting) events) where
  abbrev exit : View
  exit = session.view_after store setting moment view events

  abbrev last : Query
  last = session.query_after store setting moment (new_query setting) events

  held : AreHeld store.held store.zones store.points exit.seen
  held = (sound_then store setting moment events view (new_query setting) sound licensed).held

  pub parts_now : StageParts store setting moment (TellsOf setting) exit.seen last.stage
  parts_now =
      stage_last store setting moment asked.areas (AreKept store setting moment asked view.seen)
      (keeps store setting moment asked view.seen) view events sound
      (kept_first store setting moment asked view.seen view refl sound) licensed

  pub claim_now : claim.StageSo store setting view.seen exit last.avoided last.stage
  claim_now =
      ended_so store setting moment view.seen asked.replicas asked.areas (listed store setting asked)
      (unmet_rows store setting asked) view refl sound events licensed

  parts_at : (end : Result Answer RoundFault) → last.stage ≡ at.Ended end
      → EndParts store setting moment (TellsOf setting) exit.seen end
  parts_at end ended =
      subst (λ (stage : Stage). StageParts store setting moment (TellsOf setting) exit.seen stage) ended parts_now

  claim_at : (end : Result Answer RoundFault) → last.stage ≡ at.Ended end
      → claim.EndSo store setting view.seen exit end
  claim_at end ended =
      subst (λ (stage : Stage). claim.StageSo store setting view.seen exit last.avoided stage) ended claim_now

  zoned : (Skip : Leaf → Type 0) (trace : Trace) → claim.TraceSo store setting view.seen exit Skip trace
      → AllZoned store.zones trace.resolved
  zoned = trace_zoned store setting moment asked view.seen exit held

  pub answered_rightly : (answer : Answer) → last.stage ≡ at.Ended (Ok answer)
      → IsAnsweredRightly store setting moment view.seen exit.seen answer
  answered_rightly answer ended =
      let so = parts_at (Ok answer) ended in
      let is = claim_at (Ok answer) ended in
      let in_zones = zoned Nobody answer.trace is in
      record {
        of = trace_of_histories store setting moment view.seen exit held Nobody answer.trace is
            (λ leaf within. answered_sends store setting asked moment from exit.seen held answer so in_zones leaf);
        fresh = trace_fresh store setting moment view.seen exit held Nobody answer.trace is
            (seen_since store setting moment events view (new_query setting) licensed);
        read = λ leaf within. read_rightly store setting moment view.seen exit held Nobody answer.trace is leaf within
            (λ none. none);
        down = is.founds.were_found;
        table = answered store setting asked moment from exit.seen held answer so in_zones;
        levels = so.levels;
      }

  pub stopped_rightly : (limit : ℕ) (trace : Trace) → last.stage ≡ at.Ended (Err (fault.StepLimit limit trace))
      → IsStoppedRightly store setting moment view.seen exit.seen limit trace
  stopped_rightly limit trace ended =
      let so = parts_at (Err (fault.StepLimit limit trace)) ended in
      let is = claim_at (Err (fault.StepLimit limit trace)) ended in
      let in_zones = zoned Anybody trace is in
      record {
        of = trace_of_histories store setting moment view.seen exit held Anybody trace is
            (λ leaf within. over_sends store setting asked moment from exit.seen held trace so.1 in_zones leaf);
        since = (trace_fresh store setting moment view.seen exit held Anybody trace is
            (seen_since store setting moment events view (new_query setting) licensed)).cuts;
        down = is.founds.were_found;
        limit_is = so.0;
        above = above store setting asked moment from exit.seen held trace so.1 in_zones;
      }

  pub none_rightly : (range : Range) (named : List FoundDown) → last.stage
      ≡ at.Ended (Err (fault.NoReplica range named))
      → HasNoReplica store.zones view.seen exit.seen range named
  none_rightly range named ended = claim_at (Err (fault.NoReplica range named)) ended

  -- where no leaf was found down, as much was sent as was told
  pub sent_rightly : (answer : Answer) → last.stage ≡ at.Ended (Ok answer) → answer.trace.down ≡ []
      → sum answer.trace.sent ≡ sent_told store setting moment events
  sent_rightly answer ended =
      let so = sent_session store setting moment (TellsOf setting) asked.areas
      (AreKept store setting moment asked view.seen) (keeps store setting moment asked view.seen) events view
      (new_query setting) 0 sound (kept_first store setting moment asked view.seen view refl sound) tt refl licensed in
      let plain : 0 + sent_told store setting moment events ≡ sent_told store setting moment events = omega arith in
      subst (λ (stage : Stage). StageSent (sent_told store setting moment events) stage) ended
      (subst (λ (n : ℕ). StageSent n last.stage) plain so)
