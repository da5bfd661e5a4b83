-- What is known of the answers of leaves at each of a query's stages.
use Rattle.std.proofs.Common.{◌≡◌, ◌<◌, ◌≤◌, ◌+◌, ◌⊎◌, ℕ, ℤ, Bool, List, [], ◌∷◌, length, map, filter, take, drop}
use Rattle.std.proofs.Common.{get_or, Result, Ok, Err}
use Rattle.std.specs.List.{AllByRecursion, range_with_len}
use Rattle.mixer.specs.Divisions.{all_rows}
use Rattle.mixer.specs.ZoneAnswers.{AreLeafParts, AreZoneParts, IsOverZone}
use Rattle.mon_fold.specs.declared.answers.LeafAnswer.{LeafAnswer}
use Rattle.mon_meaning.specs.Central.{IsMeant, IsOver}
use Rattle.mon_meaning.specs.LeafAnswers.{IsOverLeaf}
use Rattle.mon_meaning.specs.declared.meter.OverLimit.{OverLimit}
use Rattle.mon_value.specs.Histories.{leaf_history}
use Rattle.mon_value.specs.declared.histories.Histories.{Histories}
use Rattle.mon_topo.specs.Settings.{Setting}
use Rattle.mon_value.specs.declared.positions.Leaf.{Leaf}
use Rattle.mon_value.specs.declared.rows.Row.{Row}
use Rattle.typed_trees.specs.Plans.{op_levels}
use Rattle.query_traces.specs.declared.answers.Answer.{Answer}
use Rattle.query_traces.specs.declared.answers.Resolved.{Resolved}
use Rattle.query_traces.specs.declared.answers.RoundFault.{RoundFault}
use Rattle.query_traces.specs.declared.answers.RoundFault.TheVariants as fault
use Rattle.query_traces.specs.declared.answers.Trace.{Trace}
use Rattle.query_traces.specs.declared.areas.Area.{Area}
use Rattle.query_traces.specs.declared.asks.Seen.{Seen}
use Rattle.query_core.specs.declared.courses.Course.{Course}
use Rattle.query_traces.specs.declared.looks.Look.{Look}
use Rattle.query_core.specs.declared.stages.Stage.{Stage}
use Rattle.query_core.specs.declared.stages.Stage.TheVariants as at
use Rattle.query_core.specs.declared.stages.Step.{Step}
use Rattle.query_core.specs.declared.stages.Step.TheVariants as step
use Rattle.query_core.specs.declared.stages.Turn.{Turn}
use Rattle.query_core.specs.declared.stages.Turn.TheVariants as turn
use Rattle.query_traces.specs.Rounds.{area_of, leaf_at, range_at, Round, slots_on, QuerySetting, typed_of}
use Rattle.query_core.specs.Courses.{with_zone_behind, trace_of}
use Rattle.mon_meaning.specs.ReadableSlots.{slot_rows}
use Rattle.query_traces.specs.Visits.{Visits}
use Rattle.query_core.proofs.ReadLeaves.{IsUnread}
use Rattle.query_core.proofs.SegmentFacts.{Behind, IsWhole, PartsSo, RangesFrom, Segment, SeenSo}

module _ (store : Setting) (setting : QuerySetting) (moment : ℤ) where
  -- between two zones
  pub record CourseAt (now : Histories) (course : Course) : Type 0 where
    pub segments : List Segment
    pub behind : Behind setting moment store.zones now segments course
    pub begun : course.begun ≡ length segments
    pub few : length segments ≤ length store.zones

  -- in a zone
  pub record CourseIn (now : Histories) (course : Course) (area : Area) : Type 0 where
    pub segments : List Segment
    pub behind : Behind setting moment store.zones now segments course
    pub begun : course.begun ≡ length segments + 1
    pub there : length segments < length store.zones
    pub here : area ≡ area_of store.zones (length segments)

  -- through with all zones
  pub record CourseThrough (now : Histories) (course : Course) : Type 0 where
    pub segments : List Segment
    pub behind : Behind setting moment store.zones now segments course
    pub all : length segments ≡ length store.zones

  -- words that were loaded
  abbrev pub LoadedSo : List ℕ → Seen → Type 0
  LoadedSo [] seen = Unit {0}
  LoadedSo (word ∷ words) seen = SeenSo store.zones seen

  -- ranges that resolved
  pub record RoundSo (round : Round) : Type 0 where
    pub ranges : RangesFrom round.area.first_range.0 round.resolved
    pub few : length round.resolved ≤ round.area.ranges

  pub record RoundWhole (round : Round) : Type 0 where
    pub ranges : RangesFrom round.area.first_range.0 round.resolved
    pub all : length round.resolved ≡ round.area.ranges

  -- leaves that were read: none from a place on, and those left to be visited are from another one on
  pub record VisitsSo (now : Histories) (round : Round) (visits : Visits) (from next : ℕ) : Type 0 where
    pub first : visits.first ≡ round.area.first_leaf
    pub count : length visits.looks ≡ round.area.leaves
    pub not_yet : AllByRecursion IsUnread (drop from visits.looks)
    pub parts : PartsSo setting moment now round.resolved round.area.first_leaf.0 visits.looks visits.answers
    pub test : ℕ → Bool
    pub more : ℕ
    pub left_is : visits.left ≡ map (leaf_at round.area) (filter test (range_with_len next more))
    pub all : next + more ≡ round.area.leaves

  pub record VisitSo (now : Histories) (round : Round) (visits : Visits) (leaf : Leaf) : Type 0 where
    pub place : ℕ
    pub is : leaf ≡ leaf_at round.area place
    pub there : place < round.area.leaves
    pub visits_so : VisitsSo now round visits place (place + 1)

  -- ---- ends

  -- a leaf's load is above the limit
  pub record LeafOver (now : Histories) (trace : Trace) : Type 0 where
    pub before : Course
    pub area : Area
    pub resolved : List Resolved
    pub looks : List Look
    pub in_zone : CourseIn now before area
    pub whole : IsWhole area resolved looks
    pub parts : List LeafAnswer
    pub parts_so : PartsSo setting moment now resolved area.first_leaf.0 looks parts
    pub trace_is : trace ≡ trace_of (with_zone_behind before resolved looks)
    pub place : ℕ
    pub there : place < area.leaves
    pub cut : ℕ
    pub told : get_or (map (λ (look : Look). look.cut) looks) place 0 ≡ cut
    pub over : OverLimit
    pub is : IsOverLeaf (typed_of setting)
        (slot_rows (take cut (leaf_history now (leaf_at area place))) (slots_on (leaf_at area place) resolved)) moment
        setting.limit over

  -- the leaves of a zone were visited
  pub record GatheredSo (now : Histories) (course : Course) (parts : List LeafAnswer) : Type 0 where
    pub before : Course
    pub area : Area
    pub resolved : List Resolved
    pub looks : List Look
    pub in_zone : CourseIn now before area
    pub whole : IsWhole area resolved looks
    pub parts_so : PartsSo setting moment now resolved area.first_leaf.0 looks parts
    pub is : course ≡ with_zone_behind before resolved looks

module _ (store : Setting) (setting : QuerySetting) (moment : ℤ) (Tells : Histories → Course → Type 0) where
  -- a zone's load is above the limit
  pub record ZoneOver (now : Histories) (trace : Trace) : Type 0 where
    pub course : Course
    pub parts : List LeafAnswer
    pub gathered : GatheredSo store setting moment now course parts
    pub tells : Tells now course
    pub trace_is : trace ≡ trace_of course
    pub over : OverLimit
    pub mixes : (leaves : List (List Row)) → AreLeafParts (typed_of setting) leaves moment setting.limit parts
        → IsOverZone (typed_of setting) leaves moment setting.limit over

  -- the whole load is
  pub record RootOver (now : Histories) (trace : Trace) : Type 0 where
    pub course : Course
    pub through : CourseThrough store setting moment now course
    pub tells : Tells now course
    pub trace_is : trace ≡ trace_of course
    pub over : OverLimit
    pub mixes : (zones : List (List (List Row))) → AreZoneParts (typed_of setting) zones moment setting.limit
        course.answers
        → IsOver (typed_of setting) (all_rows zones) moment setting.limit over

  -- a table
  pub record AnsweredSo (now : Histories) (answer : Answer) : Type 0 where
    pub course : Course
    pub through : CourseThrough store setting moment now course
    pub tells : Tells now course
    pub trace_is : answer.trace ≡ trace_of course
    pub levels : answer.levels ≡ op_levels (typed_of setting)
    pub mixes : (zones : List (List (List Row))) → AreZoneParts (typed_of setting) zones moment setting.limit
        course.answers
        → IsMeant (typed_of setting) (all_rows zones) moment setting.limit answer.table

  abbrev pub OverSo : Histories → Trace → Type 0
  OverSo now trace = LeafOver store setting moment now trace ⊎ (ZoneOver now trace ⊎ RootOver now trace)

  abbrev pub EndParts : Histories → Result Answer RoundFault → Type 0
  EndParts now (Ok answer) = AnsweredSo now answer
  EndParts now (Err (fault.NoReplica range named)) = Unit {0}
  EndParts now (Err (fault.StepLimit limit trace)) = (limit ≡ setting.limit) × OverSo now trace

  abbrev pub StageParts : Histories → Stage → Type 0
  StageParts now (at.Rooting loading) = LoadedSo store setting moment loading.words loading.seen
  StageParts now (at.Entering course round loading) =
      CourseIn store setting moment now course round.area × (round.resolved ≡ [])
      × LoadedSo store setting moment loading.words loading.seen
  StageParts now (at.Resolving course round range) =
      CourseIn store setting moment now course round.area × RoundSo store setting moment round
      × (length round.resolved < round.area.ranges) × (range ≡ range_at round.area (length round.resolved))
  StageParts now (at.Reloading course round loading) =
      CourseIn store setting moment now course round.area × RoundWhole store setting moment round
      × LoadedSo store setting moment loading.words loading.seen
  StageParts now (at.Visiting course round visits leaf) =
      CourseIn store setting moment now course round.area × RoundWhole store setting moment round
      × VisitSo store setting moment now round visits leaf
  StageParts now (at.Ended end) = EndParts now end

  abbrev pub TurnParts : Histories → Turn → Type 0
  TurnParts now (turn.Goes stage) = StageParts now stage
  TurnParts now (turn.Through course) = CourseThrough store setting moment now course

  abbrev pub StepParts : Histories → Step → Type 0
  StepParts now (step.Takes turn) = TurnParts now turn
  StepParts now (step.Gathered course parts) = GatheredSo store setting moment now course parts
