-- What is known of a query's looks at each of its stages, and that it stays so as more is seen.
use Rattle.std.proofs.Common.{◌≡◌, ℕ, ◌+◌, ◌<◌, ◌≤◌, Bool, false, List, [], ◌∷◌, length, map, Contains, Ok, Err, Result}
use Rattle.std.specs.List.{AllByRecursion as All, range_with_len}
use Rattle.mon_hints.specs.Covers.{AreBitsWithin, StaysSet, Bits}
use Rattle.mon_hints.specs.Hints.{history_buckets}
use Rattle.mon_topo.proofs.HeldLemmas.{seen_within_through}
use Rattle.mon_topo.proofs.RangeHistoryLemmas.{all_on}
use Rattle.mon_value.specs.Histories.{leaf_history, range_numbered}
use Rattle.mon_value.specs.declared.histories.Histories.{Histories}
use Rattle.mon_topo.specs.HeldHistories.{AreWithin}
use Rattle.mon_topo.specs.Settings.{Setting}
use Rattle.mon_topo.specs.Zones.{first_leaf, first_range}
use Rattle.mon_topo.specs.declared.zones.ZoneSpec.{ZoneSpec}
use Rattle.mon_value.specs.declared.positions.FoundDown.{FoundDown}
use Rattle.mon_value.specs.declared.positions.Leaf.{Leaf}
use Rattle.mon_value.specs.declared.positions.Range.{Range}
use Rattle.mon_value.specs.declared.rows.Row.{Row}
use Rattle.query_traces.proofs.FindingLemmas.{KeepsFounds, founds_on, no_replica_on}
use Rattle.query_traces.proofs.HintFacts.{AreKnown}
use Rattle.query_traces.proofs.Spans.{ResolvedSo, SpanSo, StandsIn, range_of, resolved_on, span_on, stands_later}
use Rattle.query_traces.proofs.Spans.{stands_on}
use Rattle.query_traces.specs.Rounds.{area_of, range_at, Round, QuerySetting, typed_of}
use Rattle.query_traces.specs.Founds.{HasNoReplica}
use Rattle.plan_split.specs.Meeting.{flag_at, is_plan_met}
use Rattle.query_traces.specs.TrueAnswers.{IsSeenSo}
use Rattle.mon_topo.specs.Views.{IsSound, IsViewWithin, View}
use Rattle.query_traces.specs.Traces.{is_wanted}
use Rattle.query_traces.specs.Visits.{Visits}
use Rattle.query_traces.specs.declared.answers.Answer.{Answer}
use Rattle.query_traces.specs.declared.answers.Resolved.{Resolved}
use Rattle.query_traces.specs.declared.answers.RoundFault.{RoundFault}
use Rattle.query_traces.specs.declared.answers.RoundFault.TheVariants as fault
use Rattle.query_traces.specs.declared.answers.Trace.{Trace}
use Rattle.query_traces.specs.declared.asks.Seen.{Seen}
use Rattle.query_core.specs.declared.courses.Course.{Course}
use Rattle.query_traces.specs.declared.loadings.Loading.{Loading}
use Rattle.query_traces.specs.declared.looks.Look.{Look}
use Rattle.query_core.specs.declared.stages.Stage.{Stage}
use Rattle.query_core.specs.declared.stages.Stage.TheVariants as at
use Rattle.query_core.specs.declared.stages.Step.{Step}
use Rattle.query_core.specs.declared.stages.Step.TheVariants as step
use Rattle.query_core.specs.declared.stages.Turn.{Turn}
use Rattle.query_core.specs.declared.stages.Turn.TheVariants as turn

abbrev pub Nobody : Leaf → Type 0
Nobody leaf = ⊥

abbrev pub Anybody : Leaf → Type 0
Anybody leaf = Unit {0}

abbrev pub Anyhow : Histories → Type 0
Anyhow seen = Unit {0}

abbrev pub Below : ℕ → List Leaf → Type 0
Below n = All (λ (leaf : Leaf). leaf.0 < n)

-- the bits of children that words are to have: of zones, and of the leaves of a zone
abbrev pub KnownOf : Type 0
KnownOf = Bits → ℕ → ℕ → Bool

abbrev pub root_known : KnownOf
root_known bits = bits.root

abbrev pub zone_known : List ZoneSpec → ℕ → KnownOf
zone_known zones k bits child bucket = bits.zone (first_leaf zones k + child) bucket

module _ (store : Setting) (setting : QuerySetting) where
  abbrev pub wanted : Row → Bool
  wanted = is_wanted (typed_of setting)

  abbrev pub met : List ℕ → Bool
  met = is_plan_met setting.plan

module _ (store : Setting) (setting : QuerySetting) (at_entry : Histories) where
  abbrev pub zones : List ZoneSpec
  zones = store.zones

  abbrev pub Span : Histories → List Leaf → (Leaf → Type 0) → ℕ → ℕ → ℕ → ℕ → List Resolved → List Look → Type 0
  Span = SpanSo at_entry (wanted store setting) (met store setting) store.buckets_of

  -- ---- words

  -- what had been seen by a moment of the query
  pub record SeenThen (now : View) (seen : Seen) (then : View) : Type 0 where
    pub since : AreWithin at_entry then.seen
    pub until : AreWithin then.seen now.seen
    pub bits : AreBitsWithin then.bits now.bits
    pub sound : IsSound store then
    pub so : IsSeenSo then.seen seen

  -- words, the first of which was loaded at such a moment
  pub record LoadedSo (now : View) (known_of : KnownOf) (count : ℕ) (Also : Histories → Type 0) (words : List ℕ)
      (seen : Seen) : Type 0 where
    pub then : View
    pub is : SeenThen now seen then
    pub also : Also then.seen
    pub known : AreKnown (known_of then.bits) count setting.plan.buckets words

  abbrev pub LoadingSo : View → KnownOf → ℕ → (Histories → Type 0) → List ℕ → Seen → Type 0
  LoadingSo now known_of count Also [] seen = Unit {0}
  LoadingSo now known_of count Also (word ∷ words) seen = LoadedSo now known_of count Also (word ∷ words) seen

  -- ---- zones

  -- a query that is through with the zones below one, where the leaves that were found down are below some number
  pub record CourseSo (now : View) (avoided : List Leaf) (below : ℕ) (k : ℕ) (course : Course) : Type 0 where
    pub span : Span now.seen avoided Nobody 0 (first_leaf zones k) 0 (first_range zones k) course.resolved course.looks
    pub founds : KeepsFounds at_entry now.seen avoided course.founds
    pub below_is : Below below avoided
    pub then : View
    pub is : SeenThen now course.seen then
    pub shut : (z : ℕ) → z < length zones → flag_at course.entered z ≡ false → (leaf : Leaf)
        → first_leaf zones z ≤ leaf.0 → leaf.0 < first_leaf zones (z + 1)
        → met store setting (history_buckets store.buckets_of (leaf_history then.seen leaf)) ≡ false

  -- between two zones
  pub record BehindSo (now : View) (avoided : List Leaf) (course : Course) : Type 0 where
    pub k : ℕ
    pub begun : course.begun ≡ k
    pub within : k ≤ length zones
    pub course_is : CourseSo now avoided (first_leaf zones k) k course

  -- in a zone
  pub record InZone (now : View) (avoided : List Leaf) (below : ℕ) (k : ℕ) (course : Course) (round : Round) : Type 0
    where
      pub course_is : CourseSo now avoided below k course
      pub begun : course.begun ≡ k + 1
      pub there : k < length zones
      pub area : round.area ≡ area_of zones k

  abbrev pub Opened : List Resolved → Histories → Type 0
  Opened resolved seen =
      All (λ (one : Resolved). StandsIn at_entry seen (leaf_history seen one.leaf) one) resolved

  abbrev pub Resolves : View → List Leaf → ℕ → List Resolved → Type 0
  Resolves now avoided k = All (ResolvedSo at_entry now.seen avoided (first_leaf zones k) (first_leaf zones (k + 1)))

  -- ranges of a zone that resolved so far
  pub record RoundSo (now : View) (avoided : List Leaf) (k : ℕ) (resolved : List Resolved) : Type 0 where
    pub few : length resolved ≤ (area_of zones k).ranges
    pub ranges : map range_of resolved ≡ map range_numbered (range_with_len (first_range zones k) (length resolved))
    pub each : Resolves now avoided k resolved
    pub opened : Opened resolved now.seen

  -- visits of a zone's leaves; some leaves are still to be visited
  pub record VisitsSo (now : View) (avoided : List Leaf) (k : ℕ) (round : Round) (visits : Visits) (pending : List Leaf)
      : Type 0 where
    pub first : visits.first ≡ round.area.first_leaf
    pub span : Span now.seen avoided (Contains pending) (first_leaf zones k) (first_leaf zones (k + 1))
        (first_range zones k) (first_range zones (k + 1)) round.resolved visits.looks
    pub ours : All (λ (leaf : Leaf). (first_leaf zones k ≤ leaf.0) × (leaf.0 < first_leaf zones (k + 1))) pending

  -- ---- stages

  pub record EnteringSo (now : View) (avoided : List Leaf) (course : Course) (round : Round) (loading : Loading)
      : Type 0 where
    pub k : ℕ
    pub zone : InZone now avoided (first_leaf zones k) k course round
    pub none : round.resolved ≡ []
    pub loaded : LoadingSo now (zone_known zones k) (area_of zones k).leaves Anyhow loading.words loading.seen

  pub record ResolvingSo (now : View) (avoided : List Leaf) (course : Course) (round : Round) (range : Range)
      : Type 0 where
    pub k : ℕ
    pub zone : InZone now avoided (first_leaf zones (k + 1)) k course round
    pub round_is : RoundSo now avoided k round.resolved
    pub more : length round.resolved < (area_of zones k).ranges
    pub next : range ≡ range_at (area_of zones k) (length round.resolved)

  pub record ReloadingSo (now : View) (avoided : List Leaf) (course : Course) (round : Round) (loading : Loading)
      : Type 0 where
    pub k : ℕ
    pub zone : InZone now avoided (first_leaf zones (k + 1)) k course round
    pub round_is : RoundSo now avoided k round.resolved
    pub whole : length round.resolved ≡ (area_of zones k).ranges
    pub loaded : LoadingSo now (zone_known zones k) (area_of zones k).leaves (Opened round.resolved) loading.words
        loading.seen

  pub record VisitingSo (now : View) (avoided : List Leaf) (course : Course) (round : Round) (visits : Visits)
      (pending : List Leaf) : Type 0 where
    pub k : ℕ
    pub zone : InZone now avoided (first_leaf zones (k + 1)) k course round
    pub visits_are : VisitsSo now avoided k round visits pending

  -- a trace of all leaves and ranges; of some leaves nothing is told
  pub record TraceSo (now : View) (Skip : Leaf → Type 0) (trace : Trace) : Type 0 where
    pub looks : List Look
    pub avoided : List Leaf
    pub span : Span now.seen avoided Skip 0 (first_leaf zones (length zones)) 0 (first_range zones (length zones))
        trace.resolved looks
    pub cuts : trace.cuts ≡ map (λ (look : Look). look.cut) looks
    pub read : trace.read ≡ map (λ (look : Look). look.read) looks
    pub counts : length trace.sent ≡ length looks
    pub founds : KeepsFounds at_entry now.seen avoided trace.down

  abbrev pub EndSo : View → Result Answer RoundFault → Type 0
  EndSo now (Ok answer) = TraceSo now Nobody answer.trace
  EndSo now (Err (fault.NoReplica range named)) = HasNoReplica zones at_entry now.seen range named
  EndSo now (Err (fault.StepLimit limit trace)) = TraceSo now Anybody trace

  pub record RootingSo (now : View) (avoided : List Leaf) (loading : Loading) : Type 0 where
    pub none : avoided ≡ []
    pub loaded : LoadingSo now root_known (length zones) Anyhow loading.words loading.seen

  abbrev pub StageSo : View → List Leaf → Stage → Type 0
  StageSo now avoided (at.Rooting loading) = RootingSo now avoided loading
  StageSo now avoided (at.Entering course round loading) = EnteringSo now avoided course round loading
  StageSo now avoided (at.Resolving course round range) = ResolvingSo now avoided course round range
  StageSo now avoided (at.Reloading course round loading) = ReloadingSo now avoided course round loading
  StageSo now avoided (at.Visiting course round visits leaf) = VisitingSo now avoided course round visits
      (leaf ∷ visits.left)
  StageSo now avoided (at.Ended end) = EndSo now end

  pub record ThroughSo (now : View) (avoided : List Leaf) (course : Course) : Type 0 where
    pub behind : BehindSo now avoided course
    pub all : length zones ≤ behind.k

  abbrev pub TurnSo : View → List Leaf → Turn → Type 0
  TurnSo now avoided (turn.Goes stage) = StageSo now avoided stage
  TurnSo now avoided (turn.Through course) = ThroughSo now avoided course

  abbrev pub StepSo : View → List Leaf → Step → Type 0
  StepSo now avoided (step.Takes turn) = TurnSo now avoided turn
  StepSo now avoided (step.Gathered course parts) = BehindSo now avoided course

  -- ---- as more is seen and known

  module _ (before after : View) (grown : IsViewWithin before after) where
    kept_through : (a b c : ℕ → ℕ → Bool) → StaysSet a b → StaysSet b c → StaysSet a c
    kept_through a b c h k place bucket set = k place bucket (h place bucket set)

    pub then_on : (seen : Seen) (then : View) → SeenThen before seen then → SeenThen after seen then
    then_on seen then is = record {
      since = is.since;
      until = seen_within_through then.seen before.seen after.seen is.until grown.seen;
      bits = record {
        root = kept_through then.bits.root before.bits.root after.bits.root is.bits.root grown.bits.root;
        zone = kept_through then.bits.zone before.bits.zone after.bits.zone is.bits.zone grown.bits.zone;
      };
      sound = is.sound;
      so = is.so;
    }

    pub loaded_on : (known_of : KnownOf) (count : ℕ) (Also : Histories → Type 0) (words : List ℕ) (seen : Seen)
        → LoadedSo before known_of count Also words seen → LoadedSo after known_of count Also words seen
    loaded_on known_of count Also words seen is = record {
      then = is.then;
      is = then_on seen is.then is.is;
      also = is.also;
      known = is.known;
    }

    pub loading_on : (known_of : KnownOf) (count : ℕ) (Also : Histories → Type 0) (words : List ℕ) (seen : Seen)
        → LoadingSo before known_of count Also words seen → LoadingSo after known_of count Also words seen
    loading_on known_of count Also [] seen is = is
    loading_on known_of count Also (word ∷ words) seen is = loaded_on known_of count Also (word ∷ words) seen is

    span_grown : (avoided : List Leaf) (Skip : Leaf → Type 0) (low high first last : ℕ) (resolved : List Resolved)
        (looks : List Look) → Span before.seen avoided Skip low high first last resolved looks
        → Span after.seen avoided Skip low high first last resolved looks
    span_grown = span_on at_entry (wanted store setting) (met store setting) store.buckets_of before.seen after.seen
        grown.seen

    founds_kept : (avoided : List Leaf) (founds : List FoundDown) → KeepsFounds at_entry before.seen avoided founds
        → KeepsFounds at_entry after.seen avoided founds
    founds_kept avoided founds keeps = record {
      were_found = founds_on at_entry before.seen after.seen grown.seen founds keeps.were_found;
      avoids = keeps.avoids;
    }

    pub course_on : (avoided : List Leaf) (below k : ℕ) (course : Course) → CourseSo before avoided below k course
        → CourseSo after avoided below k course
    course_on avoided below k course is = record {
      span = span_grown avoided Nobody 0 (first_leaf zones k) 0 (first_range zones k) course.resolved course.looks
          is.span;
      founds = founds_kept avoided course.founds is.founds;
      below_is = is.below_is;
      then = is.then;
      is = then_on course.seen is.then is.is;
      shut = is.shut;
    }

    pub zone_on : (avoided : List Leaf) (below k : ℕ) (course : Course) (round : Round)
        → InZone before avoided below k course round → InZone after avoided below k course round
    zone_on avoided below k course round is = record {
      course_is = course_on avoided below k course is.course_is;
      begun = is.begun;
      there = is.there;
      area = is.area;
    }

    pub round_on : (avoided : List Leaf) (k : ℕ) (resolved : List Resolved) → RoundSo before avoided k resolved
        → RoundSo after avoided k resolved
    round_on avoided k resolved is = record {
      few = is.few;
      ranges = is.ranges;
      each = all_on (ResolvedSo at_entry before.seen avoided (first_leaf zones k) (first_leaf zones (k + 1)))
          (ResolvedSo at_entry after.seen avoided (first_leaf zones k) (first_leaf zones (k + 1)))
          (λ one. resolved_on at_entry before.seen after.seen grown.seen avoided (first_leaf zones k)
          (first_leaf zones (k + 1)) one)
          resolved is.each;
      opened = all_on (λ (one : Resolved). StandsIn at_entry before.seen (leaf_history before.seen one.leaf) one)
          (λ (one : Resolved). StandsIn at_entry after.seen (leaf_history after.seen one.leaf) one)
          (λ one was. stands_on at_entry after.seen (leaf_history after.seen one.leaf)
          (leaf_history before.seen one.leaf) one (grown.seen.leaves one.leaf)
          (stands_later at_entry before.seen after.seen grown.seen (leaf_history before.seen one.leaf) one was))
          resolved is.opened;
    }

    pub trace_on : (Skip : Leaf → Type 0) (trace : Trace) → TraceSo before Skip trace → TraceSo after Skip trace
    trace_on Skip trace is = record {
      looks = is.looks;
      avoided = is.avoided;
      span = span_grown is.avoided Skip 0 (first_leaf zones (length zones)) 0 (first_range zones (length zones))
          trace.resolved is.looks is.span;
      cuts = is.cuts;
      read = is.read;
      counts = is.counts;
      founds = founds_kept is.avoided trace.down is.founds;
    }

    pub end_on : (end : Result Answer RoundFault) → EndSo before end → EndSo after end
    end_on (Ok answer) is = trace_on Nobody answer.trace is
    end_on (Err (fault.NoReplica range named)) is =
        no_replica_on zones at_entry before.seen after.seen grown.seen range named is
    end_on (Err (fault.StepLimit limit trace)) is = trace_on Anybody trace is

    pub stage_on : (avoided : List Leaf) (stage : Stage) → StageSo before avoided stage → StageSo after avoided stage
    stage_on avoided (at.Rooting loading) is = record {
      none = is.none;
      loaded = loading_on root_known (length zones) Anyhow loading.words loading.seen is.loaded;
    }
    stage_on avoided (at.Entering course round loading) is = record {
      k = is.k;
      zone = zone_on avoided (first_leaf zones is.k) is.k course round is.zone;
      none = is.none;
      loaded = loading_on (zone_known zones is.k) (area_of zones is.k).leaves Anyhow loading.words loading.seen
          is.loaded;
    }
    stage_on avoided (at.Resolving course round range) is = record {
      k = is.k;
      zone = zone_on avoided (first_leaf zones (is.k + 1)) is.k course round is.zone;
      round_is = round_on avoided is.k round.resolved is.round_is;
      more = is.more;
      next = is.next;
    }
    stage_on avoided (at.Reloading course round loading) is = record {
      k = is.k;
      zone = zone_on avoided (first_leaf zones (is.k + 1)) is.k course round is.zone;
      round_is = round_on avoided is.k round.resolved is.round_is;
      whole = is.whole;
      loaded = loading_on (zone_known zones is.k) (area_of zones is.k).leaves (Opened round.resolved) loading.words
          loading.seen is.loaded;
    }
    stage_on avoided (at.Visiting course round visits leaf) is = record {
      k = is.k;
      zone = zone_on avoided (first_leaf zones (is.k + 1)) is.k course round is.zone;
      visits_are = record {
        first = is.visits_are.first;
        span = span_grown avoided (Contains (leaf ∷ visits.left)) (first_leaf zones is.k) (first_leaf zones (is.k + 1))
            (first_range zones is.k) (first_range zones (is.k + 1)) round.resolved visits.looks is.visits_are.span;
        ours = is.visits_are.ours;
      };
    }
    stage_on avoided (at.Ended end) is = end_on end is
