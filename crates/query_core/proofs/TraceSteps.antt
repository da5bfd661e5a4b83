-- What an answer makes of what is known of a query's looks.
use Rattle.std.proofs.Common.{◌≡◌, ◌∙◌, ℕ, ◌+◌, ◌<◌, ◌≤◌, Bool, true, false, cond, nat_lt, List, [], ◌∷◌, length, drop}
use Rattle.std.proofs.Common.{Some, None, Contains, inr, refl, sym, ap, subst, arith}
use Rattle.std.specs.List.{AllByRecursion as All}
use Rattle.std.proofs.lemmas.Bool.{ltb-false, ltb-true}
use Rattle.std.proofs.lemmas.List.{length-drop}
use Rattle.std.proofs.lemmas.List.FromFn.{length-map-range_with_len}
use Rattle.mon_hints.specs.Hints.{history_buckets}
use Rattle.mon_schema.specs.Fits.{fits}
use Rattle.mon_topo.proofs.RangeHistoryLemmas.{all_on}
use Rattle.mon_value.specs.Histories.{leaf_history, range_numbered}
use Rattle.mon_value.specs.declared.histories.Histories.{Histories}
use Rattle.mon_topo.specs.Replicas.{HasReplicas}
use Rattle.mon_topo.specs.Settings.{Setting}
use Rattle.mon_topo.specs.Zones.{first_leaf, first_range, ranges_in}
use Rattle.mon_topo.specs.declared.zones.ZoneSpec.{ZoneSpec}
use Rattle.mon_value.specs.LeafHistories.{leaf_rows}
use Rattle.mon_value.specs.declared.histories.Entry.{Entry}
use Rattle.mon_value.specs.declared.positions.Leaf.{Leaf}
use Rattle.query_traces.proofs.Spans.{span_append, span_skips}
use Rattle.query_core.proofs.TraceClaims as claim
use Rattle.query_core.proofs.TraceClaims.{Below, Nobody}
use Rattle.query_core.proofs.TraceWords.{zone_seen}
use Rattle.query_traces.proofs.ZoneFacts.{areas_from, leaves_next}
use Rattle.query_traces.specs.Rounds.{area_of, areas_of, range_at, Round, round_of, QuerySetting}
use Rattle.query_core.specs.Courses.{with_next_zone, is_entered, left}
use Rattle.query_traces.specs.Loadings.{no_word}
use Rattle.plan_split.specs.Meeting.{flag_at}
use Rattle.query_core.specs.Program.{next_zone, resolving, resolving_at, visiting, visiting_at, with_zone}
use Rattle.mon_topo.specs.Views.{View}
use Rattle.query_traces.specs.Visits.{Visits, but_first, first_left, gone_on}
use Rattle.query_traces.specs.declared.areas.Area.{Area}
use Rattle.query_traces.specs.declared.asks.Seen.{Seen}
use Rattle.query_core.specs.declared.courses.Course.{Course}
use Rattle.query_core.specs.declared.stages.Stage.TheVariants as at
use Rattle.query_core.specs.declared.stages.Turn.TheVariants as turn

pub below_more : (n m : ℕ) → n ≤ m → (leaves : List Leaf) → Below n leaves → Below m leaves
below_more n m le leaves below =
    all_on (λ (leaf : Leaf). leaf.0 < n) (λ (leaf : Leaf). leaf.0 < m) (λ leaf less. omega (arith, less, le)) leaves
    below

module _ (store : Setting) (setting : QuerySetting) (at_entry : Histories)
    (replicated : (r : ℕ) → r < length (ranges_in store.zones) → HasReplicas store.zones (range_numbered r))
    (unmet : (history : List Entry) → All (λ row. fits store.held row ≡ true) (leaf_rows history)
    → claim.met store setting (history_buckets store.buckets_of history) ≡ false
    → All (λ row. claim.wanted store setting row ≡ false) (leaf_rows history)) where
  abbrev zs : List ZoneSpec
  zs = store.zones

  module _ (now : View) (avoided : List Leaf) where
    abbrev CourseSo : ℕ → ℕ → Course → Type 0
    CourseSo = claim.CourseSo store setting at_entry now avoided

    -- ---- zones that are left out

    begun_so : (below k : ℕ) (course : Course) → CourseSo below k course → CourseSo below k (with_next_zone course)
    begun_so below k course is = record {
      span = is.span;
      founds = is.founds;
      below_is = is.below_is;
      then = is.then;
      is = is.is;
      shut = is.shut;
    }

    pub left_so : (course : Course) (k : ℕ) (there : k < length zs) → CourseSo (first_leaf zs k) k course
        → (seen : Seen)
        (then : View) → claim.SeenThen store setting at_entry now seen then
        → ((leaf : Leaf) → first_leaf zs k ≤ leaf.0 → leaf.0 < first_leaf zs (k + 1)
        → claim.met store setting (history_buckets store.buckets_of (leaf_history then.seen leaf)) ≡ false)
        → CourseSo (first_leaf zs (k + 1)) (k + 1) (left course (area_of zs k) seen)
    left_so course k there is seen then was shut = record {
      span = span_append at_entry (claim.wanted store setting) (claim.met store setting) store.buckets_of now.seen
          avoided
          Nobody 0 (first_leaf zs k) (first_leaf zs (k + 1)) 0 (first_range zs k) (first_range zs (k + 1))
          course.resolved
          _ course.looks _ is.span
          (zone_seen store setting at_entry replicated unmet now avoided Nobody seen then was k there is.below_is
          (λ leaf from to. inr (shut leaf from to)));
      founds = is.founds;
      below_is = below_more (first_leaf zs k) (first_leaf zs (k + 1)) (omega (arith, leaves_next zs k there)) avoided
          is.below_is;
      then = is.then;
      is = is.is;
      shut = is.shut;
    }

    enters : (course : Course) (area : Area) (areas : List Area) (k : ℕ) → k < length zs → area ≡ area_of zs k
        → course.begun ≡ k → CourseSo (first_leaf zs k) k course → (enter : Bool) → flag_at course.entered k ≡ enter
        → (flag_at course.entered k ≡ false
        → claim.TurnSo store setting at_entry now avoided
        (next_zone areas (left (with_next_zone course) area course.seen)))
        → claim.TurnSo store setting at_entry now avoided (cond enter
        (turn.Goes (at.Entering (with_next_zone course) (round_of area) no_word))
        (next_zone areas (left (with_next_zone course) area course.seen)))
    enters course area areas k there is_area at_k is true e later = record {
      k = k;
      zone = record {
        course_is = begun_so (first_leaf zs k) k course is;
        begun = ap (λ n. n + 1) at_k;
        there = there;
        area = is_area;
      };
      none = refl;
      loaded = record {};
    }
    enters course area areas k there is_area at_k is false e later = later e

    pub next_so : (areas : List Area) (course : Course) (k : ℕ) → areas ≡ drop k (areas_of zs) → k ≤ length zs
        → course.begun ≡ k → CourseSo (first_leaf zs k) k course
        → claim.TurnSo store setting at_entry now avoided (next_zone areas course)
    next_so [] course k e within at_k is = record {
      behind = record { k = k; begun = at_k; within = within; course_is = is };
      all = omega (
        arith,
        ap length e,
        length-drop k (areas_of zs),
        length-map-range_with_len (area_of zs) 0
            (length zs),
      );
    }
    next_so (area ∷ areas) course k e within at_k is =
        let there : k < length zs =
        omega (arith, ap length e, length-drop k (areas_of zs), length-map-range_with_len (area_of zs) 0 (length zs)) in
        let split : area ∷ areas ≡ area_of zs k ∷ drop (k + 1) (areas_of zs) = e ∙ areas_from zs k there in
        let head : area ≡ area_of zs k = cc in
        let rest : areas ≡ drop (k + 1) (areas_of zs) = cc in
        enters course area areas k there head at_k is (is_entered course) (ap (flag_at course.entered) (sym at_k))
        (λ shut. next_so areas (left (with_next_zone course) area course.seen) (k + 1) rest (omega (arith, there))
        (ap (λ n. n + 1) at_k)
        (subst (λ (one : Area). CourseSo (first_leaf zs (k + 1)) (k + 1) (left (with_next_zone course) one course.seen))
        (sym head)
        (left_so (with_next_zone course) k there (begun_so (first_leaf zs k) k course is) course.seen is.then is.is
        (λ leaf from to. is.shut k there shut leaf from to))))

    -- ---- ranges

    resolving_by : (course : Course) (round : Round) (k : ℕ)
        → claim.InZone store setting at_entry now avoided (first_leaf zs (k + 1)) k course round
        → claim.RoundSo store setting at_entry now avoided k round.resolved → (b : Bool)
        → nat_lt (length round.resolved) round.area.ranges ≡ b
        → claim.StepSo store setting at_entry now avoided
        (resolving_at course round (cond b (Some (range_at round.area (length round.resolved))) None))
    resolving_by course round k zone is true e = record {
      k = k;
      zone = zone;
      round_is = is;
      more = subst (λ (area : Area). length round.resolved < area.ranges) zone.area
          (ltb-true (length round.resolved) round.area.ranges e);
      next = ap (λ (area : Area). range_at area (length round.resolved)) zone.area;
    }
    resolving_by course round k zone is false e =
        let most : round.area.ranges ≤ length round.resolved = ltb-false (length round.resolved) round.area.ranges e in
        let same : round.area.ranges ≡ (area_of zs k).ranges = ap (λ (area : Area). area.ranges) zone.area in
        record { k = k; zone = zone; round_is = is; whole = omega (arith, most, same, is.few); loaded = record {} }

    pub resolving_so : (course : Course) (round : Round) (k : ℕ)
        → claim.InZone store setting at_entry now avoided (first_leaf zs (k + 1)) k course round
        → claim.RoundSo store setting at_entry now avoided k round.resolved
        → claim.StepSo store setting at_entry now avoided (resolving course round)
    resolving_so course round k zone is =
        resolving_by course round k zone is (nat_lt (length round.resolved) round.area.ranges) refl

    -- ---- visits

    none_pending : (leaf : Leaf) → Contains {X = Leaf} [] leaf → Nobody leaf
    none_pending leaf there = absurd (omega (arith, there.1))

    pub gathered_so : (course : Course) (round : Round) (visits : Visits) (k : ℕ)
        → claim.InZone store setting at_entry now avoided (first_leaf zs (k + 1)) k course round
        → claim.VisitsSo store setting at_entry now avoided k round visits []
        → claim.BehindSo store setting at_entry now avoided (with_zone course round visits)
    gathered_so course round visits k zone is = record {
      k = k + 1;
      begun = zone.begun;
      within = omega (arith, zone.there);
      course_is = record {
        span = span_append at_entry (claim.wanted store setting) (claim.met store setting) store.buckets_of now.seen
            avoided
            Nobody 0 (first_leaf zs k) (first_leaf zs (k + 1)) 0 (first_range zs k) (first_range zs (k + 1))
            course.resolved
            round.resolved course.looks visits.looks zone.course_is.span
            (span_skips at_entry (claim.wanted store setting) (claim.met store setting) store.buckets_of now.seen
            avoided
            (Contains []) Nobody none_pending (first_leaf zs k) (first_leaf zs (k + 1)) (first_range zs k)
            (first_range zs (k + 1)) round.resolved visits.looks is.span);
        founds = zone.course_is.founds;
        below_is = zone.course_is.below_is;
        then = zone.course_is.then;
        is = zone.course_is.is;
        shut = zone.course_is.shut;
      };
    }

    visiting_by : (course : Course) (round : Round) (visits : Visits) (k : ℕ) (left : List Leaf) → visits.left ≡ left
        → claim.InZone store setting at_entry now avoided (first_leaf zs (k + 1)) k course round
        → claim.VisitsSo store setting at_entry now avoided k round visits left
        → claim.StepSo store setting at_entry now avoided (visiting_at course round visits (first_left left))
    visiting_by course round visits k [] e zone is = gathered_so course round visits k zone is
    visiting_by course round visits k (leaf ∷ left) e zone is =
        let same : left ≡ but_first visits.left = sym (ap but_first e) in
        record {
          k = k;
          zone = zone;
          visits_are = subst (λ (rest : List Leaf).
              claim.VisitsSo store setting at_entry now avoided k round (gone_on visits) (leaf ∷ rest))
              same (record { first = is.first; span = is.span; ours = is.ours });
        }

    pub visiting_so : (course : Course) (round : Round) (visits : Visits) (k : ℕ)
        → claim.InZone store setting at_entry now avoided (first_leaf zs (k + 1)) k course round
        → claim.VisitsSo store setting at_entry now avoided k round visits visits.left
        → claim.StepSo store setting at_entry now avoided (visiting course round visits)
    visiting_so course round visits k zone is = visiting_by course round visits k visits.left refl zone is
