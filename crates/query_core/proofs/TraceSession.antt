-- What a licensed session keeps of a query's looks.
use Rattle.std.proofs.Common.{◌≡◌, ◌∙◌, ℕ, ℤ, zero, suc, ◌+◌, ◌-◌, ◌<◌, ◌≤◌, Bool, true, false, cond, nat_le, List, []}
use Rattle.std.proofs.Common.{◌∷◌, length, map, take, drop, get_or, Some, Ok, Err, Result, Contains, ◌⊎◌, inl, inr}
use Rattle.std.proofs.Common.{refl, sym, ap, subst, arith}
use Rattle.std.specs.List.{AllByRecursion as All, list_any}
use Rattle.std.proofs.lemmas.Bool.{or_parts}
use Rattle.std.proofs.lemmas.Bool.Decides.{nat_tests}
use Rattle.std.proofs.lemmas.List.{take-append-drop}
use Rattle.std.proofs.lemmas.List.FromFn.{length-map-range_with_len}
use Rattle.mixer.specs.declared.zone_answers.ZoneAnswer.{ZoneAnswer}
use Rattle.mon_fold.specs.declared.answers.LeafAnswer.{LeafAnswer}
use Rattle.mon_hints.specs.Covers.{AreBitsWithin, Bits}
use Rattle.mon_hints.specs.Formulas.{all_named, formula_tree, formulas, AreAmong}
use Rattle.mon_hints.specs.Hints.{history_buckets, has_bit}
use Rattle.mon_meaning.specs.declared.meter.OverLimit.{OverLimit}
use Rattle.mon_schema.specs.Fits.{fits}
use Rattle.mon_topo.proofs.FrontLemmas.{begins_from, contains_on}
use Rattle.mon_topo.proofs.HeldLemmas.{seen_within_itself, seen_within_through}
use Rattle.mon_value.specs.Histories.{leaf_history, leaf_numbered, range_numbered, zone_numbered}
use Rattle.mon_value.specs.declared.histories.Histories.{Histories}
use Rattle.mon_topo.specs.HeldHistories.{AreAtHome, AreWithin}
use Rattle.mon_topo.specs.Replicas.{HasReplicas}
use Rattle.mon_topo.specs.Settings.{Setting}
use Rattle.mon_topo.specs.Zones.{first_leaf, first_range, ranges_in}
use Rattle.mon_topo.specs.declared.zones.ZoneSpec.{ZoneSpec}
use Rattle.mon_value.specs.LeafHistories.{leaf_rows}
use Rattle.mon_value.specs.declared.histories.Entry.{Entry}
use Rattle.mon_value.specs.declared.positions.Leaf.{Leaf}
use Rattle.mon_value.specs.declared.positions.RangeSlot.{RangeSlot}
use Rattle.mon_value.specs.declared.positions.Zone.{Zone}
use Rattle.mon_value.specs.declared.tables.Table.{Table}
use Rattle.query_traces.proofs.SeenSpans.{tells_unmet}
use Rattle.query_traces.proofs.Spans.{Tells, span_append, span_skips, up_to}
use Rattle.query_core.proofs.TraceClaims as claim
use Rattle.query_core.proofs.TraceClaims.{Anybody, Anyhow, Nobody}
use Rattle.query_core.proofs.TraceLooks.{look_so, looked_is, trace_so}
use Rattle.query_core.proofs.TraceSteps.{below_more, left_so, next_so, resolving_so, visiting_so}
use Rattle.query_core.proofs.TraceVisits.{down_so, none_so, slot_so, visits_begun}
use Rattle.query_core.proofs.TraceWords.{loading_from, root_shut, word_loaded, zone_shut}
use Rattle.query_traces.proofs.ZoneFacts.{leaves_next, zone_of_leaf_at}
use Rattle.query_traces.specs.Rounds.{area_of, areas_of, read_at, unread_look, Round, slots_on, QuerySetting}
use Rattle.query_core.specs.Courses.{course_of, with_zone_answer, left, trace_of}
use Rattle.query_traces.specs.Loadings.{is_whole, with_word}
use Rattle.query_core.specs.Machine.{Query, avoided_after, new_query, slots_at}
use Rattle.query_core.specs.Mixtures.{Settles, TurnSettles, root_stage, zone_turn}
use Rattle.plan_split.specs.Meeting.{flag_at, let_in}
use Rattle.query_core.specs.Program as spec
use Rattle.query_core.specs.Program.{ask_of, begin_visits, let_some_in, next_zone, resolving, visiting, with_zone}
use Rattle.query_core.specs.Sessions as session
use Rattle.query_traces.specs.TrueAnswers as truth
use Rattle.query_traces.specs.TrueAnswers.{IsFoundSo, IsZoneWord}
use Rattle.mon_topo.specs.Views.{IsSound, IsViewWithin, View}
use Rattle.query_traces.specs.Traces.{IsBetween}
use Rattle.query_traces.specs.Visits as visit
use Rattle.query_traces.specs.Visits.{Visits, with_look}
use Rattle.query_traces.specs.declared.answers.RoundFault.TheVariants as fault
use Rattle.query_traces.specs.declared.areas.Area.{Area}
use Rattle.query_traces.specs.declared.asks.Seen.{Seen}
use Rattle.query_traces.specs.declared.asks.Told.{Told}
use Rattle.query_traces.specs.declared.asks.Told.TheVariants as told
use Rattle.query_core.specs.declared.courses.Course.{Course}
use Rattle.query_traces.specs.declared.loadings.Loading.{Loading}
use Rattle.query_traces.specs.declared.looks.Look.{Look}
use Rattle.query_core.specs.declared.stages.Stage.{Stage}
use Rattle.query_core.specs.declared.stages.Stage.TheVariants as at
use Rattle.query_core.specs.declared.stages.Step.{Step}
use Rattle.query_core.specs.declared.stages.Step.TheVariants as step
use Rattle.query_core.specs.declared.stages.Turn.{Turn}
use Rattle.query_core.specs.declared.stages.Turn.TheVariants as turn

no_flag : (flags : List Bool) → list_any (λ flag. flag) flags ≡ false → (j : ℕ) → flag_at flags j ≡ false
no_flag [] e j = refl
no_flag (flag ∷ flags) e zero = (or_parts flag (list_any (λ flag. flag) flags) e).0
no_flag (flag ∷ flags) e (suc j) = no_flag flags (or_parts flag (list_any (λ flag. flag) flags) e).1 j

enough : (a b : ℕ) → nat_le a b ≡ true → a ≤ b
enough a b e = grind (arith, nat_tests)

module _ (store : Setting) (setting : QuerySetting) (moment : ℤ) (at_entry : Histories)
    (replicated : (r : ℕ) → r < length (ranges_in store.zones) → HasReplicas store.zones (range_numbered r))
    (areas : setting.areas ≡ areas_of store.zones)
    (listed : AreAmong (all_named (formulas (map formula_tree setting.plan.formulas))) setting.plan.buckets)
    (unmet : (history : List Entry) → All (λ row. fits store.held row ≡ true) (leaf_rows history)
    → claim.met store setting (history_buckets store.buckets_of history) ≡ false
    → All (λ row. claim.wanted store setting row ≡ false) (leaf_rows history)) where
  abbrev zs : List ZoneSpec
  zs = store.zones

  abbrev StageSo : View → List Leaf → Stage → Type 0
  StageSo = claim.StageSo store setting at_entry

  abbrev StepSo : View → List Leaf → Step → Type 0
  StepSo = claim.StepSo store setting at_entry

  -- ---- where a query goes on once answers are mixed

  module _ (now : View) (avoided : List Leaf) where
    behind_next : (course : Course) → claim.BehindSo store setting at_entry now avoided course
        → claim.TurnSo store setting at_entry now avoided (next_zone (drop course.begun setting.areas) course)
    behind_next course is =
        next_so store setting at_entry replicated unmet now avoided (drop course.begun setting.areas) course is.k
        (ap (λ n. drop n setting.areas) is.begun ∙ ap (drop is.k) areas) is.within is.begun is.course_is

    kept_so : (course : Course) (answer : ZoneAnswer) → claim.BehindSo store setting at_entry now avoided course
        → claim.BehindSo store setting at_entry now avoided (with_zone_answer course answer)
    kept_so course answer is = record {
      k = is.k;
      begun = is.begun;
      within = is.within;
      course_is = record {
        span = is.course_is.span;
        founds = is.course_is.founds;
        below_is = is.course_is.below_is;
        then = is.course_is.then;
        is = is.course_is.is;
        shut = is.course_is.shut;
      };
    }

    -- a query that ends behind a zone
    pub stops_so : (course : Course) → claim.BehindSo store setting at_entry now avoided course
        → claim.EndSo store setting at_entry now (Err (fault.StepLimit setting.limit (trace_of course)))
    stops_so course is =
        let so = is.course_is in
        trace_so store setting at_entry replicated unmet now avoided Anybody course is.k (length zs - is.k)
        (omega (arith, is.within))
        (λ some leaf. record {})
        (span_skips at_entry (claim.wanted store setting) (claim.met store setting) store.buckets_of now.seen avoided
        Nobody Anybody
        (λ leaf none. record {}) 0 (first_leaf zs is.k) 0 (first_range zs is.k) course.resolved course.looks so.span)
        so.founds so.below_is so.then so.is

    ends_so : (course : Course) → claim.ThroughSo store setting at_entry now avoided course
        → claim.TraceSo store setting at_entry now Nobody (trace_of course)
    ends_so course is =
        let so = is.behind.course_is in
        trace_so store setting at_entry replicated unmet now avoided Nobody course is.behind.k 0
        (omega (arith, is.all, is.behind.within)) (λ some leaf. absurd (omega (arith, some))) so.span so.founds
        so.below_is so.then so.is

    root_so : (course : Course) (mixed : Result Table OverLimit) → claim.ThroughSo store setting at_entry now avoided
        course
        → StageSo now avoided (root_stage setting course mixed)
    root_so course (Ok table) is = ends_so course is
    root_so course (Err over) is = stops_so course is.behind

    turn_so : (some : Turn) (new : Stage) → claim.TurnSo store setting at_entry now avoided some → TurnSettles setting
        some new
        → StageSo now avoided new
    turn_so (turn.Goes stage) new so is = subst (λ (one : Stage). StageSo now avoided one) (sym is) so
    turn_so (turn.Through course) new so is =
        subst (λ (one : Stage). StageSo now avoided one) (sym is.stage_is) (root_so course is.mixed so)

    pub zone_so : (course : Course) (mixed : Result ZoneAnswer OverLimit) → claim.BehindSo store setting at_entry now
        avoided course
        → claim.TurnSo store setting at_entry now avoided (zone_turn setting course mixed)
    zone_so course (Ok answer) is = behind_next (with_zone_answer course answer) (kept_so course answer is)
    zone_so course (Err over) is = stops_so course is

    pub settles_so : (some : Step) (new : Stage) → StepSo now avoided some → Settles setting some new
        → StageSo now avoided new
    settles_so (step.Takes turn) new so is = turn_so turn new so is
    settles_so (step.Gathered course parts) new so is =
        turn_so (zone_turn setting course is.mixed) new (zone_so course is.mixed so) is.settles

  -- ---- words

  module _ (before after : View) (grown : IsViewWithin before after) (since : AreWithin at_entry before.seen)
      (sound_before : IsSound store before) (sound : IsSound store after) (avoided : List Leaf) where
    root_by : (loading : Loading) (whole : Bool) → is_whole setting.plan loading ≡ whole → avoided ≡ []
        → claim.LoadedSo store setting at_entry after claim.root_known (length zs) Anyhow loading.words loading.seen
        → StepSo after avoided (cond whole (spec.on_from setting (course_of setting loading))
        (spec.going (at.Rooting loading)))
    root_by loading false e none loaded = record {
      none = none;
      loaded = loading_from store setting at_entry after claim.root_known (length zs) Anyhow loading.words loading.seen
          loaded;
    }
    root_by loading true e none loaded =
        let all_words = enough (length setting.plan.buckets) (length loading.words) e in
        let count : length setting.areas ≡ length zs = ap length areas ∙ length-map-range_with_len (area_of zs) 0
        (length zs) in
        next_so store setting at_entry replicated unmet after avoided (drop 0 setting.areas)
        (course_of setting loading) 0
        (ap (drop 0) areas) (omega arith) refl (record {
          span = record {
            long = omega arith;
            count = omega arith;
            ranges = refl;
            each = record {};
            cuts = λ leaf from to. absurd (omega (arith, to));
            stand = record {};
            tells = λ leaf from to. absurd (omega (arith, to));
          };
          founds = record { were_found = record {}; avoids = none };
          below_is = subst (claim.Below (first_leaf zs 0)) (sym none) (record {});
          then = loaded.then;
          is = loaded.is;
          shut = λ z there out leaf from to. root_shut store setting listed loaded.then loaded.is.sound z there leaf
              from to
              loading.words loaded.known all_words
              (subst (λ n. flag_at (let_in setting.plan loading.words n) z ≡ false) count out);
        })

    -- a zone's first words
    open_by : (course : Course) (round : Round) (loading : Loading) (k : ℕ)
        → claim.InZone store setting at_entry after avoided (first_leaf zs k) k course round → round.resolved ≡ []
        → claim.LoadedSo store setting at_entry after (claim.zone_known zs k) (area_of zs k).leaves Anyhow
        loading.words loading.seen
        → length setting.plan.buckets ≤ length loading.words → (some : Bool) → let_some_in setting round.area loading
        ≡ some
        → StepSo after avoided (cond some (resolving course round)
        (spec.on_from setting (left course round.area loading.seen)))
    open_by course round loading k zone none loaded all_words true e =
        let is = zone.course_is in
        resolving_so store setting at_entry replicated unmet after avoided course round k
        (record {
          course_is = record {
            span = is.span;
            founds = is.founds;
            below_is = below_more (first_leaf zs k) (first_leaf zs (k + 1))
                (omega (arith, leaves_next zs k zone.there)) avoided
                is.below_is;
            then = is.then;
            is = is.is;
            shut = is.shut;
          };
          begun = zone.begun;
          there = zone.there;
          area = zone.area;
        })
        (subst (claim.RoundSo store setting at_entry after avoided k) (sym none)
        (record { few = omega arith; ranges = refl; each = record {}; opened = record {} }))
    open_by course round loading k zone none loaded all_words false e =
        let shut : list_any (λ flag. flag) (let_in setting.plan loading.words (area_of zs k).leaves) ≡ false =
        subst (λ (area : Area). list_any (λ flag. flag) (let_in setting.plan loading.words area.leaves) ≡ false)
        zone.area e in
        let next : claim.CourseSo store setting at_entry after avoided (first_leaf zs (k + 1)) (k + 1)
        (left course round.area loading.seen) =
        subst (λ (area : Area). claim.CourseSo store setting at_entry after avoided (first_leaf zs (k + 1)) (k + 1)
        (left course area loading.seen))
        (sym zone.area)
        (left_so store setting at_entry replicated unmet after avoided course k zone.there zone.course_is loading.seen
        loaded.then loaded.is
        (λ leaf from to. zone_shut store setting listed loaded.then loaded.is.sound k zone.there leaf from to
        loading.words
        loaded.known all_words
        (no_flag (let_in setting.plan loading.words (area_of zs k).leaves) shut (leaf.0 - first_leaf zs k)))) in
        behind_next after avoided (left course round.area loading.seen)
        (record { k = k + 1; begun = zone.begun; within = omega (arith, zone.there); course_is = next })

    zone_by : (course : Course) (round : Round) (loading : Loading) (k : ℕ)
        → claim.InZone store setting at_entry after avoided (first_leaf zs k) k course round → round.resolved ≡ []
        → claim.LoadedSo store setting at_entry after (claim.zone_known zs k) (area_of zs k).leaves Anyhow
        loading.words loading.seen
        → (whole : Bool) → is_whole setting.plan loading ≡ whole
        → StepSo after avoided (cond whole (cond (let_some_in setting round.area loading) (resolving course round)
        (spec.on_from setting (left course round.area loading.seen))) (spec.going (at.Entering course round loading)))
    zone_by course round loading k zone none loaded false e = record {
      k = k;
      zone = zone;
      none = none;
      loaded = loading_from store setting at_entry after (claim.zone_known zs k) (area_of zs k).leaves Anyhow
          loading.words
          loading.seen loaded;
    }
    zone_by course round loading k zone none loaded true e =
        open_by course round loading k zone none loaded (enough (length setting.plan.buckets) (length loading.words) e)
        (let_some_in setting round.area loading) refl

    -- and its words again
    abbrev own : Area → Round → Round
    own area round = record { area = area; resolved = round.resolved }

    again_by : (course : Course) (round : Round) (loading : Loading) (k : ℕ)
        → claim.InZone store setting at_entry after avoided (first_leaf zs (k + 1)) k course round
        → claim.RoundSo store setting at_entry after avoided k round.resolved → length round.resolved
        ≡ (area_of zs k).ranges
        → claim.LoadedSo store setting at_entry after (claim.zone_known zs k) (area_of zs k).leaves
        (claim.Opened store setting at_entry round.resolved) loading.words loading.seen
        → (whole : Bool) → is_whole setting.plan loading ≡ whole
        → StepSo after avoided (cond whole (visiting course round (begin_visits setting round loading))
        (spec.going (at.Reloading course round loading)))
    again_by course round loading k zone is all loaded false e = record {
      k = k;
      zone = zone;
      round_is = is;
      whole = all;
      loaded = loading_from store setting at_entry after (claim.zone_known zs k) (area_of zs k).leaves
          (claim.Opened store setting at_entry round.resolved) loading.words loading.seen loaded;
    }
    again_by course round loading k zone is all loaded true e =
        let begun : claim.VisitsSo store setting at_entry after avoided k (own (area_of zs k) round)
        (begin_visits setting (own (area_of zs k) round) loading) (begin_visits setting (own (area_of zs k) round)
        loading).left =
        visits_begun store setting at_entry replicated listed unmet after avoided k zone.there round.resolved loading
        is all loaded
        (enough (length setting.plan.buckets) (length loading.words) e) in
        visiting_so store setting at_entry replicated unmet after avoided course round
        (begin_visits setting round loading) k zone
        (subst (λ (area : Area). claim.VisitsSo store setting at_entry after avoided k (own area round)
        (begin_visits setting (own area round) loading) (begin_visits setting (own area round) loading).left)
        (sym zone.area) begun)

    root_stays : (some others : Bits) → AreBitsWithin some others → (child bucket : ℕ) → claim.root_known some child
        bucket ≡ true
        → claim.root_known others child bucket ≡ true
    root_stays some others within child bucket is = within.root child bucket is

    zone_stays : (k : ℕ) (some others : Bits) → AreBitsWithin some others → (child bucket : ℕ)
        → claim.zone_known zs k some child bucket ≡ true → claim.zone_known zs k others child bucket ≡ true
    zone_stays k some others within child bucket is = within.zone (first_leaf zs k + child) bucket is

    zone_tells : (k : ℕ) → k < length zs → (area : Area) → area ≡ area_of zs k → (bucket word : ℕ) (seen : Seen)
        → IsZoneWord zs before area.zone bucket word seen → (child : ℕ) → child < (area_of zs k).leaves
        → claim.zone_known zs k before.bits child bucket ≡ true → has_bit word child ≡ true
    zone_tells k there area is bucket word seen tells child lt known =
        let zone : area.zone ≡ zone_numbered k = ap (λ (one : Area). one.zone) is in
        let leaf = leaf_numbered (first_leaf zs k + child) in
        let place : leaf.0 - first_leaf zs area.zone.0 ≡ child =
        ap (λ (one : Zone). first_leaf zs k + child - first_leaf zs one.0) zone ∙ omega arith in
        subst (λ n. has_bit word n ≡ true) place
        (tells.known leaf (zone_of_leaf_at zs k child there lt ∙ ap Some (sym zone)) known)

    pub word_so : (slots : List RangeSlot) (stage : Stage) (word : ℕ) (seen : Seen) → StageSo before avoided stage
        → truth.IsTrueAnswer store setting moment before after avoided slots (ask_of setting stage)
        (told.Word word seen)
        → StepSo after avoided (spec.told_word setting stage word seen)
    word_so slots (at.Rooting loading) word seen is true_then =
        root_by (with_word loading word seen) (is_whole setting.plan (with_word loading word seen)) refl is.none
        (word_loaded store setting at_entry before after grown since sound_before claim.root_known root_stays
        (length zs) Anyhow
        loading.words loading.seen word seen is.loaded true_then.seen_so (λ child lt known. true_then.known child
        known) (record {}))
    word_so slots (at.Entering course round loading) word seen is true_then =
        zone_by course round (with_word loading word seen) is.k
        (claim.zone_on store setting at_entry before after grown avoided (first_leaf zs is.k) is.k course round
        is.zone) is.none
        (word_loaded store setting at_entry before after grown since sound_before (claim.zone_known zs is.k)
        (zone_stays is.k)
        (area_of zs is.k).leaves Anyhow loading.words loading.seen word seen is.loaded true_then.seen_so
        (zone_tells is.k is.zone.there round.area is.zone.area (get_or setting.plan.buckets (length loading.words) 0)
        word seen
        true_then) (record {}))
        (is_whole setting.plan (with_word loading word seen)) refl
    word_so slots (at.Resolving course round range) word seen is true_then = absurd true_then
    word_so slots (at.Reloading course round loading) word seen is true_then =
        again_by course round (with_word loading word seen) is.k
        (claim.zone_on store setting at_entry before after grown avoided (first_leaf zs (is.k + 1)) is.k course round
        is.zone)
        (claim.round_on store setting at_entry before after grown avoided is.k round.resolved is.round_is) is.whole
        (word_loaded store setting at_entry before after grown since sound_before (claim.zone_known zs is.k)
        (zone_stays is.k)
        (area_of zs is.k).leaves (claim.Opened store setting at_entry round.resolved) loading.words loading.seen word
        seen is.loaded
        true_then.seen_so
        (zone_tells is.k is.zone.there round.area is.zone.area (get_or setting.plan.buckets (length loading.words) 0)
        word seen true_then)
        is.round_is.opened)
        (is_whole setting.plan (with_word loading word seen)) refl
    word_so slots (at.Visiting course round visits leaf) word seen is true_then = absurd true_then
    word_so slots (at.Ended end) word seen is true_then = absurd true_then

    -- ---- visits

    module _ (course : Course) (round : Round) (visits : Visits) (leaf : Leaf)
        (is : claim.VisitingSo store setting at_entry before avoided course round visits (leaf ∷ visits.left)) where
      abbrev k : ℕ
      k = is.k

      ours : (first_leaf zs k ≤ leaf.0) × (leaf.0 < first_leaf zs (k + 1))
      ours = is.visits_are.ours.0

      first : visits.first.0 ≡ first_leaf zs k
      first = ap (λ (one : Leaf). one.0) is.visits_are.first ∙ ap (λ (area : Area). area.first_leaf.0) is.zone.area

      zone : claim.InZone store setting at_entry after avoided (first_leaf zs (k + 1)) k course round
      zone = claim.zone_on store setting at_entry before after grown avoided (first_leaf zs (k + 1)) k course round
          is.zone

      looked_span : (Skip : Leaf → Type 0) (look : Look)
          → IsBetween (length (leaf_history before.seen leaf)) (length (leaf_history after.seen leaf)) look.cut
          → ((other : Leaf) → Contains visits.left other → Skip other)
          → (Skip leaf ⊎ Tells (claim.wanted store setting) (claim.met store setting) store.buckets_of
          (up_to after.seen leaf look) (slots_on leaf round.resolved) look)
          → claim.Span store setting at_entry after.seen avoided Skip (first_leaf zs k) (first_leaf zs (k + 1))
          (first_range zs k)
          (first_range zs (k + 1)) round.resolved (with_look visits leaf look).looks
      looked_span Skip look between others own =
          subst (claim.Span store setting at_entry after.seen avoided Skip (first_leaf zs k) (first_leaf zs (k + 1))
          (first_range zs k)
          (first_range zs (k + 1)) round.resolved) (sym (looked_is visits leaf look (first_leaf zs k) first ours.0))
          (look_so store setting at_entry before after grown since avoided Skip (first_leaf zs k)
          (first_leaf zs (k + 1))
          (first_range zs k) (first_range zs (k + 1)) round.resolved visits.looks leaf visits.left look
          is.visits_are.span
          ours.0 ours.1 between others own)

      looked_so : (look : Look) → IsBetween (length (leaf_history before.seen leaf))
          (length (leaf_history after.seen leaf)) look.cut
          → Tells (claim.wanted store setting) (claim.met store setting) store.buckets_of (up_to after.seen leaf look)
          (slots_on leaf round.resolved) look
          → claim.VisitsSo store setting at_entry after avoided k round (with_look visits leaf look) visits.left
      looked_so look between own = record {
        first = is.visits_are.first;
        span = looked_span (Contains visits.left) look between (λ other there. there) (inr own);
        ours = is.visits_are.ours.1;
      }

      home : (cut : ℕ) (e : Entry) → Contains (take cut (leaf_history after.seen leaf)) e → AreAtHome store.held zs e
      home cut e there =
          sound.held.at_home leaf e
          (contains_on (leaf_history after.seen leaf) (take cut (leaf_history after.seen leaf)) e
          (begins_from (leaf_history after.seen leaf) (take cut (leaf_history after.seen leaf))
          (drop cut (leaf_history after.seen leaf))
          (sym (take-append-drop cut (leaf_history after.seen leaf)))) there)

      unread_so : (cut : ℕ) → IsFoundSo before after leaf cut false
          → truth.is_met_at store setting moment after leaf cut ≡ false
          → StepSo after avoided (visiting course round (with_look visits leaf (unread_look cut)))
      unread_so cut found out =
          visiting_so store setting at_entry replicated unmet after avoided course round
          (with_look visits leaf (unread_look cut)) k zone
          (looked_so (unread_look cut) found.between
          (tells_unmet store.held zs store.points replicated (claim.wanted store setting) (claim.met store setting)
          store.buckets_of unmet
          (take cut (leaf_history after.seen leaf)) (slots_on leaf round.resolved) (unread_look cut) (home cut) refl
          out))

      read_so : (cut : ℕ) (answer : LeafAnswer) → IsFoundSo before after leaf cut false
          → truth.is_met_at store setting moment after leaf cut ≡ true
          → StepSo after avoided
          (visiting course round (visit.with_leaf_answer (with_look visits leaf (read_at cut answer.sent))
          answer))
      read_so cut answer found holds =
          let looks = looked_so (read_at cut answer.sent) found.between
          (record { unread = λ e. absurd (cc); read = λ e. holds; up = λ e. found.is }) in
          visiting_so store setting at_entry replicated unmet after avoided course round
          (visit.with_leaf_answer (with_look visits leaf (read_at cut answer.sent)) answer) k zone
          (record { first = looks.first; span = looks.span; ours = looks.ours })

      over_so : (cut : ℕ) → IsFoundSo before after leaf cut false
          → claim.TraceSo store setting at_entry after Anybody
          (trace_of (with_zone course round (with_look visits leaf (unread_look cut))))
      over_so cut found =
          let so = zone.course_is in
          trace_so store setting at_entry replicated unmet after avoided Anybody
          (with_zone course round (with_look visits leaf (unread_look cut))) (k + 1) (length zs - (k + 1))
          (omega (arith, is.zone.there))
          (λ some one. record {})
          (span_append at_entry (claim.wanted store setting) (claim.met store setting) store.buckets_of after.seen
          avoided Anybody 0
          (first_leaf zs k) (first_leaf zs (k + 1)) 0 (first_range zs k) (first_range zs (k + 1)) course.resolved
          round.resolved
          course.looks (with_look visits leaf (unread_look cut)).looks
          (span_skips at_entry (claim.wanted store setting) (claim.met store setting) store.buckets_of after.seen
          avoided Nobody Anybody
          (λ one none. record {}) 0 (first_leaf zs k) 0 (first_range zs k) course.resolved course.looks so.span)
          (looked_span Anybody (unread_look cut) found.between (λ other there. record {}) (inl (record {}))))
          so.founds so.below_is so.then so.is

    -- ---- each answer

    pub answer_so : (slots : List RangeSlot) (stage : Stage) (answer : Told) → StageSo before avoided stage
        → truth.IsTrueAnswer store setting moment before after avoided slots (ask_of setting stage) answer
        → StepSo after (avoided_after avoided stage answer) (spec.after setting stage answer)
    answer_so slots stage (told.Word word seen) is true_then = word_so slots stage word seen is true_then
    answer_so slots (at.Resolving course round range) (told.Slot slot leaf) is true_then =
        slot_so store setting at_entry replicated listed unmet before after grown since sound avoided course round
        range slot leaf
        (claim.stage_on store setting at_entry before after grown avoided (at.Resolving course round range) is)
        true_then
    answer_so slots (at.Rooting loading) (told.Slot slot leaf) is true_then = absurd true_then
    answer_so slots (at.Entering course round loading) (told.Slot slot leaf) is true_then = absurd true_then
    answer_so slots (at.Reloading course round loading) (told.Slot slot leaf) is true_then = absurd true_then
    answer_so slots (at.Visiting course round visits other) (told.Slot slot leaf) is true_then = absurd true_then
    answer_so slots (at.Ended end) (told.Slot slot leaf) is true_then = absurd true_then
    answer_so slots (at.Resolving course round range) told.NoSlot is true_then =
        none_so store setting at_entry replicated listed unmet before after grown since sound avoided course round range
        (claim.stage_on store setting at_entry before after grown avoided (at.Resolving course round range) is)
        true_then
    answer_so slots (at.Rooting loading) told.NoSlot is true_then = absurd true_then
    answer_so slots (at.Entering course round loading) told.NoSlot is true_then = absurd true_then
    answer_so slots (at.Reloading course round loading) told.NoSlot is true_then = absurd true_then
    answer_so slots (at.Visiting course round visits leaf) told.NoSlot is true_then = absurd true_then
    answer_so slots (at.Ended end) told.NoSlot is true_then = absurd true_then
    answer_so slots (at.Visiting course round visits leaf) (told.Down cut) is true_then =
        down_so store setting at_entry replicated listed unmet before after grown since sound avoided course round
        visits leaf cut
        (claim.stage_on store setting at_entry before after grown avoided (at.Visiting course round visits leaf) is)
        true_then
    answer_so slots (at.Rooting loading) (told.Down cut) is true_then = absurd true_then
    answer_so slots (at.Entering course round loading) (told.Down cut) is true_then = absurd true_then
    answer_so slots (at.Resolving course round range) (told.Down cut) is true_then = absurd true_then
    answer_so slots (at.Reloading course round loading) (told.Down cut) is true_then = absurd true_then
    answer_so slots (at.Ended end) (told.Down cut) is true_then = absurd true_then
    answer_so slots (at.Visiting course round visits leaf) (told.Unread cut) is true_then =
        unread_so course round visits leaf is cut true_then.0 true_then.1
    answer_so slots (at.Rooting loading) (told.Unread cut) is true_then = absurd true_then
    answer_so slots (at.Entering course round loading) (told.Unread cut) is true_then = absurd true_then
    answer_so slots (at.Resolving course round range) (told.Unread cut) is true_then = absurd true_then
    answer_so slots (at.Reloading course round loading) (told.Unread cut) is true_then = absurd true_then
    answer_so slots (at.Ended end) (told.Unread cut) is true_then = absurd true_then
    answer_so slots (at.Visiting course round visits leaf) (told.Read cut answer) is true_then =
        read_so course round visits leaf is cut answer true_then.0 true_then.1
    answer_so slots (at.Rooting loading) (told.Read cut answer) is true_then = absurd true_then
    answer_so slots (at.Entering course round loading) (told.Read cut answer) is true_then = absurd true_then
    answer_so slots (at.Resolving course round range) (told.Read cut answer) is true_then = absurd true_then
    answer_so slots (at.Reloading course round loading) (told.Read cut answer) is true_then = absurd true_then
    answer_so slots (at.Ended end) (told.Read cut answer) is true_then = absurd true_then
    answer_so slots (at.Visiting course round visits leaf) (told.Over load cut) is true_then =
        over_so course round visits leaf is cut true_then.0
    answer_so slots (at.Rooting loading) (told.Over load cut) is true_then = absurd true_then
    answer_so slots (at.Entering course round loading) (told.Over load cut) is true_then = absurd true_then
    answer_so slots (at.Resolving course round range) (told.Over load cut) is true_then = absurd true_then
    answer_so slots (at.Reloading course round loading) (told.Over load cut) is true_then = absurd true_then
    answer_so slots (at.Ended end) (told.Over load cut) is true_then = absurd true_then

  -- ---- sessions

  -- one licensed answer
  pub event_so : (before : View) (query : Query) (event : session.Event store setting moment) → AreWithin at_entry
      before.seen
      → IsSound store before → StageSo before query.avoided query.stage
      → session.IsLicensedEvent store setting moment before query event
      → StageSo event.view (avoided_after query.avoided query.stage event.answer) event.stage
  event_so before query event since sound is licensed =
      let avoided = avoided_after query.avoided query.stage event.answer in
      settles_so event.view avoided (spec.after setting query.stage event.answer) event.stage
      (answer_so before event.view licensed.grown since sound licensed.sound query.avoided (slots_at query) query.stage
      event.answer is
      licensed.true_then) licensed.goes_on

  session_so : (events : List (session.Event store setting moment)) (before : View) (query : Query)
      → AreWithin at_entry before.seen → IsSound store before → StageSo before query.avoided query.stage
      → session.IsLicensed store setting moment before query events
      → StageSo (session.view_after store setting moment before events)
      (session.query_after store setting moment query events).avoided
      (session.query_after store setting moment query events).stage
  session_so [] before query since sound is licensed = is
  session_so (event ∷ events) before query since sound is licensed =
      let one = licensed.0 in
      session_so events event.view (session.told_then store setting moment query event)
      (seen_within_through at_entry before.seen event.view.seen since one.grown.seen) one.sound
      (event_so before query event since sound is one) licensed.1

  -- where a query ends
  pub ended_so : (view : View) → view.seen ≡ at_entry → IsSound store view
      → (events : List (session.Event store setting moment))
      → session.IsLicensed store setting moment view (new_query setting) events
      → StageSo (session.view_after store setting moment view events)
      (session.query_after store setting moment (new_query setting) events).avoided
      (session.query_after store setting moment (new_query setting) events).stage
  ended_so view same sound events licensed =
      session_so events view (new_query setting)
      (subst (λ (seen : Histories). AreWithin seen view.seen) same (seen_within_itself view.seen)) sound
      (record { none = refl; loaded = record {} }) licensed
