-- What a query keeps of its leaves' answers as zones are behind, words are loaded and ranges resolve.
use Rattle.std.proofs.Common.{◌≡◌, ◌∙◌, ◌<◌, ◌≤◌, ◌+◌, ◌-◌, ℕ, ℤ, Bool, true, false, cond, Some, None, List, [], ◌∷◌}
use Rattle.std.proofs.Common.{◌++◌, length, map, drop, nat_lt, refl, sym, ap, subst, append-nil, arith}
use Rattle.std.proofs.lemmas.Bool.Decides.{nat_tests}
use Rattle.std.proofs.lemmas.List.{length-append, length-drop}
use Rattle.std.proofs.lemmas.List.FromFn.{length-map-range_with_len}
use Rattle.mon_value.specs.declared.histories.Histories.{Histories}
use Rattle.mon_topo.specs.Settings.{Setting}
use Rattle.mon_value.specs.declared.positions.Leaf.{Leaf}
use Rattle.mon_value.specs.declared.positions.Range.{Range}
use Rattle.mon_value.specs.declared.positions.Slot.{Slot}
use Rattle.query_traces.specs.declared.answers.Resolved.{Resolved}
use Rattle.query_traces.specs.declared.areas.Area.{Area}
use Rattle.query_traces.specs.declared.asks.Seen.{Seen}
use Rattle.query_core.specs.declared.courses.Course.{Course}
use Rattle.query_traces.specs.declared.loadings.Loading.{Loading}
use Rattle.query_core.specs.declared.stages.Stage.TheVariants as at
use Rattle.query_core.specs.declared.stages.Turn.TheVariants as turn
use Rattle.query_traces.specs.Rounds.{area_of, areas_of, range_at, unread_look, Round, resolution, round_of, with_slot}
use Rattle.query_traces.specs.Rounds.{QuerySetting}
use Rattle.query_core.specs.Courses.{with_next_zone, course_of, cuts_seen, firsts_seen, is_entered, left}
use Rattle.query_traces.specs.Loadings.{no_word, seen_first}
use Rattle.query_core.specs.Program as spec
use Rattle.query_core.specs.Program.{next_zone, resolving}
use Rattle.query_core.proofs.SegmentFacts.{RangesFrom, Segment, SeenSo, Passed, behind_push, passed_so, ranges_append}
use Rattle.query_traces.proofs.ZoneFacts.{areas_from}
use Rattle.query_core.proofs.PartClaims.{CourseAt, CourseIn, LoadedSo, RoundSo, StepParts, TurnParts}

pair_is : {X : Type 0} (x y : X) (xs ys : List X) → x ∷ xs ≡ y ∷ ys → (x ≡ y) × (xs ≡ ys)
pair_is x y xs ys e = (cc, cc)

module _ (store : Setting) (setting : QuerySetting) (moment : ℤ) where
  -- ---- the next zone

  -- a zone that stands as it had been seen is behind
  left_so : (now : Histories) (course : Course) (area : Area) (seen : Seen) → CourseIn store setting moment now course
      area
      → SeenSo store.zones seen → CourseAt store setting moment now (left course area seen)
  left_so now course area seen inside so =
      let one : Segment = Passed area (firsts_seen seen area) (map unread_look (cuts_seen seen area)) in
      record {
        segments = inside.segments ++ one ∷ [];
        behind = behind_push setting moment store.zones now inside.segments course (left course area seen) one
            inside.behind
            (record {
              more_resolved = refl;
              more_looks = refl;
              more_answers = sym (append-nil course.answers);
              same_seen = refl;
            })
            inside.here
            (passed_so setting moment store.zones now (length inside.segments) area seen inside.there inside.here so);
        begun = omega (arith, inside.begun, length-append inside.segments (one ∷ []));
        few = omega (arith, inside.there, length-append inside.segments (one ∷ []));
      }

  begun_so : (now : Histories) (course : Course) (area : Area) (before : CourseAt store setting moment now course)
      → length before.segments < length store.zones → area ≡ area_of store.zones (length before.segments)
      → CourseIn store setting moment now (with_next_zone course) area
  begun_so now course area before there here = record {
    segments = before.segments;
    behind = record {
      resolved = before.behind.resolved;
      looks = before.behind.looks;
      answers = before.behind.answers;
      areas = before.behind.areas;
      each = before.behind.each;
      seen = before.behind.seen;
    };
    begun = omega (arith, before.begun);
    there = there;
    here = here;
  }

  count_left : (areas : List Area) (k : ℕ) → areas ≡ drop k (areas_of store.zones)
      → length areas ≡ length store.zones - k
  count_left areas k is =
      ap length is ∙ length-drop k (areas_of store.zones)
      ∙ ap (λ n. n - k) (length-map-range_with_len (area_of store.zones) 0 (length store.zones))

  -- ---- words

  pub word_seen : (words : List ℕ) (before seen : Seen) → LoadedSo store setting moment words before
      → SeenSo store.zones seen → SeenSo store.zones (seen_first words before seen)
  word_seen [] before seen loaded so = so
  word_seen (word ∷ words) before seen loaded so = loaded

  pub loaded_more : (words : List ℕ) (word : ℕ) (seen : Seen) → SeenSo store.zones seen
      → LoadedSo store setting moment (words ++ word ∷ []) seen
  loaded_more [] word seen so = so
  loaded_more (first ∷ words) word seen so = so

  -- ---- ranges

  pub nothing_resolved : (round : Round) → round.resolved ≡ [] → RoundSo store setting moment round
  nothing_resolved round none = record {
    ranges = subst (RangesFrom round.area.first_range.0) (sym none) tt;
    few = omega (arith, ap length none);
  }

module _ (store : Setting) (setting : QuerySetting) (moment : ℤ) (Tells : Histories → Course → Type 0) where
  enters_by : (now : Histories) (course : Course) (area : Area) (areas : List Area) (enter : Bool)
      → CourseIn store setting moment now (with_next_zone course) area
      → TurnParts store setting moment Tells now (next_zone areas (left (with_next_zone course) area course.seen))
      → TurnParts store setting moment Tells now
      (cond enter (turn.Goes (at.Entering (with_next_zone course) (round_of area) no_word))
      (next_zone areas (left (with_next_zone course) area course.seen)))
  enters_by now course area areas true here later = (here, refl, tt)
  enters_by now course area areas false here later = later

  pub next_so : (now : Histories) (areas : List Area) (course : Course) → areas ≡ drop course.begun
      (areas_of store.zones)
      → CourseAt store setting moment now course → TurnParts store setting moment Tells now (next_zone areas course)
  next_so now [] course is before = record {
    segments = before.segments;
    behind = before.behind;
    all = omega (arith, before.few, before.begun, count_left store setting moment [] course.begun is);
  }
  next_so now (area ∷ areas) course is before =
      let k = length before.segments in
      let there : k < length store.zones =
      omega (arith, before.begun, count_left store setting moment (area ∷ areas) course.begun is) in
      let split : area ∷ areas ≡ area_of store.zones k ∷ drop (k + 1) (areas_of store.zones) =
      is ∙ ap (λ n. drop n (areas_of store.zones)) before.begun ∙ areas_from store.zones k there in
      let parts = pair_is area (area_of store.zones k) areas (drop (k + 1) (areas_of store.zones)) split in
      let next : k + 1 ≡ course.begun + 1 = omega (arith, before.begun) in
      let inside = begun_so store setting moment now course area before there parts.0 in
      enters_by now course area areas (is_entered course) inside
      (next_so now areas (left (with_next_zone course) area course.seen)
      (parts.1 ∙ ap (λ n. drop n (areas_of store.zones)) next)
      (left_so store setting moment now (with_next_zone course) area course.seen inside before.behind.seen))

  resolving_by : (now : Histories) (course : Course) (round : Round) (b : Bool)
      → nat_lt (length round.resolved) round.area.ranges ≡ b → CourseIn store setting moment now course round.area
      → RoundSo store setting moment round
      → StepParts store setting moment Tells now
      (spec.resolving_at course round (cond b (Some (range_at round.area (length round.resolved))) None))
  resolving_by now course round true e inside so =
      let there : length round.resolved < round.area.ranges = grind (arith, nat_tests) in
      (inside, so, there, refl)
  resolving_by now course round false e inside so =
      let past : round.area.ranges ≤ length round.resolved = grind (arith, nat_tests) in
      (inside, record { ranges = so.ranges; all = omega (arith, past, so.few) }, tt)

  pub resolving_so : (now : Histories) (course : Course) (round : Round) → CourseIn store setting moment now course
      round.area
      → RoundSo store setting moment round → StepParts store setting moment Tells now (resolving course round)
  resolving_so now course round inside so =
      resolving_by now course round (nat_lt (length round.resolved) round.area.ranges) refl inside so

  pub slot_so : (now : Histories) (course : Course) (round : Round) (range : Range) (slot : Slot) (leaf : Leaf)
      → CourseIn store setting moment now course round.area → RoundSo store setting moment round
      → length round.resolved < round.area.ranges → range ≡ range_at round.area (length round.resolved)
      → StepParts store setting moment Tells now (resolving course (with_slot round range slot leaf))
  slot_so now course round range slot leaf inside so there is =
      let one : Resolved = resolution range slot leaf in
      resolving_so now course (with_slot round range slot leaf) inside (record {
        ranges = ranges_append round.area.first_range.0 round.resolved (one ∷ []) so.ranges
            (ap (λ (range : Range). range.0) is, tt);
        few = omega (arith, there, length-append round.resolved (one ∷ []));
      })

  module _ (areas : setting.areas ≡ areas_of store.zones) where
    on_so : (now : Histories) (course : Course) → CourseAt store setting moment now course
        → StepParts store setting moment Tells now (spec.on_from setting course)
    on_so now course before =
        next_so now (drop course.begun setting.areas) course (ap (drop course.begun) areas) before

    pub root_by : (now : Histories) (loading : Loading) (whole : Bool) → SeenSo store.zones loading.seen
        → LoadedSo store setting moment loading.words loading.seen
        → StepParts store setting moment Tells now
        (cond whole (spec.on_from setting (course_of setting loading)) (spec.going (at.Rooting loading)))
    root_by now loading true so loaded =
        on_so now (course_of setting loading) (record {
          segments = [];
          behind = record { resolved = refl; looks = refl; answers = refl; areas = tt; each = tt; seen = so };
          begun = refl;
          few = omega arith;
        })
    root_by now loading false so loaded = loaded

    pub entered_by : (now : Histories) (course : Course) (round : Round) (loading : Loading) (whole some : Bool)
        → CourseIn store setting moment now course round.area → round.resolved ≡ [] → SeenSo store.zones loading.seen
        → LoadedSo store setting moment loading.words loading.seen
        → StepParts store setting moment Tells now (cond whole
        (cond some (resolving course round) (spec.on_from setting (left course round.area loading.seen)))
        (spec.going (at.Entering course round loading)))
    entered_by now course round loading true true inside none so loaded =
        resolving_so now course round inside (nothing_resolved store setting moment round none)
    entered_by now course round loading true false inside none so loaded =
        on_so now (left course round.area loading.seen) (left_so store setting moment now course round.area
        loading.seen inside so)
    entered_by now course round loading false some inside none so loaded = (inside, none, loaded)
