-- What is claimed of a session so far, at each stage, and that the events of a round keep it.
use Rattle.std.proofs.Common.{◌≡◌, ◌∙◌, ◌+◌, ◌-◌, ◌<◌, ◌≤◌, ℕ, Bool, true, false, cond, List, [], ◌∷◌, ◌++◌, length}
use Rattle.std.proofs.Common.{filter, map, take, drop, Some, None, Result, Ok, Err, refl, sym, ap, subst, arith}
use Rattle.std.proofs.Common.{append-nil, append_assoc, length-append, nat_le, nat_lt}
use Rattle.std.specs.List.{AllByRecursion as All, range_with_len}
use Rattle.std.proofs.lemmas.Bool.Decides.{nat_tests}
use Rattle.std.proofs.lemmas.List.{take-append-le}
use Rattle.mon_topo.proofs.RangeHistoryLemmas.{all_append}
use Rattle.mon_value.specs.declared.positions.Leaf.{Leaf}
use Rattle.mon_value.specs.declared.positions.Range.{Range}
use Rattle.mon_value.specs.declared.positions.Slot.{Slot}
use Rattle.query_core.proofs.OrderLemmas.{chosen_whole, leaf_visited, none_left, one_on, resolves_all, resolves_next}
use Rattle.query_core.proofs.OrderLemmas.{resolves_none, round_begins, words_next, words_none, zones_last}
use Rattle.query_traces.specs.Rounds.{leaf_at, range_at, Round, is_to_visit, resolution, round_of, with_slot}
use Rattle.query_traces.specs.Rounds.{QuerySetting}
use Rattle.query_core.specs.Courses.{with_found}
use Rattle.query_traces.specs.Loadings.{is_whole, next_bucket, with_word}
use Rattle.plan_split.specs.Meeting.{let_in}
use Rattle.query_core.specs.Orders.{ComeInOrder, ComeWholeInOrder, IsRoundInOrder, IsZoneInOrder, ZoneCourse}
use Rattle.query_core.specs.Orders.{areas_of_zones, chosen_areas, entered_areas, query_events, resolve_events}
use Rattle.query_core.specs.Program as spec
use Rattle.query_traces.specs.Visits as visit
use Rattle.query_traces.specs.Visits.{Visits, first_left}
use Rattle.query_traces.specs.declared.answers.Answer.{Answer}
use Rattle.query_traces.specs.declared.answers.RoundFault.{RoundFault}
use Rattle.query_traces.specs.declared.areas.Area.{Area}
use Rattle.query_traces.specs.declared.asks.Ask.{Ask}
use Rattle.query_traces.specs.declared.asks.Ask.TheVariants as ask
use Rattle.query_traces.specs.declared.asks.Seen.{Seen}
use Rattle.query_core.specs.declared.courses.Course.{Course}
use Rattle.query_traces.specs.declared.loadings.Loading.{Loading}
use Rattle.query_core.specs.declared.stages.Stage.{Stage}
use Rattle.query_core.specs.declared.stages.Stage.TheVariants as at
use Rattle.query_core.specs.declared.stages.Step.{Step}
use Rattle.query_core.specs.declared.stages.Step.TheVariants as step
use Rattle.query_core.specs.declared.stages.Turn.{Turn}
use Rattle.query_core.specs.declared.stages.Turn.TheVariants as turn

abbrev pub zone_of : Area → List (List Leaf) → ZoneCourse
zone_of area rounds = record { area = area; rounds = rounds }

pub counted : (words : List ℕ) (word : ℕ) → length (words ++ word ∷ []) ≡ length words + 1
counted words word = length-append words (word ∷ [])

module _ (setting : QuerySetting) where
  abbrev pub buckets : List ℕ
  buckets = setting.plan.buckets

  abbrev pub count : ℕ
  count = length buckets

  abbrev pub zone_words : Area → ℕ → List Ask
  zone_words area place = map (ask.LoadZone area.zone) (drop place buckets)

  -- ---- which zones are behind

  -- these zones are those that the root's words let in of the first so many
  pub record AreEntered (words : List ℕ) (flags : List Bool) (begun : ℕ) (areas : List Area) : Type 0 where
    pub areas_are : areas ≡ chosen_areas flags 0 (take begun setting.areas)
    pub flags_are : flags ≡ let_in setting.plan (take count words) (length setting.areas)
    pub enough : count ≤ length words

  pub entered_on : (words more : List ℕ) (flags : List Bool) (begun : ℕ) (areas : List Area)
      → AreEntered words flags begun areas → AreEntered (words ++ more) flags begun areas
  entered_on words more flags begun areas h =
      let enough = h.enough in
      let longer = length-append words more in
      record {
        areas_are = h.areas_are;
        flags_are = h.flags_are ∙ ap (λ (first : List ℕ). let_in setting.plan first (length setting.areas))
            (sym (take-append-le count words more h.enough));
        enough = omega (arith, enough, longer);
      }

  -- ---- the claim

  -- so many zones are behind
  pub record HasZonesBehind (done : List Ask) (words : List ℕ) (course : Course) : Type 0 where
    pub zones : List ZoneCourse
    pub all : done ≡ query_events buckets zones
    pub entered : AreEntered words course.entered course.begun (areas_of_zones zones)
    pub rounds : All IsZoneInOrder zones

  -- a zone is entered, and this many of its words are loaded
  pub record IsEnteringSo (done : List Ask) (words : List ℕ) (course : Course) (area : Area) (place : ℕ) : Type 0 where
    pub zones : List ZoneCourse
    pub all : done ++ zone_words area place ≡ query_events buckets (zones ++ zone_of area [] ∷ [])
    pub more : place < count
    pub entered : AreEntered words course.entered course.begun (areas_of_zones zones ++ area ∷ [])
    pub rounds : All IsZoneInOrder zones

  -- a round of a zone, where this is left to do before another leaf is visited
  pub record IsRoundSo (done : List Ask) (words : List ℕ) (flags : List Bool) (begun : ℕ) (area : Area)
      (leaves : List Leaf) (still : List Ask) : Type 0 where
    pub zones : List ZoneCourse
    pub behind : List (List Leaf)
    pub all : done ++ still ≡ query_events buckets (zones ++ zone_of area (behind ++ leaves ∷ []) ∷ [])
    pub entered : AreEntered words flags begun (areas_of_zones zones ++ area ∷ [])
    pub rounds : All IsZoneInOrder zones
    pub before : All (IsRoundInOrder area) behind
    pub now : IsRoundInOrder area leaves

  abbrev pub IsResolvingSo : List Ask → List ℕ → Course → Area → ℕ → Type 0
  IsResolvingSo done words course area place =
      IsRoundSo done words course.entered course.begun area []
      (resolve_events area place (area.ranges - place) ++ zone_words area 0)

  abbrev pub IsReloadingSo : List Ask → List ℕ → Course → Area → ℕ → Type 0
  IsReloadingSo done words course area place =
      IsRoundSo done words course.entered course.begun area [] (zone_words area place)

  pub record IsVisitingSo (done : List Ask) (words : List ℕ) (course : Course) (area : Area) (leaf : Leaf)
      (later : List Leaf) : Type 0 where
    pub leaves : List Leaf
    pub round : IsRoundSo done words course.entered course.begun area (leaves ++ leaf ∷ []) (ask.Visit leaf ∷ [])
    pub is_chosen : ℕ → Bool
    pub order : (leaves ++ leaf ∷ []) ++ later
        ≡ map (leaf_at area) (filter is_chosen (range_with_len 0 area.leaves))

  abbrev pub EndSo : List Ask → List ℕ → Result Answer RoundFault → Type 0
  EndSo done words (Ok answer) = ComeWholeInOrder setting words done
  EndSo done words (Err why) = ComeInOrder setting words done

  abbrev pub StageSo : List Ask → List ℕ → Stage → Type 0
  StageSo done words (at.Rooting loading) =
      (done ++ map ask.LoadRoot (drop (length loading.words) buckets) ≡ query_events buckets [])
      × (length loading.words < count) × (words ≡ loading.words)
  StageSo done words (at.Entering course round loading) =
      IsEnteringSo done words course round.area (length loading.words) × (round.resolved ≡ [])
  StageSo done words (at.Resolving course round range) =
      IsResolvingSo done words course round.area (length round.resolved)
      × (range ≡ range_at round.area (length round.resolved)) × (length round.resolved < round.area.ranges)
  StageSo done words (at.Reloading course round loading) =
      IsReloadingSo done words course round.area (length loading.words) × (length loading.words < count)
  StageSo done words (at.Visiting course round visits leaf) =
      IsVisitingSo done words course round.area leaf visits.left
  StageSo done words (at.Ended end) = EndSo done words end

  -- all zones are behind
  abbrev pub IsThroughSo : List Ask → List ℕ → Course → Type 0
  IsThroughSo done words course = HasZonesBehind done words course × (drop course.begun setting.areas ≡ [])

  abbrev pub TurnSo : List Ask → List ℕ → Turn → Type 0
  TurnSo done words (turn.Goes stage) = StageSo done words stage
  TurnSo done words (turn.Through course) = IsThroughSo done words course

  abbrev pub StepSo : List Ask → List ℕ → Step → Type 0
  StepSo done words (step.Takes some) = TurnSo done words some
  StepSo done words (step.Gathered course parts) = HasZonesBehind done words course

  -- ---- whatever is done so far is in order

  module _ (done : List Ask) (words : List ℕ) where
    front_so : (flags : List Bool) (begun : ℕ) (zones : List ZoneCourse) (still : List Ask)
        → done ++ still ≡ query_events buckets zones → AreEntered words flags begun (areas_of_zones zones)
        → All IsZoneInOrder zones → ComeInOrder setting words done
    front_so flags begun zones still all entered rounds = record {
      zones = zones;
      left = still;
      all = all;
      areas_left = chosen_areas flags (0 + length (take begun setting.areas)) (drop begun setting.areas);
      entered = ap (λ (areas : List Area).
          areas ++ chosen_areas flags (0 + length (take begun setting.areas)) (drop begun setting.areas))
          entered.areas_are
          ∙ chosen_whole flags setting.areas begun
          ∙ ap (λ (those : List Bool). chosen_areas those 0 setting.areas) entered.flags_are;
      rounds = rounds;
    }

    pub between_in_order : (course : Course) → HasZonesBehind done words course → ComeInOrder setting words done
    between_in_order course h =
        front_so course.entered course.begun h.zones [] (append-nil done ∙ h.all) h.entered h.rounds

    pub round_in_order : (flags : List Bool) (begun : ℕ) (area : Area) (leaves : List Leaf) (still : List Ask)
        → IsRoundSo done words flags begun area leaves still → ComeInOrder setting words done
    round_in_order flags begun area leaves still h =
        let zone = zone_of area (h.behind ++ leaves ∷ []) in
        front_so flags begun (h.zones ++ zone ∷ []) still h.all
        (subst (AreEntered words flags begun) (sym (zones_last h.zones zone)) h.entered)
        (all_append IsZoneInOrder h.zones (zone ∷ []) h.rounds
        (all_append (IsRoundInOrder area) h.behind (leaves ∷ []) h.before (h.now, tt), tt))

    whole_in_order : ComeWholeInOrder setting words done → ComeInOrder setting words done
    whole_in_order h = record {
      zones = h.zones;
      left = [];
      all = append-nil done ∙ h.all;
      areas_left = [];
      entered = append-nil (areas_of_zones h.zones) ∙ h.entered;
      rounds = h.rounds;
    }

    end_in_order : (end : Result Answer RoundFault) → EndSo done words end → ComeInOrder setting words done
    end_in_order (Ok answer) h = whole_in_order h
    end_in_order (Err why) h = h

    pub stage_in_order : (stage : Stage) → StageSo done words stage → ComeInOrder setting words done
    stage_in_order (at.Rooting loading) h = record {
      zones = [];
      left = map ask.LoadRoot (drop (length loading.words) buckets);
      all = h.0;
      areas_left = entered_areas setting words;
      entered = refl;
      rounds = tt;
    }
    stage_in_order (at.Entering course round loading) h =
        let zone = zone_of round.area [] in
        front_so course.entered course.begun (h.0.zones ++ zone ∷ []) (zone_words round.area (length loading.words))
        h.0.all (subst (AreEntered words course.entered course.begun) (sym (zones_last h.0.zones zone)) h.0.entered)
        (all_append IsZoneInOrder h.0.zones (zone ∷ []) h.0.rounds (tt, tt))
    stage_in_order (at.Resolving course round range) h =
        round_in_order course.entered course.begun round.area []
        (resolve_events round.area (length round.resolved) (round.area.ranges - length round.resolved)
        ++ zone_words round.area 0) h.0
    stage_in_order (at.Reloading course round loading) h =
        round_in_order course.entered course.begun round.area [] (zone_words round.area (length loading.words)) h.0
    stage_in_order (at.Visiting course round visits leaf) h =
        round_in_order course.entered course.begun round.area (h.leaves ++ leaf ∷ []) (ask.Visit leaf ∷ []) h.round
    stage_in_order (at.Ended end) h = end_in_order end h

  -- ---- within a round

  module _ (some : 0 < count) (done : List Ask) (words : List ℕ) where
    -- the next range, and once all have resolved the zone's words
    resolving_by : (course : Course) (round : Round) (b : Bool)
        → nat_lt (length round.resolved) round.area.ranges ≡ b
        → IsResolvingSo done words course round.area (length round.resolved)
        → StepSo done words (spec.resolving_at course round
        (cond b (Some (range_at round.area (length round.resolved))) None))
    resolving_by course round true below h = (h, refl, grind (arith, nat_tests))
    resolving_by course round false beyond h =
        let through : round.area.ranges ≤ length round.resolved = grind (arith, nat_tests) in
        let none = resolves_none round.area (length round.resolved) round.area.ranges through in (
          record {
            zones = h.zones;
            behind = h.behind;
            all = ap (λ events. done ++ (events ++ zone_words round.area 0)) (sym none) ∙ h.all;
            entered = h.entered;
            rounds = h.rounds;
            before = h.before;
            now = h.now;
          },
          some,
        )

    resolving_so : (course : Course) (round : Round)
        → IsResolvingSo done words course round.area (length round.resolved)
        → StepSo done words (spec.resolving course round)
    resolving_so course round h =
        resolving_by course round (nat_lt (length round.resolved) round.area.ranges) refl h

    no_leaf : (area : Area) → IsRoundInOrder area []
    no_leaf area = record {
      is_chosen = λ place. true;
      left = map (leaf_at area) (filter (λ place. true) (range_with_len 0 area.leaves));
      all = refl;
    }

    -- a zone's words are loaded, or a leaf was found down: another round
    pub begins_so : (course : Course) (area : Area) (zones : List ZoneCourse) (behind : List (List Leaf))
        → done ≡ query_events buckets (zones ++ zone_of area behind ∷ [])
        → AreEntered words course.entered course.begun (areas_of_zones zones ++ area ∷ [])
        → All IsZoneInOrder zones → All (IsRoundInOrder area) behind
        → StepSo done words (spec.resolving course (round_of area))
    begins_so course area zones behind all entered rounds before =
        resolving_so course (round_of area) (record {
          zones = zones;
          behind = behind;
          all = ap (λ events. done ++ (events ++ zone_words area 0)) (resolves_all area area.ranges)
              ∙ ap (λ events. events ++ (resolve_events area 0 area.ranges ++ zone_words area 0)) all
              ∙ round_begins buckets zones area behind;
          entered = entered;
          rounds = rounds;
          before = before;
          now = no_leaf area;
        })

    module _ (course : Course) (round : Round) (visits : Visits) (leaves : List Leaf)
        (h : IsRoundSo done words course.entered course.begun round.area leaves []) (is_chosen : ℕ → Bool)
        (order : leaves ++ visits.left
        ≡ map (leaf_at round.area) (filter is_chosen (range_with_len 0 round.area.leaves)))
      where
        all_done : done ≡ query_events buckets (h.zones ++ zone_of round.area (h.behind ++ leaves ∷ []) ∷ [])
        all_done = none_left done (query_events buckets (h.zones ++ zone_of round.area (h.behind ++ leaves ∷ []) ∷ []))
            h.all

        visiting_by : (still : List Leaf) → visits.left ≡ still
            → StepSo done words (spec.visiting_at course round visits (first_left still))
        visiting_by [] none =
            let zone = zone_of round.area (h.behind ++ leaves ∷ []) in
            record {
              zones = h.zones ++ zone ∷ [];
              all = all_done;
              entered = subst (AreEntered words course.entered course.begun) (sym (zones_last h.zones zone)) h.entered;
              rounds = all_append IsZoneInOrder h.zones (zone ∷ []) h.rounds
                  (all_append (IsRoundInOrder round.area) h.behind (leaves ∷ []) h.before (h.now, tt), tt);
            }
        visiting_by (leaf ∷ later) is =
            let all : (leaves ++ leaf ∷ []) ++ later
            ≡ map (leaf_at round.area) (filter is_chosen (range_with_len 0 round.area.leaves))
            = append_assoc leaves (leaf ∷ []) later ∙ ap (λ more. leaves ++ more) (sym is) ∙ order in
            record {
              leaves = leaves;
              round = record {
                zones = h.zones;
                behind = h.behind;
                all = ap (λ events. events ++ ask.Visit leaf ∷ []) all_done
                    ∙ leaf_visited buckets h.zones round.area h.behind leaves leaf;
                entered = h.entered;
                rounds = h.rounds;
                before = h.before;
                now = record { is_chosen = is_chosen; left = later; all = all };
              };
              is_chosen = is_chosen;
              order = ap (λ more. (leaves ++ leaf ∷ []) ++ visit.but_first more) is ∙ all;
            }

        visiting_so : StepSo done words (spec.visiting course round visits)
        visiting_so = visiting_by visits.left refl

  -- ---- what is told

  pub step_by : (done : List Ask) (words : List ℕ) (b : Bool) (x y : Step) → (b ≡ true → StepSo done words x)
      → (b ≡ false → StepSo done words y) → StepSo done words (cond b x y)
  step_by done words true x y h k = h refl
  step_by done words false x y h k = k refl

  pub below_count : (place : ℕ) → nat_le count place ≡ false → place < count
  below_count place more = grind (arith, nat_tests)

  -- an event of a round is done
  module _ (done : List Ask) (words more : List ℕ) (flags : List Bool) (begun : ℕ) (area : Area) (leaves : List Leaf)
    where
      round_on : (one : Ask) (still : List Ask) → IsRoundSo done words flags begun area leaves (one ∷ still)
          → IsRoundSo (done ++ one ∷ []) (words ++ more) flags begun area leaves still
      round_on one still h = record {
        zones = h.zones;
        behind = h.behind;
        all = one_on done one still
            (query_events buckets (h.zones ++ zone_of area (h.behind ++ leaves ∷ []) ∷ [])) h.all;
        entered = entered_on words more flags begun (areas_of_zones h.zones ++ area ∷ []) h.entered;
        rounds = h.rounds;
        before = h.before;
        now = h.now;
      }

      one_left : (one : Ask) (still all : List Ask) → all ≡ one ∷ still
          → IsRoundSo done words flags begun area leaves all
          → IsRoundSo (done ++ one ∷ []) (words ++ more) flags begun area leaves still
      one_left one still all is h =
          round_on one still (subst (IsRoundSo done words flags begun area leaves) is h)

  module _ (some : 0 < count) (done : List Ask) (words : List ℕ) where
    -- once more
    pub word_again : (course : Course) (round : Round) (loading : Loading) (word : ℕ) (seen : Seen)
        → StageSo done words (at.Reloading course round loading)
        → StepSo (done ++ ask.LoadZone round.area.zone (next_bucket setting.plan loading) ∷ []) (words ++ word ∷ [])
        (spec.loaded_again setting course round (with_word loading word seen))
    word_again course round loading word seen h =
        let place = length loading.words in
        let area = round.area in
        let next = with_word loading word seen in
        let event = ask.LoadZone area.zone (next_bucket setting.plan loading) in
        let then = done ++ event ∷ [] in
        let length_is : length next.words ≡ place + 1 = counted loading.words word in
        let on = one_left done words (word ∷ []) course.entered course.begun area [] event
        (zone_words area (place + 1)) (zone_words area place)
        (words_next (ask.LoadZone area.zone) buckets place h.1) h.0 in
        let here : IsReloadingSo then (words ++ word ∷ []) course area (length next.words) =
        subst (λ (n : ℕ). IsReloadingSo then (words ++ word ∷ []) course area n) (sym length_is) on in
        let visits = spec.begin_visits setting round next in
        step_by then (words ++ word ∷ []) (is_whole setting.plan next) (spec.visiting course round visits)
        (spec.going (at.Reloading course round next))
        (λ whole.
        let enough : nat_le count (length next.words) ≡ true = whole in
        let through : count ≤ length next.words = grind (arith, nat_tests) in
        visiting_so some then (words ++ word ∷ []) course round visits []
        (subst (IsRoundSo then (words ++ word ∷ []) course.entered course.begun area [])
        (words_none (ask.LoadZone area.zone) buckets (length next.words) through) here)
        (is_to_visit round (let_in setting.plan next.words area.leaves)) refl)
        (λ not_whole. (here, below_count (length next.words) not_whole))

    -- a range resolves
    module _ (course : Course) (round : Round) (range : Range)
        (h : StageSo done words (at.Resolving course round range))
      where
        abbrev place : ℕ
        place = length round.resolved

        abbrev later : List Ask
        later = resolve_events round.area (place + 1) (round.area.ranges - (place + 1)) ++ zone_words round.area 0

        resolved_on : IsRoundSo (done ++ ask.Resolve range ∷ []) (words ++ []) course.entered course.begun round.area []
            later
        resolved_on =
            one_left done words [] course.entered course.begun round.area [] (ask.Resolve range) later
            (resolve_events round.area place (round.area.ranges - place) ++ zone_words round.area 0)
            (ap (λ events. events ++ zone_words round.area 0) (resolves_next round.area place round.area.ranges h.2
            ∙ ap (λ (one : Range). ask.Resolve one
            ∷ resolve_events round.area (place + 1) (round.area.ranges - (place + 1))) (sym h.1))) h.0

        pub slot_told : (slot : Slot) (leaf : Leaf) → StepSo (done ++ ask.Resolve range ∷ []) (words ++ [])
            (spec.resolving course (with_slot round range slot leaf))
        slot_told slot leaf =
            let next = with_slot round range slot leaf in
            let length_is : length next.resolved ≡ place + 1 =
            length-append round.resolved (resolution range slot leaf ∷ []) in
            resolving_so some (done ++ ask.Resolve range ∷ []) (words ++ []) course next
            (subst (λ (n : ℕ). IsResolvingSo (done ++ ask.Resolve range ∷ []) (words ++ []) course round.area n)
            (sym length_is) resolved_on)

        pub no_slot_told : ComeInOrder setting (words ++ []) (done ++ ask.Resolve range ∷ [])
        no_slot_told =
            round_in_order (done ++ ask.Resolve range ∷ []) (words ++ []) course.entered course.begun round.area []
            later resolved_on

    -- a leaf is visited
    module _ (course : Course) (round : Round) (visits : Visits) (leaf : Leaf)
        (h : StageSo done words (at.Visiting course round visits leaf)) where
      abbrev pub visited : List Ask
      visited = done ++ ask.Visit leaf ∷ []

      visit_on : IsRoundSo visited (words ++ []) course.entered course.begun round.area (h.leaves ++ leaf ∷ []) []
      visit_on =
          round_on done words [] course.entered course.begun round.area (h.leaves ++ leaf ∷ []) (ask.Visit leaf) []
          h.round

      pub looked_told : (next : Visits) → next.left ≡ visits.left
          → StepSo visited (words ++ []) (spec.visiting course round next)
      looked_told next same =
          visiting_so some visited (words ++ []) course round next (h.leaves ++ leaf ∷ []) visit_on h.is_chosen
          (ap (λ more. (h.leaves ++ leaf ∷ []) ++ more) same ∙ h.order)

      pub down_told : (cut : ℕ) → StepSo visited (words ++ [])
          (spec.resolving (with_found course leaf cut) (round_of round.area))
      down_told cut =
          let on = visit_on in
          let leaves = h.leaves ++ leaf ∷ [] in
          begins_so some visited (words ++ []) (with_found course leaf cut) round.area on.zones
          (on.behind ++ leaves ∷ []) (none_left visited
          (query_events buckets (on.zones ++ zone_of round.area (on.behind ++ leaves ∷ []) ∷ [])) on.all)
          on.entered on.rounds
          (all_append (IsRoundInOrder round.area) on.behind (leaves ∷ []) on.before (on.now, tt))

      pub over_told : ComeInOrder setting (words ++ []) visited
      over_told =
          round_in_order visited (words ++ []) course.entered course.begun round.area (h.leaves ++ leaf ∷ []) []
          visit_on
