-- A session's events come in order, whatever it is told of each: its words, its zones, and the rounds of each zone.
use Rattle.std.proofs.Common.{◌≡◌, ◌∙◌, ◌+◌, ◌-◌, ◌<◌, ◌≤◌, ℕ, ℤ, Bool, true, false, cond, List, [], ◌∷◌, ◌++◌, length}
use Rattle.std.proofs.Common.{map, take, drop, get_or, Result, Ok, Err, refl, sym, ap, subst, arith, append-nil}
use Rattle.std.proofs.Common.{append_assoc, nat_le}
use Rattle.std.proofs.lemmas.Bool.Decides.{nat_tests}
use Rattle.std.proofs.lemmas.List.{take_all}
use Rattle.mixer.specs.declared.zone_answers.ZoneAnswer.{ZoneAnswer}
use Rattle.mon_meaning.specs.declared.meter.OverLimit.{OverLimit}
use Rattle.mon_topo.proofs.RangeHistoryLemmas.{all_append}
use Rattle.mon_topo.specs.Settings.{Setting}
use Rattle.mon_value.specs.declared.positions.Leaf.{Leaf}
use Rattle.mon_value.specs.declared.positions.RangeSlot.{RangeSlot}
use Rattle.mon_value.specs.declared.positions.Slot.{Slot}
use Rattle.mon_value.specs.declared.tables.Table.{Table}
use Rattle.query_core.proofs.OrderLemmas.{chosen_all, chosen_in, chosen_out, none_left, one_on, rest_left}
use Rattle.query_core.proofs.OrderLemmas.{words_next, words_none, zone_begins, zones_last}
use Rattle.query_core.proofs.RoundOrders.{AreEntered, HasZonesBehind, IsThroughSo, StageSo, StepSo, TurnSo, begins_so}
use Rattle.query_core.proofs.RoundOrders.{below_count, between_in_order, counted, down_told, entered_on, looked_told}
use Rattle.query_core.proofs.RoundOrders.{no_slot_told, over_told, slot_told, stage_in_order, step_by, word_again}
use Rattle.query_core.proofs.RoundOrders.{zone_of, zone_words}
use Rattle.query_core.specs.Courses.{course_of, is_entered, left, with_next_zone, with_zone_answer}
use Rattle.query_traces.specs.Loadings.{is_whole, next_bucket, no_word, with_word}
use Rattle.query_traces.specs.Rounds.{read_at, unread_look, Round, round_of, QuerySetting}
use Rattle.query_core.specs.Machine.{Query, new_query, slots_at}
use Rattle.query_core.specs.Mixtures.{Settles, TurnSettles, root_stage, zone_turn}
use Rattle.plan_split.specs.Meeting.{let_in}
use Rattle.query_core.specs.Orders.{ComeInOrder, ComeWholeInOrder, IsZoneInOrder, answer_words, areas_of_zones}
use Rattle.query_core.specs.Orders.{chosen_areas, events_told, query_events, words_loaded}
use Rattle.query_core.specs.Program as spec
use Rattle.query_core.specs.Program.{ask_of, let_some_in, next_zone}
use Rattle.query_core.specs.Sessions as session
use Rattle.query_traces.specs.TrueAnswers as truth
use Rattle.mon_topo.specs.Views.{View}
use Rattle.query_traces.specs.Visits as visit
use Rattle.query_traces.specs.Visits.{with_look}
use Rattle.query_traces.specs.declared.answers.Answer.{Answer}
use Rattle.query_traces.specs.declared.areas.Area.{Area}
use Rattle.query_traces.specs.declared.asks.Ask.{Ask}
use Rattle.query_traces.specs.declared.asks.Ask.TheVariants as ask
use Rattle.query_traces.specs.declared.asks.Seen.{Seen}
use Rattle.query_traces.specs.declared.asks.Told.{Told}
use Rattle.query_traces.specs.declared.asks.Told.TheVariants as told
use Rattle.query_core.specs.declared.courses.Course.{Course}
use Rattle.query_traces.specs.declared.loadings.Loading.{Loading}
use Rattle.query_core.specs.declared.stages.Stage.{Stage}
use Rattle.query_core.specs.declared.stages.Stage.TheVariants as at
use Rattle.query_core.specs.declared.stages.Step.{Step}
use Rattle.query_core.specs.declared.stages.Step.TheVariants as step
use Rattle.query_core.specs.declared.stages.Turn.{Turn}
use Rattle.query_core.specs.declared.stages.Turn.TheVariants as turn

module _ (setting : QuerySetting) (some : 0 < length setting.plan.buckets) where
  module _ (done : List Ask) (words : List ℕ) where
    -- ---- at the next zone

    turn_by : (b : Bool) (x y : Turn) → (b ≡ true → TurnSo setting done words x)
        → (b ≡ false → TurnSo setting done words y) → TurnSo setting done words (cond b x y)
    turn_by true x y h k = h refl
    turn_by false x y h k = k refl

    next_so : (areas : List Area) (course : Course) → drop course.begun setting.areas ≡ areas
        → HasZonesBehind setting done words course → TurnSo setting done words (next_zone areas course)
    next_so [] course none h = (h, none)
    next_so (area ∷ areas) course some_left h =
        turn_by (is_entered course) (turn.Goes (at.Entering (with_next_zone course) (round_of area) no_word))
        (next_zone areas (left (with_next_zone course) area course.seen))
        (λ enters. (
          record {
            zones = h.zones;
            all = ap (λ events. events ++ zone_words setting area 0) h.all
                ∙ zone_begins setting.plan.buckets h.zones area;
            more = some;
            entered = record {
              areas_are = ap (λ (before : List Area). before ++ area ∷ []) h.entered.areas_are
                  ∙ sym (chosen_in course.entered setting.areas course.begun area areas some_left enters);
              flags_are = h.entered.flags_are;
              enough = h.entered.enough;
            };
            rounds = h.rounds;
          },
          refl,
        ))
        (λ out. next_so areas (left (with_next_zone course) area course.seen)
        (rest_left course.entered setting.areas course.begun area areas some_left) (record {
          zones = h.zones;
          all = h.all;
          entered = record {
            areas_are = h.entered.areas_are
                ∙ sym (chosen_out course.entered setting.areas course.begun area areas some_left out);
            flags_are = h.entered.flags_are;
            enough = h.entered.enough;
          };
          rounds = h.rounds;
        }))

    on_so : (course : Course) → HasZonesBehind setting done words course
        → StepSo setting done words (spec.on_from setting course)
    on_so course h = next_so (drop course.begun setting.areas) course refl h

    -- ---- how it settles

    root_so : (course : Course) (mixed : Result Table OverLimit) → IsThroughSo setting done words course
        → StageSo setting done words (root_stage setting course mixed)
    root_so course (Ok table) h = record {
      zones = h.0.zones;
      all = h.0.all;
      entered = h.0.entered.areas_are ∙ chosen_all course.entered setting.areas course.begun h.1
          ∙ ap (λ (those : List Bool). chosen_areas those 0 setting.areas) h.0.entered.flags_are;
      rounds = h.0.rounds;
    }
    root_so course (Err over) h = between_in_order setting done words course h.0

    turn_settles : (some_turn : Turn) (new : Stage) → TurnSo setting done words some_turn
        → TurnSettles setting some_turn new → StageSo setting done words new
    turn_settles (turn.Goes stage) new h is = subst (StageSo setting done words) (sym is) h
    turn_settles (turn.Through course) new h is =
        subst (StageSo setting done words) (sym is.stage_is) (root_so course is.mixed h)

    zone_so : (course : Course) (mixed : Result ZoneAnswer OverLimit) → HasZonesBehind setting done words course
        → TurnSo setting done words (zone_turn setting course mixed)
    zone_so course (Ok answer) h =
        next_so (drop course.begun setting.areas) (with_zone_answer course answer) refl (record {
          zones = h.zones;
          all = h.all;
          entered = h.entered;
          rounds = h.rounds;
        })
    zone_so course (Err over) h = between_in_order setting done words course h

    settles_so : (some_step : Step) (new : Stage) → StepSo setting done words some_step → Settles setting some_step new
        → StageSo setting done words new
    settles_so (step.Takes some_turn) new h is = turn_settles some_turn new h is
    settles_so (step.Gathered course parts) new h is =
        turn_settles (zone_turn setting course is.mixed) new (zone_so course is.mixed h) is.settles

  -- ---- what is told

  module _ (done : List Ask) (words : List ℕ) where
    -- the root's words
    root_word : (loading : Loading) (word : ℕ) (seen : Seen) → StageSo setting done words (at.Rooting loading)
        → StepSo setting (done ++ ask.LoadRoot (next_bucket setting.plan loading) ∷ []) (words ++ word ∷ [])
        (spec.loaded_root setting (with_word loading word seen))
    root_word loading word seen h =
        let buckets = setting.plan.buckets in
        let count = length buckets in
        let place = length loading.words in
        let next = with_word loading word seen in
        let then = done ++ ask.LoadRoot (next_bucket setting.plan loading) ∷ [] in
        let root = query_events buckets [] in
        let length_is : length next.words ≡ place + 1 = counted loading.words word in
        let words_are : words ++ word ∷ [] ≡ next.words = ap (λ (some_words : List ℕ). some_words ++ word ∷ []) h.2 in
        let below = h.1 in
        let on : then ++ map ask.LoadRoot (drop (place + 1) buckets) ≡ root =
        one_on done (ask.LoadRoot (get_or buckets place 0)) (map ask.LoadRoot (drop (place + 1) buckets)) root
        (ap (λ events. done ++ events) (sym (words_next ask.LoadRoot buckets place h.1)) ∙ h.0) in
        let here : then ++ map ask.LoadRoot (drop (length next.words) buckets) ≡ root =
        ap (λ (n : ℕ). then ++ map ask.LoadRoot (drop n buckets)) length_is ∙ on in
        step_by setting then (words ++ word ∷ []) (is_whole setting.plan next)
        (spec.on_from setting (course_of setting next)) (spec.going (at.Rooting next))
        (λ whole.
        let enough : nat_le count (length next.words) ≡ true = whole in
        let all : count ≤ length next.words = grind (arith, nat_tests) in
        let first : take count (words ++ word ∷ []) ≡ next.words = ap (take count) words_are
        ∙ take_all count next.words (omega (arith, length_is, below)) in
        on_so then (words ++ word ∷ []) (course_of setting next) (record {
          zones = [];
          all = none_left then root (ap (λ events. then ++ events)
              (sym (words_none ask.LoadRoot buckets (length next.words) all)) ∙ here);
          entered = record {
            areas_are = refl;
            flags_are = ap (λ (some_words : List ℕ). let_in setting.plan some_words (length setting.areas)) (sym first);
            enough = subst (λ (some_words : List ℕ). count ≤ length some_words) (sym words_are) all;
          };
          rounds = tt;
        }))
        (λ not_whole. (here, below_count setting (length next.words) not_whole, words_are))

    -- a zone's words
    zone_word : (course : Course) (round : Round) (loading : Loading) (word : ℕ) (seen : Seen)
        → StageSo setting done words (at.Entering course round loading)
        → StepSo setting (done ++ ask.LoadZone round.area.zone (next_bucket setting.plan loading) ∷ [])
        (words ++ word ∷ []) (spec.loaded_zone setting course round (with_word loading word seen))
    zone_word course round loading word seen h =
        let buckets = setting.plan.buckets in
        let count = length buckets in
        let place = length loading.words in
        let area = round.area in
        let next = with_word loading word seen in
        let event = ask.LoadZone area.zone (next_bucket setting.plan loading) in
        let then = done ++ event ∷ [] in
        let zone = zone_of area [] in
        let all_events = query_events buckets (h.0.zones ++ zone ∷ []) in
        let length_is : length next.words ≡ place + 1 = counted loading.words word in
        let on : then ++ zone_words setting area (place + 1) ≡ all_events =
        one_on done event (zone_words setting area (place + 1)) all_events
        (ap (λ events. done ++ events) (sym (words_next (ask.LoadZone area.zone) buckets place h.0.more))
        ∙ h.0.all) in
        let here : then ++ zone_words setting area (length next.words) ≡ all_events =
        ap (λ (n : ℕ). then ++ zone_words setting area n) length_is ∙ on in
        let entered = entered_on setting words (word ∷ []) course.entered course.begun
        (areas_of_zones h.0.zones ++ area ∷ []) h.0.entered in
        step_by setting then (words ++ word ∷ []) (is_whole setting.plan next)
        (spec.opened_zone setting course round next) (spec.going (at.Entering course round next))
        (λ whole.
        let enough : nat_le count (length next.words) ≡ true = whole in
        let through : count ≤ length next.words = grind (arith, nat_tests) in
        let all : then ≡ all_events = none_left then all_events (ap (λ events. then ++ events)
        (sym (words_none (ask.LoadZone area.zone) buckets (length next.words) through)) ∙ here) in
        step_by setting then (words ++ word ∷ []) (let_some_in setting area next) (spec.resolving course round)
        (spec.on_from setting (left course area next.seen))
        (λ lets_in.
        let same : round ≡ round_of area = λ i. record { area = area; resolved = h.1 i } in
        subst (λ (one : Round). StepSo setting then (words ++ word ∷ []) (spec.resolving course one)) (sym same)
        (begins_so setting some then (words ++ word ∷ []) course area h.0.zones [] all entered h.0.rounds tt))
        (λ lets_none. on_so then (words ++ word ∷ []) (left course area next.seen) (record {
          zones = h.0.zones ++ zone ∷ [];
          all = all;
          entered = subst (AreEntered setting (words ++ word ∷ []) course.entered course.begun)
              (sym (zones_last h.0.zones zone)) entered;
          rounds = all_append IsZoneInOrder h.0.zones (zone ∷ []) h.0.rounds (tt, tt);
        })))
        (λ not_whole. (
          record {
            zones = h.0.zones;
            all = here;
            more = below_count setting (length next.words) not_whole;
            entered = entered;
            rounds = h.0.rounds;
          },
          h.1,
        ))

  module _ (store : Setting) (moment : ℤ) (before after : View) (avoided : List Leaf) (slots : List RangeSlot) where
    told_so : (done : List Ask) (words : List ℕ) (stage : Stage) (answer : Told) → StageSo setting done words stage
        → truth.IsTrueAnswer store setting moment before after avoided slots (ask_of setting stage) answer
        → StepSo setting (done ++ ask_of setting stage ∷ []) (words ++ answer_words answer)
        (spec.after setting stage answer)
    told_so done words (at.Rooting loading) (told.Word word seen) h is = root_word done words loading word seen h
    told_so done words (at.Entering course round loading) (told.Word word seen) h is =
        zone_word done words course round loading word seen h
    told_so done words (at.Reloading course round loading) (told.Word word seen) h is =
        word_again setting some done words course round loading word seen h
    told_so done words (at.Resolving course round range) (told.Slot slot leaf) h is =
        slot_told setting some done words course round range h slot leaf
    told_so done words (at.Resolving course round range) told.NoSlot h is =
        no_slot_told setting some done words course round range h
    told_so done words (at.Visiting course round visits leaf) (told.Down cut) h is =
        down_told setting some done words course round visits leaf h cut
    told_so done words (at.Visiting course round visits leaf) (told.Unread cut) h is =
        looked_told setting some done words course round visits leaf h (with_look visits leaf (unread_look cut)) refl
    told_so done words (at.Visiting course round visits leaf) (told.Read cut answer) h is =
        looked_told setting some done words course round visits leaf h
        (visit.with_leaf_answer (with_look visits leaf (read_at cut answer.sent)) answer) refl
    told_so done words (at.Visiting course round visits leaf) (told.Over load cut) h is =
        over_told setting some done words course round visits leaf h
    told_so done words (at.Rooting loading) answer h is = absurd is
    told_so done words (at.Entering course round loading) answer h is = absurd is
    told_so done words (at.Resolving course round range) answer h is = absurd is
    told_so done words (at.Reloading course round loading) answer h is = absurd is
    told_so done words (at.Visiting course round visits leaf) answer h is = absurd is
    told_so done words (at.Ended end) answer h is = absurd is

  -- ---- sessions

  module _ (store : Setting) (moment : ℤ) where
    session_so : (events : List (session.Event store setting moment)) (view : View) (query : Query) (done : List Ask)
        (words : List ℕ) → StageSo setting done words query.stage
        → session.IsLicensed store setting moment view query events
        → StageSo setting (done ++ events_told store setting moment query events)
        (words ++ words_loaded store setting moment events)
        (session.query_after store setting moment query events).stage
    session_so [] view query done words h licensed =
        subst (λ (some_words : List ℕ). StageSo setting (done ++ []) some_words query.stage) (sym (append-nil words))
        (subst (λ (some_events : List Ask). StageSo setting some_events words query.stage) (sym (append-nil done)) h)
    session_so (event ∷ events) view query done words h licensed =
        let next = session.told_then store setting moment query event in
        let then = done ++ ask_of setting query.stage ∷ [] in
        let words_then = words ++ answer_words event.answer in
        let last = (session.query_after store setting moment next events).stage in
        let rest = events_told store setting moment next events in
        let more = words_loaded store setting moment events in
        subst (λ (some_words : List ℕ).
        StageSo setting (done ++ ask_of setting query.stage ∷ rest) some_words last)
        (append_assoc words (answer_words event.answer) more)
        (subst (λ (some_events : List Ask). StageSo setting some_events (words_then ++ more) last)
        (append_assoc done (ask_of setting query.stage ∷ []) rest)
        (session_so events event.view next then words_then
        (settles_so then words_then (spec.after setting query.stage event.answer) event.stage
        (told_so store moment view event.view query.avoided (slots_at query) done words query.stage event.answer h
        licensed.0.true_then) licensed.0.goes_on) licensed.1))

    module _ (view : View) (events : List (session.Event store setting moment))
        (licensed : session.IsLicensed store setting moment view (new_query setting) events) where
      last_so : StageSo setting (events_told store setting moment (new_query setting) events)
          (words_loaded store setting moment events)
          (session.query_after store setting moment (new_query setting) events).stage
      last_so =
          session_so events view (new_query setting) [] []
          (sym (append-nil (map ask.LoadRoot setting.plan.buckets)), some, refl) licensed

      pub session_in_order : ComeInOrder setting (words_loaded store setting moment events)
          (events_told store setting moment (new_query setting) events)
      session_in_order =
          stage_in_order setting (events_told store setting moment (new_query setting) events)
          (words_loaded store setting moment events)
          (session.query_after store setting moment (new_query setting) events).stage last_so

      pub session_whole : (answer : Answer)
          → (session.query_after store setting moment (new_query setting) events).stage ≡ at.Ended (Ok answer)
          → ComeWholeInOrder setting (words_loaded store setting moment events)
          (events_told store setting moment (new_query setting) events)
      session_whole answer ended =
          subst (λ (stage : Stage). StageSo setting (events_told store setting moment (new_query setting) events)
          (words_loaded store setting moment events) stage) ended last_so
