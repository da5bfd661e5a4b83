-- How much leaves sent in a session in which none was found down: so much is what the trace says.
use Rattle.std.proofs.Common.{◌≡◌, ◌∙◌, ◌+◌, ◌<◌, ℕ, ℤ, zero, suc, Bool, true, false, cond, List, [], ◌∷◌, ◌++◌, length}
use Rattle.std.proofs.Common.{map, set, drop, Option, Some, None, Result, Ok, Err, refl, sym, ap, subst, arith}
use Rattle.std.specs.List.{AllByRecursion, sum}
use Rattle.std.proofs.lemmas.List.Sums.{sum_by-cons}
use Rattle.mixer.specs.declared.zone_answers.ZoneAnswer.{ZoneAnswer}
use Rattle.mon_meaning.specs.declared.meter.OverLimit.{OverLimit}
use Rattle.mon_topo.specs.Settings.{Setting}
use Rattle.mon_value.specs.declared.histories.Histories.{Histories}
use Rattle.mon_value.specs.declared.positions.FoundDown.{FoundDown}
use Rattle.mon_value.specs.declared.positions.Leaf.{Leaf}
use Rattle.mon_value.specs.declared.positions.Range.{Range}
use Rattle.mon_value.specs.declared.positions.RangeSlot.{RangeSlot}
use Rattle.mon_value.specs.declared.tables.Table.{Table}
use Rattle.query_core.proofs.AnswerParts.{answer_parts}
use Rattle.query_core.proofs.PartClaims.{StageParts, VisitSo}
use Rattle.query_core.proofs.ReadLeaves.{IsUnread, SendsNothing}
use Rattle.query_core.proofs.SessionParts.{Keeps, step_parts}
use Rattle.query_core.proofs.VisitParts.{looks_at}
use Rattle.query_traces.specs.Rounds.{areas_of, read_at, unread_look, Round, next_range, round_of, with_slot}
use Rattle.query_traces.specs.Rounds.{QuerySetting}
use Rattle.query_core.specs.Courses.{course_of, cuts_seen, is_entered, left, with_found}
use Rattle.query_traces.specs.Founds.{found_down}
use Rattle.query_core.specs.Courses.{with_next_zone, with_zone_answer}
use Rattle.query_traces.specs.Loadings.{is_whole, no_word, with_word}
use Rattle.query_core.specs.Machine.{Query, slots_at}
use Rattle.query_core.specs.Mixtures.{Settles, TurnSettles, root_stage, zone_turn}
use Rattle.query_core.specs.Program as spec
use Rattle.query_core.specs.Program.{ask_of, let_some_in, next_zone}
use Rattle.query_core.specs.SentTold.{answer_sent, sent_told}
use Rattle.query_core.specs.Sessions as session
use Rattle.query_traces.specs.TrueAnswers as truth
use Rattle.mon_topo.specs.Views.{IsSound, View}
use Rattle.query_traces.specs.Visits as visit
use Rattle.query_traces.specs.Visits.{Visits, next_leaf, with_look}
use Rattle.query_traces.specs.declared.answers.Answer.{Answer}
use Rattle.query_traces.specs.declared.answers.RoundFault.{RoundFault}
use Rattle.query_traces.specs.declared.areas.Area.{Area}
use Rattle.query_traces.specs.declared.asks.Seen.{Seen}
use Rattle.query_traces.specs.declared.asks.Told.{Told}
use Rattle.query_traces.specs.declared.asks.Told.TheVariants as told
use Rattle.query_core.specs.declared.courses.Course.{Course}
use Rattle.query_traces.specs.declared.looks.Look.{Look}
use Rattle.query_core.specs.declared.stages.Stage.{Stage}
use Rattle.query_core.specs.declared.stages.Stage.TheVariants as at
use Rattle.query_core.specs.declared.stages.Step.{Step}
use Rattle.query_core.specs.declared.stages.Step.TheVariants as step
use Rattle.query_core.specs.declared.stages.Turn.{Turn}
use Rattle.query_core.specs.declared.stages.Turn.TheVariants as turn

-- ---- sums over looks

abbrev pub sent_looks : List Look → ℕ
sent_looks [] = 0
sent_looks (look ∷ looks) = look.sent + sent_looks looks

sent_append : (looks more : List Look) → sent_looks (looks ++ more) ≡ sent_looks looks + sent_looks more
sent_append [] more = omega arith
sent_append (look ∷ looks) more = let rest = sent_append looks more in omega (arith, rest)

sent_unread : (cuts : List ℕ) → sent_looks (map unread_look cuts) ≡ 0
sent_unread [] = refl
sent_unread (cut ∷ cuts) = let rest = sent_unread cuts in omega (arith, rest)

sent_listed : (looks : List Look) → sum (map (λ (look : Look). look.sent) looks) ≡ sent_looks looks
sent_listed [] = refl
sent_listed (look ∷ looks) =
    sum_by-cons (λ (n : ℕ). n) look.sent (map (λ (one : Look). one.sent) looks)
    ∙ ap (λ n. look.sent + n) (sent_listed looks)

-- a leaf that was not read yet sends something
sent_set : (looks : List Look) (place : ℕ) (look : Look) → place < length looks
    → AllByRecursion IsUnread (drop place looks) → AllByRecursion SendsNothing looks
    → sent_looks (set looks place look) ≡ sent_looks looks + look.sent
sent_set [] place look there unread silent = absurd (omega (arith, there))
sent_set (first ∷ looks) zero look there unread silent =
    let none : first.sent ≡ 0 = silent.0 unread.0 in omega (arith, none)
sent_set (first ∷ looks) (suc place) look there unread silent =
    let rest = sent_set looks place look (omega (arith, there)) unread silent.1 in omega (arith, rest)

-- ---- the claim

-- so much was told by the looks of zones that are behind, unless a leaf was found down
abbrev pub CourseSent : ℕ → Course → Type 0
CourseSent n course = course.founds ≡ [] → sent_looks course.looks ≡ n

abbrev pub VisitsSent : ℕ → Course → Visits → Type 0
VisitsSent n course visits = course.founds ≡ [] → sent_looks course.looks + sent_looks visits.looks ≡ n

abbrev pub EndSent : ℕ → Result Answer RoundFault → Type 0
EndSent n (Ok answer) = answer.trace.down ≡ [] → sum answer.trace.sent ≡ n
EndSent n (Err why) = Unit {0}

abbrev pub StageSent : ℕ → Stage → Type 0
StageSent n (at.Rooting loading) = n ≡ 0
StageSent n (at.Entering course round loading) = CourseSent n course
StageSent n (at.Resolving course round range) = CourseSent n course
StageSent n (at.Reloading course round loading) = CourseSent n course
StageSent n (at.Visiting course round visits leaf) = VisitsSent n course visits
StageSent n (at.Ended end) = EndSent n end

abbrev TurnSent : ℕ → Turn → Type 0
TurnSent n (turn.Goes stage) = StageSent n stage
TurnSent n (turn.Through course) = CourseSent n course

abbrev StepSent : ℕ → Step → Type 0
StepSent n (step.Takes some) = TurnSent n some
StepSent n (step.Gathered course parts) = CourseSent n course

turn_by : (n : ℕ) (b : Bool) (x y : Turn) → TurnSent n x → TurnSent n y → TurnSent n (cond b x y)
turn_by n true x y h k = h
turn_by n false x y h k = k

step_by : (n : ℕ) (b : Bool) (x y : Step) → StepSent n x → StepSent n y → StepSent n (cond b x y)
step_by n true x y h k = h
step_by n false x y h k = k

-- ---- zones

left_sent : (n : ℕ) (course : Course) (area : Area) (seen : Seen) → CourseSent n course
    → CourseSent n (left course area seen)
left_sent n course area seen h none =
    let both = sent_append course.looks (map unread_look (cuts_seen seen area)) in
    let more = sent_unread (cuts_seen seen area) in
    let so = h none in omega (arith, both, more, so)

next_sent : (n : ℕ) (areas : List Area) (course : Course) → CourseSent n course → TurnSent n (next_zone areas course)
next_sent n [] course h = h
next_sent n (area ∷ areas) course h =
    turn_by n (is_entered course) (turn.Goes (at.Entering (with_next_zone course) (round_of area) no_word))
    (next_zone areas (left (with_next_zone course) area course.seen)) h
    (next_sent n areas (left (with_next_zone course) area course.seen)
    (left_sent n (with_next_zone course) area course.seen h))

resolving_by : (n : ℕ) (course : Course) (round : Round) (next : Option Range) → CourseSent n course
    → StepSent n (spec.resolving_at course round next)
resolving_by n course round (Some range) h = h
resolving_by n course round None h = h

gathered_sent : (n : ℕ) (course : Course) (round : Round) (visits : Visits) → VisitsSent n course visits
    → CourseSent n (spec.with_zone course round visits)
gathered_sent n course round visits h none = sent_append course.looks visits.looks ∙ h none

visiting_by : (n : ℕ) (course : Course) (round : Round) (visits : Visits) (next : Option Leaf)
    → VisitsSent n course visits → StepSent n (spec.visiting_at course round visits next)
visiting_by n course round visits (Some leaf) h = h
visiting_by n course round visits None h = gathered_sent n course round visits h

-- ---- how it settles

root_sent : (setting : QuerySetting) (n : ℕ) (course : Course) (mixed : Result Table OverLimit) → CourseSent n course
    → StageSent n (root_stage setting course mixed)
root_sent setting n course (Ok table) h = λ none.
    let cuts = drop (length course.looks) course.seen.cuts in
    let both = sent_append course.looks (map unread_look cuts) in
    let more = sent_unread cuts in
    let so = h none in
    sent_listed (course.looks ++ map unread_look cuts) ∙ omega (arith, both, more, so)
root_sent setting n course (Err over) h = tt

turn_settles : (setting : QuerySetting) (n : ℕ) (some : Turn) (new : Stage) → TurnSent n some
    → TurnSettles setting some new → StageSent n new
turn_settles setting n (turn.Goes stage) new h is = subst (StageSent n) (sym is) h
turn_settles setting n (turn.Through course) new h is =
    subst (StageSent n) (sym is.stage_is) (root_sent setting n course is.mixed h)

zone_sent : (setting : QuerySetting) (n : ℕ) (course : Course) (mixed : Result ZoneAnswer OverLimit)
    → CourseSent n course → TurnSent n (zone_turn setting course mixed)
zone_sent setting n course (Ok answer) h =
    next_sent n (drop course.begun setting.areas) (with_zone_answer course answer) h
zone_sent setting n course (Err over) h = tt

settles_sent : (setting : QuerySetting) (n : ℕ) (some : Step) (new : Stage) → StepSent n some
    → Settles setting some new → StageSent n new
settles_sent setting n (step.Takes some) new h is = turn_settles setting n some new h is
settles_sent setting n (step.Gathered course parts) new h is =
    turn_settles setting n (zone_turn setting course is.mixed) new (zone_sent setting n course is.mixed h) is.settles

-- ---- what is told

module _ (store : Setting) (setting : QuerySetting) (moment : ℤ) where
  on_sent : (n : ℕ) (course : Course) → CourseSent n course → StepSent n (spec.on_from setting course)
  on_sent n course h = next_sent n (drop course.begun setting.areas) course h

  looked_sent : (now : Histories) (n : ℕ) (course : Course) (round : Round) (visits : Visits) (leaf : Leaf)
      (look : Look) → VisitSo store setting moment now round visits leaf → VisitsSent n course visits
      → VisitsSent (n + look.sent) course (with_look visits leaf look)
  looked_sent now n course round visits leaf look so h none =
      let all = so.visits_so in
      let same = looks_at store setting moment round visits leaf so.place look all.first so.is in
      let sum = sent_set visits.looks so.place look (omega (arith, so.there, all.count)) all.not_yet all.parts.silent in
      let before = h none in
      let after = ap sent_looks same in
      omega (arith, sum, before, after)

  word_sent : (n : ℕ) (stage : Stage) (word : ℕ) (seen : Seen) → StageSent n stage
      → StepSent n (spec.told_word setting stage word seen)
  word_sent n (at.Rooting loading) word seen h =
      step_by n (is_whole setting.plan (with_word loading word seen))
      (spec.on_from setting (course_of setting (with_word loading word seen)))
      (spec.going (at.Rooting (with_word loading word seen)))
      (on_sent n (course_of setting (with_word loading word seen)) (λ none. sym h)) h
  word_sent n (at.Entering course round loading) word seen h =
      step_by n (is_whole setting.plan (with_word loading word seen))
      (spec.opened_zone setting course round (with_word loading word seen))
      (spec.going (at.Entering course round (with_word loading word seen)))
      (step_by n (let_some_in setting round.area (with_word loading word seen)) (spec.resolving course round)
      (spec.on_from setting (left course round.area (with_word loading word seen).seen))
      (resolving_by n course round (next_range round) h)
      (on_sent n (left course round.area (with_word loading word seen).seen)
      (left_sent n course round.area (with_word loading word seen).seen h))) h
  word_sent n (at.Resolving course round range) word seen h = h
  word_sent n (at.Reloading course round loading) word seen h =
      let visits = spec.begin_visits setting round (with_word loading word seen) in
      step_by n (is_whole setting.plan (with_word loading word seen)) (spec.visiting course round visits)
      (spec.going (at.Reloading course round (with_word loading word seen)))
      (visiting_by n course round visits (next_leaf visits) (λ none. (
      let more = sent_unread (cuts_seen (with_word loading word seen).seen round.area) in
      let so = h none in omega (arith, more, so)))) h
  word_sent n (at.Visiting course round visits leaf) word seen h = h
  word_sent n (at.Ended end) word seen h = h

  stays_sent : (n : ℕ) (some : Step) → StepSent n some → StepSent (n + 0) some
  stays_sent n some h = let same : n ≡ n + 0 = omega arith in subst (λ (k : ℕ). StepSent k some) same h

  not_none : (founds : List FoundDown) (one : FoundDown) → founds ++ one ∷ [] ≡ [] → ⊥
  not_none [] one e = cc
  not_none (first ∷ founds) one e = cc

  module _ (Tells : Histories → Course → Type 0) (before after : View) (avoided : List Leaf) (slots : List RangeSlot)
    where
      told_sent : (n : ℕ) (stage : Stage) (answer : Told) → StageParts store setting moment Tells before.seen stage
          → StageSent n stage
          → truth.IsTrueAnswer store setting moment before after avoided slots (ask_of setting stage) answer
          → StepSent (n + answer_sent answer) (spec.after setting stage answer)
      told_sent n (at.Rooting loading) (told.Word word seen) so h is =
          stays_sent n (spec.told_word setting (at.Rooting loading) word seen)
          (word_sent n (at.Rooting loading) word seen h)
      told_sent n (at.Entering course round loading) (told.Word word seen) so h is =
          stays_sent n (spec.told_word setting (at.Entering course round loading) word seen)
          (word_sent n (at.Entering course round loading) word seen h)
      told_sent n (at.Reloading course round loading) (told.Word word seen) so h is =
          stays_sent n (spec.told_word setting (at.Reloading course round loading) word seen)
          (word_sent n (at.Reloading course round loading) word seen h)
      told_sent n (at.Resolving course round range) (told.Slot slot leaf) so h is =
          let next = with_slot round range slot leaf in
          stays_sent n (spec.resolving course next) (resolving_by n course next (next_range next) h)
      told_sent n (at.Resolving course round range) told.NoSlot so h is = tt
      told_sent n (at.Visiting course round visits leaf) (told.Down cut) so h is =
          let course_then = with_found course leaf cut in
          let next = round_of round.area in
          resolving_by (n + 0) course_then next (next_range next)
          (λ none. absurd (not_none course.founds (found_down leaf cut) none))
      told_sent n (at.Visiting course round visits leaf) (told.Unread cut) so h is =
          let looked = with_look visits leaf (unread_look cut) in
          visiting_by (n + 0) course round looked (next_leaf looked)
          (looked_sent before.seen n course round visits leaf (unread_look cut) so.2 h)
      told_sent n (at.Visiting course round visits leaf) (told.Read cut answer) so h is =
          let looked = visit.with_leaf_answer (with_look visits leaf (read_at cut answer.sent)) answer in
          visiting_by (n + answer.sent) course round looked (next_leaf looked)
          (looked_sent before.seen n course round visits leaf (read_at cut answer.sent) so.2 h)
      told_sent n (at.Visiting course round visits leaf) (told.Over load cut) so h is = tt
      told_sent n (at.Rooting loading) answer so h is = absurd is
      told_sent n (at.Entering course round loading) answer so h is = absurd is
      told_sent n (at.Resolving course round range) answer so h is = absurd is
      told_sent n (at.Reloading course round loading) answer so h is = absurd is
      told_sent n (at.Visiting course round visits leaf) answer so h is = absurd is
      told_sent n (at.Ended end) answer so h is = absurd is

  -- ---- sessions

  module _ (Tells : Histories → Course → Type 0) (areas : setting.areas ≡ areas_of store.zones)
      (Also : View → Query → Type 0) (keeps : Keeps store setting moment Tells areas Also) where
    pub sent_session : (events : List (session.Event store setting moment)) (before : View) (query : Query) (n : ℕ)
        → IsSound store before → Also before query
        → StageParts store setting moment Tells before.seen query.stage → StageSent n query.stage
        → session.IsLicensed store setting moment before query events
        → StageSent (n + sent_told store setting moment events)
        (session.query_after store setting moment query events).stage
    sent_session [] before query n sound also so h licensed =
        let same : n ≡ n + 0 = omega arith in subst (λ (k : ℕ). StageSent k query.stage) same h
    sent_session (event ∷ events) before query n sound also so h licensed =
        let one = licensed.0 in
        let next = keeps.on before query event also one in
        let then : Query = session.told_then store setting moment query event in
        let some = answer_parts store setting moment Tells areas before event.view sound one.grown.seen query.avoided
        query.stage event.answer so one.true_then in
        let all = sum_by-cons (λ (one : session.Event store setting moment). answer_sent one.answer) event events in
        let both : n + answer_sent event.answer + sent_told store setting moment events
        ≡ n + sent_told store setting moment (event ∷ events) = omega (arith, all) in
        subst (λ (k : ℕ). StageSent k (session.query_after store setting moment then events).stage) both
        (sent_session events event.view then (n + answer_sent event.answer) one.sound next.0
        (step_parts store setting moment Tells areas event.view.seen (spec.after setting query.stage event.answer)
        event.stage some next.1 one.goes_on)
        (settles_sent setting (n + answer_sent event.answer) (spec.after setting query.stage event.answer) event.stage
        (told_sent Tells before event.view query.avoided (slots_at query) n query.stage event.answer so h
        one.true_then) one.goes_on) licensed.1)
