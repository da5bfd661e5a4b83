-- What is so of the leaves that a query found down, and of those that it names, whatever it is told next.
use Rattle.std.proofs.Common.{ℤ, Bool, true, false, cond, List, [], ◌∷◌, ◌++◌, drop, Option, Some, None, Result}
use Rattle.std.proofs.Common.{Ok, Err, sym, subst}
use Rattle.mixer.specs.declared.zone_answers.ZoneAnswer.{ZoneAnswer}
use Rattle.mon_meaning.specs.declared.meter.OverLimit.{OverLimit}
use Rattle.mon_topo.specs.Settings.{Setting}
use Rattle.mon_value.specs.declared.positions.FoundDown.{FoundDown}
use Rattle.mon_value.specs.declared.positions.Leaf.{Leaf}
use Rattle.mon_value.specs.declared.positions.Range.{Range}
use Rattle.mon_value.specs.declared.positions.RangeSlot.{RangeSlot}
use Rattle.mon_value.specs.declared.tables.Table.{Table}
use Rattle.query_traces.specs.Rounds.{read_at, unread_look, Round, next_range, round_of, with_slot, QuerySetting}
use Rattle.query_core.specs.Courses.{course_of, founds_in, is_entered, left, with_found, with_next_zone}
use Rattle.query_traces.specs.Founds.{found_down}
use Rattle.query_core.specs.Courses.{with_zone_answer}
use Rattle.query_traces.specs.Loadings.{is_whole, no_word, with_word}
use Rattle.query_core.specs.Mixtures.{Settles, TurnSettles, root_stage, zone_turn}
use Rattle.query_core.specs.Program as spec
use Rattle.query_core.specs.Program.{ask_of, let_some_in, next_zone}
use Rattle.query_traces.specs.TrueAnswers as truth
use Rattle.mon_topo.specs.Views.{View}
use Rattle.query_traces.specs.Visits as visit
use Rattle.query_traces.specs.Visits.{Visits, next_leaf, with_look}
use Rattle.query_traces.specs.declared.answers.Answer.{Answer}
use Rattle.query_traces.specs.declared.answers.RoundFault.{RoundFault}
use Rattle.query_traces.specs.declared.answers.RoundFault.TheVariants as fault
use Rattle.query_traces.specs.declared.areas.Area.{Area}
use Rattle.query_traces.specs.declared.asks.Told.{Told}
use Rattle.query_traces.specs.declared.asks.Told.TheVariants as told
use Rattle.query_core.specs.declared.courses.Course.{Course}
use Rattle.query_core.specs.declared.stages.Stage.{Stage}
use Rattle.query_core.specs.declared.stages.Stage.TheVariants as at
use Rattle.query_core.specs.declared.stages.Step.{Step}
use Rattle.query_core.specs.declared.stages.Step.TheVariants as step
use Rattle.query_core.specs.declared.stages.Turn.{Turn}
use Rattle.query_core.specs.declared.stages.Turn.TheVariants as turn

module _ (Has : List FoundDown → Type 0) (Named : Range → List FoundDown → Type 0) where
  abbrev pub EndHas : Result Answer RoundFault → Type 0
  EndHas (Ok answer) = Has answer.trace.down
  EndHas (Err (fault.NoReplica range named)) = Named range named
  EndHas (Err (fault.StepLimit limit trace)) = Has trace.down

  abbrev pub StageHas : Stage → Type 0
  StageHas (at.Rooting loading) = Has []
  StageHas (at.Entering course round loading) = Has course.founds
  StageHas (at.Resolving course round range) = Has course.founds
  StageHas (at.Reloading course round loading) = Has course.founds
  StageHas (at.Visiting course round visits leaf) = Has course.founds
  StageHas (at.Ended end) = EndHas end

  abbrev pub TurnHas : Turn → Type 0
  TurnHas (turn.Goes stage) = StageHas stage
  TurnHas (turn.Through course) = Has course.founds

  abbrev pub StepHas : Step → Type 0
  StepHas (step.Takes some) = TurnHas some
  StepHas (step.Gathered course parts) = Has course.founds

  -- what has to be so of a stage and of what it is told: a leaf more is found down, or a range is left without a replica
  abbrev pub HasThen : Stage → Told → Type 0
  HasThen (at.Visiting course round visits leaf) (told.Down cut) = Has (course.founds ++ found_down leaf cut ∷ [])
  HasThen (at.Resolving course round range) told.NoSlot = Named range (founds_in course round.area)
  HasThen stage answer = StageHas stage

  turn_by : (b : Bool) (x y : Turn) → TurnHas x → TurnHas y → TurnHas (cond b x y)
  turn_by true x y h k = h
  turn_by false x y h k = k

  step_by : (b : Bool) (x y : Step) → StepHas x → StepHas y → StepHas (cond b x y)
  step_by true x y h k = h
  step_by false x y h k = k

  next_has : (areas : List Area) (course : Course) → Has course.founds → TurnHas (next_zone areas course)
  next_has [] course h = h
  next_has (area ∷ areas) course h =
      turn_by (is_entered course) (turn.Goes (at.Entering (with_next_zone course) (round_of area) no_word))
      (next_zone areas (left (with_next_zone course) area course.seen)) h
      (next_has areas (left (with_next_zone course) area course.seen) h)

  resolving_by : (course : Course) (round : Round) (next : Option Range) → Has course.founds
      → StepHas (spec.resolving_at course round next)
  resolving_by course round (Some range) h = h
  resolving_by course round None h = h

  visiting_by : (course : Course) (round : Round) (visits : Visits) (next : Option Leaf) → Has course.founds
      → StepHas (spec.visiting_at course round visits next)
  visiting_by course round visits (Some leaf) h = h
  visiting_by course round visits None h = h

  root_has : (setting : QuerySetting) (course : Course) (mixed : Result Table OverLimit) → Has course.founds
      → StageHas (root_stage setting course mixed)
  root_has setting course (Ok table) h = h
  root_has setting course (Err over) h = h

  turn_settles : (setting : QuerySetting) (some : Turn) (new : Stage) → TurnHas some → TurnSettles setting some new
      → StageHas new
  turn_settles setting (turn.Goes stage) new h is = subst StageHas (sym is) h
  turn_settles setting (turn.Through course) new h is =
      subst StageHas (sym is.stage_is) (root_has setting course is.mixed h)

  zone_has : (setting : QuerySetting) (course : Course) (mixed : Result ZoneAnswer OverLimit) → Has course.founds
      → TurnHas (zone_turn setting course mixed)
  zone_has setting course (Ok answer) h =
      next_has (drop course.begun setting.areas) (with_zone_answer course answer) h
  zone_has setting course (Err over) h = h

  pub settles_has : (setting : QuerySetting) (some : Step) (new : Stage) → StepHas some → Settles setting some new
      → StageHas new
  settles_has setting (step.Takes some) new h is = turn_settles setting some new h is
  settles_has setting (step.Gathered course parts) new h is =
      turn_settles setting (zone_turn setting course is.mixed) new (zone_has setting course is.mixed h) is.settles

  module _ (store : Setting) (setting : QuerySetting) (moment : ℤ) (before after : View) (avoided : List Leaf)
      (slots : List RangeSlot) where
    pub told_has : (stage : Stage) (answer : Told) → HasThen stage answer
        → truth.IsTrueAnswer store setting moment before after avoided slots (ask_of setting stage) answer
        → StepHas (spec.after setting stage answer)
    told_has (at.Rooting loading) (told.Word word seen) h true_then =
        let next = with_word loading word seen in
        step_by (is_whole setting.plan next) (spec.on_from setting (course_of setting next))
        (spec.going (at.Rooting next)) (next_has (drop 0 setting.areas) (course_of setting next) h) h
    told_has (at.Entering course round loading) (told.Word word seen) h true_then =
        let next = with_word loading word seen in
        step_by (is_whole setting.plan next) (spec.opened_zone setting course round next)
        (spec.going (at.Entering course round next))
        (step_by (let_some_in setting round.area next) (spec.resolving course round)
        (spec.on_from setting (left course round.area next.seen)) (resolving_by course round (next_range round) h)
        (next_has (drop course.begun setting.areas) (left course round.area next.seen) h)) h
    told_has (at.Reloading course round loading) (told.Word word seen) h true_then =
        let next = with_word loading word seen in
        let visits = spec.begin_visits setting round next in
        step_by (is_whole setting.plan next) (spec.visiting course round visits)
        (spec.going (at.Reloading course round next)) (visiting_by course round visits (next_leaf visits) h) h
    told_has (at.Resolving course round range) (told.Slot slot leaf) h true_then =
        let next = with_slot round range slot leaf in resolving_by course next (next_range next) h
    told_has (at.Resolving course round range) told.NoSlot h true_then = h
    told_has (at.Visiting course round visits leaf) (told.Down cut) h true_then =
        let next = round_of round.area in resolving_by (with_found course leaf cut) next (next_range next) h
    told_has (at.Visiting course round visits leaf) (told.Unread cut) h true_then =
        let looked = with_look visits leaf (unread_look cut) in visiting_by course round looked (next_leaf looked) h
    told_has (at.Visiting course round visits leaf) (told.Read cut answer) h true_then =
        let looked = visit.with_leaf_answer (with_look visits leaf (read_at cut answer.sent)) answer in
        visiting_by course round looked (next_leaf looked) h
    told_has (at.Visiting course round visits leaf) (told.Over load cut) h true_then = h
    told_has (at.Rooting loading) answer h true_then = absurd true_then
    told_has (at.Entering course round loading) answer h true_then = absurd true_then
    told_has (at.Resolving course round range) answer h true_then = absurd true_then
    told_has (at.Reloading course round loading) answer h true_then = absurd true_then
    told_has (at.Visiting course round visits leaf) answer h true_then = absurd true_then
    told_has (at.Ended end) answer h true_then = absurd true_then
