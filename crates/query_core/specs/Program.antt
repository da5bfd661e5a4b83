-- What a query does, one event after another, whatever it is told.
use Rattle.std.specs.Prelude.{ℕ, Bool, List, [], ◌∷◌, drop, Option, Some, None, Err, if◌then◌else◌}
use Rattle.std.specs.List.{list_any}
use Rattle.mon_fold.specs.declared.answers.LeafAnswer.{LeafAnswer}
use Rattle.mon_value.specs.declared.positions.Leaf.{Leaf}
use Rattle.mon_value.specs.declared.positions.Range.{Range}
use Rattle.mon_value.specs.declared.positions.Slot.{Slot}
use Rattle.query_traces.specs.declared.answers.RoundFault.{RoundFault}
use Rattle.query_traces.specs.declared.answers.RoundFault.TheVariants as fault
use Rattle.query_traces.specs.declared.areas.Area.{Area}
use Rattle.query_traces.specs.declared.asks.Ask.{Ask}
use Rattle.query_traces.specs.declared.asks.Ask.TheVariants as ask
use Rattle.query_traces.specs.declared.asks.Seen.{Seen}
use Rattle.query_traces.specs.declared.asks.Told.{Told}
use Rattle.query_traces.specs.declared.asks.Told.TheVariants as told
use Rattle.query_core.specs.declared.courses.Course.{Course}
use Rattle.query_traces.specs.declared.loadings.Loading.{Loading}
use Rattle.query_core.specs.declared.stages.Stage.{Stage}
use Rattle.query_core.specs.declared.stages.Stage.TheVariants as at
use Rattle.query_core.specs.declared.stages.Step.{Step}
use Rattle.query_core.specs.declared.stages.Step.TheVariants as step
use Rattle.query_core.specs.declared.stages.Turn.{Turn}
use Rattle.query_core.specs.declared.stages.Turn.TheVariants as turn
use Rattle.query_core.specs.Courses.{with_next_zone, with_zone_behind, course_of, cuts_seen, founds_in, is_entered}
use Rattle.query_core.specs.Courses.{left, trace_of}
use Rattle.query_core.specs.Courses.{with_found}
use Rattle.query_traces.specs.Loadings.{is_whole, next_bucket, no_word, with_word}
use Rattle.query_traces.specs.Rounds.{read_at, unread_look, Round, leaves_to_visit, next_range, round_of, with_slot}
use Rattle.query_traces.specs.Rounds.{QuerySetting}
use Rattle.plan_split.specs.Meeting.{let_in}
use Rattle.query_traces.specs.Visits.{Visits, gone_on, with_leaf_answer, with_look, next_leaf, visits_of}

-- ---- the next event

abbrev pub ask_of : QuerySetting → Stage → Ask
ask_of setting (at.Rooting loading) = ask.LoadRoot (next_bucket setting.plan loading)
ask_of setting (at.Entering course round loading) =
    ask.LoadZone round.area.zone (next_bucket setting.plan loading)
ask_of setting (at.Resolving course round range) = ask.Resolve range
ask_of setting (at.Reloading course round loading) =
    ask.LoadZone round.area.zone (next_bucket setting.plan loading)
ask_of setting (at.Visiting course round visits leaf) = ask.Visit leaf
ask_of setting (at.Ended end) = ask.Finished

-- the round that a zone's ranges are in
abbrev pub round_in : Stage → Option Round
round_in (at.Resolving course round range) = Some round
round_in (at.Reloading course round loading) = Some round
round_in (at.Visiting course round visits leaf) = Some round
round_in stage = None

-- ---- where it goes on

abbrev pub going : Stage → Step
going stage = step.Takes (turn.Goes stage)

abbrev pub refused_stage : RoundFault → Stage
refused_stage why = at.Ended (Err why)

-- the load is above the limit
abbrev pub stopped_stage : QuerySetting → Course → Stage
stopped_stage setting course = refused_stage (fault.StepLimit setting.limit (trace_of course))

-- at the words of the next zone that the root words let in; those before it are left out
abbrev pub next_zone : List Area → Course → Turn
next_zone [] course = turn.Through course
next_zone (area ∷ areas) course =
    if is_entered course then turn.Goes (at.Entering (with_next_zone course) (round_of area) no_word)
    else next_zone areas (left (with_next_zone course) area course.seen)

abbrev pub on_from : QuerySetting → Course → Step
on_from setting course = step.Takes (next_zone (drop course.begun setting.areas) course)

-- at the next range of the zone; once all have resolved, at the zone's words, which are loaded again
abbrev pub resolving_at : Course → Round → Option Range → Step
resolving_at course round (Some range) = going (at.Resolving course round range)
resolving_at course round None = going (at.Reloading course round no_word)

abbrev pub resolving : Course → Round → Step
resolving course round = resolving_at course round (next_range round)

-- the course of a query that is through with a zone
abbrev pub with_zone : Course → Round → Visits → Course
with_zone course round visits = with_zone_behind course round.resolved visits.looks

-- at the next leaf that is to be visited; once all were, the zone's answers are gathered
abbrev pub visiting_at : Course → Round → Visits → Option Leaf → Step
visiting_at course round visits (Some leaf) = going (at.Visiting course round (gone_on visits) leaf)
visiting_at course round visits None = step.Gathered (with_zone course round visits) visits.answers

abbrev pub visiting : Course → Round → Visits → Step
visiting course round visits = visiting_at course round visits (next_leaf visits)

-- ---- words

abbrev pub loaded_root : QuerySetting → Loading → Step
loaded_root setting loading =
    if is_whole setting.plan loading then on_from setting (course_of setting loading) else going (at.Rooting loading)

-- whether the words let some leaf of a zone in
abbrev pub let_some_in : QuerySetting → Area → Loading → Bool
let_some_in setting area loading = list_any (λ flag. flag) (let_in setting.plan loading.words area.leaves)

abbrev pub opened_zone : QuerySetting → Course → Round → Loading → Step
opened_zone setting course round loading =
    if let_some_in setting round.area loading then resolving course round
    else on_from setting (left course round.area loading.seen)

abbrev pub loaded_zone : QuerySetting → Course → Round → Loading → Step
loaded_zone setting course round loading =
    if is_whole setting.plan loading then opened_zone setting course round loading
    else going (at.Entering course round loading)

-- the leaves that are to be visited are known once the words were loaded again
abbrev pub begin_visits : QuerySetting → Round → Loading → Visits
begin_visits setting round loading =
    visits_of (leaves_to_visit round (let_in setting.plan loading.words round.area.leaves))
    round.area.first_leaf (cuts_seen loading.seen round.area)

abbrev pub loaded_again : QuerySetting → Course → Round → Loading → Step
loaded_again setting course round loading =
    if is_whole setting.plan loading then visiting course round (begin_visits setting round loading)
    else going (at.Reloading course round loading)

-- ---- what each answer makes of a stage

abbrev pub told_word : QuerySetting → Stage → ℕ → Seen → Step
told_word setting (at.Rooting loading) word seen = loaded_root setting (with_word loading word seen)
told_word setting (at.Entering course round loading) word seen =
    loaded_zone setting course round (with_word loading word seen)
told_word setting (at.Reloading course round loading) word seen =
    loaded_again setting course round (with_word loading word seen)
told_word setting stage word seen = going stage

abbrev pub told_slot : Stage → Slot → Leaf → Step
told_slot (at.Resolving course round range) slot leaf = resolving course (with_slot round range slot leaf)
told_slot stage slot leaf = going stage

-- no slot is left: the leaves of the zone that were found down are named
abbrev pub told_no_slot : Stage → Step
told_no_slot (at.Resolving course round range) =
    going (refused_stage (fault.NoReplica range (founds_in course round.area)))
told_no_slot stage = going stage

-- the zone begins again at its first range
abbrev pub told_down : Stage → ℕ → Step
told_down (at.Visiting course round visits leaf) cut =
    resolving (with_found course leaf cut) (round_of round.area)
told_down stage cut = going stage

abbrev pub told_unread : Stage → ℕ → Step
told_unread (at.Visiting course round visits leaf) cut = visiting course round (with_look visits leaf (unread_look cut))
told_unread stage cut = going stage

abbrev pub told_read : Stage → ℕ → LeafAnswer → Step
told_read (at.Visiting course round visits leaf) cut answer =
    visiting course round (with_leaf_answer (with_look visits leaf (read_at cut answer.sent)) answer)
told_read stage cut answer = going stage

abbrev pub told_over : QuerySetting → Stage → ℕ → Step
told_over setting (at.Visiting course round visits leaf) cut =
    going (stopped_stage setting (with_zone course round (with_look visits leaf (unread_look cut))))
told_over setting stage cut = going stage

abbrev pub after : QuerySetting → Stage → Told → Step
after setting stage (told.Word word seen) = told_word setting stage word seen
after setting stage (told.Slot slot leaf) = told_slot stage slot leaf
after setting stage told.NoSlot = told_no_slot stage
after setting stage (told.Down cut) = told_down stage cut
after setting stage (told.Unread cut) = told_unread stage cut
after setting stage (told.Read cut answer) = told_read stage cut answer
after setting stage (told.Over load cut) = told_over setting stage cut
