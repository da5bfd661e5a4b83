-- How a query goes on once answers are mixed: those of a zone's leaves, or those of all zones.
use Rattle.std.specs.Prelude.{◌≡◌, ◌≤ℤ◌, ℤ, pos, List, [], ◌∷◌, ◌++◌, drop, Result, Ok, Err}
use Rattle.mixer.specs.Divisions.{IsDivided, all_rows}
use Rattle.mixer.specs.ZoneAnswers.{AllLeafParts, AllZoneParts, AreLeafParts, AreZoneParts, HasZoneParts, IsOverZone}
use Rattle.mixer.specs.ZoneAnswers.{IsZonePart}
use Rattle.mixer.specs.declared.zone_answers.ZoneAnswer.{ZoneAnswer}
use Rattle.mon_fold.specs.declared.answers.LeafAnswer.{LeafAnswer}
use Rattle.mon_meaning.specs.Central.{IsMeant, IsOver}
use Rattle.mon_meaning.specs.declared.meter.OverLimit.{OverLimit}
use Rattle.mon_value.specs.declared.rows.Row.{Row}
use Rattle.mon_value.specs.declared.tables.Table.{Table}
use Rattle.typed_trees.specs.Plans.{op_levels}
use Rattle.query_traces.specs.declared.answers.Answer.{Answer}
use Rattle.query_traces.specs.declared.asks.Told.{Told}
use Rattle.query_core.specs.declared.courses.Course.{Course}
use Rattle.query_core.specs.declared.stages.Stage.{Stage}
use Rattle.query_core.specs.declared.stages.Stage.TheVariants as at
use Rattle.query_core.specs.declared.stages.Step.{Step}
use Rattle.query_core.specs.declared.stages.Step.TheVariants as step
use Rattle.query_core.specs.declared.stages.Turn.{Turn}
use Rattle.query_core.specs.declared.stages.Turn.TheVariants as turn
use Rattle.query_core.specs.Courses.{with_zone_answer, trace_of}
use Rattle.query_core.specs.Program.{after, next_zone, stopped_stage}
use Rattle.query_traces.specs.Rounds.{QuerySetting, typed_of}

-- ---- answers that can be mixed

-- the answers of zones that are behind, and those of the leaves of one more, are over rows that are divided, of one
-- query at one moment
pub record HasParts (setting : QuerySetting) (answers : List ZoneAnswer) (parts : List LeafAnswer) : Type 0 where
  pub zones : List (List (List Row))
  pub leaves : List (List Row)
  pub moment : ℤ
  pub from : pos 0 ≤ℤ moment
  pub divided : IsDivided (typed_of setting) (zones ++ leaves ∷ [])
  pub of_zones : AllZoneParts (typed_of setting) zones moment setting.limit answers
  pub of_leaves : AllLeafParts (typed_of setting) leaves moment setting.limit parts

abbrev pub MayMixRoot : QuerySetting → Turn → Type 0
MayMixRoot setting (turn.Goes stage) = Unit {0}
MayMixRoot setting (turn.Through course) = HasZoneParts (typed_of setting) setting.limit course.answers

-- where a step leads to mixing, what is mixed are such answers
abbrev pub MayMix : QuerySetting → Step → Type 0
MayMix setting (step.Takes turn) = MayMixRoot setting turn
MayMix setting (step.Gathered course parts) = HasParts setting course.answers parts

-- ---- what mixing gives: the zone's part of the query, or its table, and else a load above the limit

abbrev pub ZoneMixes : QuerySetting → List (List Row) → ℤ → Result ZoneAnswer OverLimit → Type 0
ZoneMixes setting leaves moment (Ok answer) = IsZonePart (typed_of setting) leaves moment setting.limit answer
ZoneMixes setting leaves moment (Err over) = IsOverZone (typed_of setting) leaves moment setting.limit over

abbrev pub RootMixes : QuerySetting → List (List (List Row)) → ℤ → Result Table OverLimit → Type 0
RootMixes setting zones moment (Ok table) = IsMeant (typed_of setting) (all_rows zones) moment setting.limit table
RootMixes setting zones moment (Err over) = IsOver (typed_of setting) (all_rows zones) moment setting.limit over

-- ---- where the query goes on

abbrev pub answer_of : QuerySetting → Course → Table → Answer
answer_of setting course table = record {
  table = table;
  trace = trace_of course;
  levels = op_levels (typed_of setting);
}

-- it ends with its table, and else for its load
abbrev pub root_stage : QuerySetting → Course → Result Table OverLimit → Stage
root_stage setting course (Ok table) = at.Ended (Ok (answer_of setting course table))
root_stage setting course (Err over) = stopped_stage setting course

pub record IsRootMixed (setting : QuerySetting) (course : Course) (stage : Stage) : Type 0 where
  pub mixed : Result Table OverLimit
  pub mixes : (zones : List (List (List Row))) (moment : ℤ)
      → AreZoneParts (typed_of setting) zones moment setting.limit course.answers
      → RootMixes setting zones moment mixed
  pub stage_is : stage ≡ root_stage setting course mixed

abbrev pub TurnSettles : QuerySetting → Turn → Stage → Type 0
TurnSettles setting (turn.Goes stage) new = new ≡ stage
TurnSettles setting (turn.Through course) new = IsRootMixed setting course new

-- it keeps the zone's answer and goes on to the next zone, and else it ends for its load
abbrev pub zone_turn : QuerySetting → Course → Result ZoneAnswer OverLimit → Turn
zone_turn setting course (Ok answer) = next_zone (drop course.begun setting.areas) (with_zone_answer course answer)
zone_turn setting course (Err over) = turn.Goes (stopped_stage setting course)

pub record IsZoneMixed (setting : QuerySetting) (course : Course) (parts : List LeafAnswer) (stage : Stage)
    : Type 0 where
  pub mixed : Result ZoneAnswer OverLimit
  pub mixes : (leaves : List (List Row)) (moment : ℤ)
      → AreLeafParts (typed_of setting) leaves moment setting.limit parts
      → ZoneMixes setting leaves moment mixed
  pub settles : TurnSettles setting (zone_turn setting course mixed) stage

-- the stage to which a step leads, once what it gathered is mixed
abbrev pub Settles : QuerySetting → Step → Stage → Type 0
Settles setting (step.Takes turn) new = TurnSettles setting turn new
Settles setting (step.Gathered course parts) new = IsZoneMixed setting course parts new

-- ---- what an answer leads to

-- where the answer leads to mixing, what is mixed are answers that can be
pub record MayBeTold (setting : QuerySetting) (stage : Stage) (answer : Told) : Type 0 where
  pub may_mix : MayMix setting (after setting stage answer)

-- the stage to which it leads
pub record LeadsTo (setting : QuerySetting) (stage : Stage) (answer : Told) (new : Stage) : Type 0 where
  pub settles : Settles setting (after setting stage answer) new
