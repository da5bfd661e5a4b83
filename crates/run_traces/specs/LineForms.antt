-- What lines of each form come to, and for which faults they may be refused, where a tick counts as the queries that it
-- asked.
use Rattle.std.specs.Prelude.{◌≡◌, ℤ}
use Rattle.run_traces.specs.LineSwitches.{DoneSuits, UndoneSuits}
use Rattle.run_traces.specs.RanLines.{RanLine}
use Rattle.run_traces.specs.declared.traces.LineFault.{LineFault}
use Rattle.run_traces.specs.declared.traces.LineFault.TheVariants as why
use Rattle.run_traces.specs.declared.traces.LineTrace.{LineTrace}
use Rattle.run_traces.specs.declared.traces.LineTrace.TheVariants as came
use Rattle.mon_script.specs.declared.controls.ControlForm.{ControlForm}
use Rattle.mon_script.specs.declared.forms.LineForm.{LineForm}
use Rattle.mon_script.specs.declared.forms.LineForm.TheVariants as form
use Rattle.mon_script.specs.declared.standing_lines.StandingLine.{StandingLine}
use Rattle.mon_script.specs.declared.standing_lines.StandingLine.TheVariants as line

-- a feed is never refused as a whole, and neither is a pour
abbrev pub IsFed : LineTrace → Type 0
IsFed (came.Fed pass accepted refused) = Unit {0}
IsFed other = ⊥

abbrev pub IsPoured : LineTrace → Type 0
IsPoured (came.Poured pass ends) = Unit {0}
IsPoured other = ⊥

-- a question comes to a table at the moment that it asks at, or it is refused
abbrev pub IsQuestionFault : LineFault → Type 0
IsQuestionFault (why.Question fault) = Unit {0}
IsQuestionFault other = ⊥

abbrev pub IsAnswered : ℤ → LineTrace → Type 0
IsAnswered moment (came.Asked at trace) = at ≡ moment
IsAnswered moment (came.Refused fault) = IsQuestionFault fault
IsAnswered moment other = ⊥

-- a query is followed from the moment that it is asked at, or the line is refused as a question is, or for its form
abbrev pub IsFollowFault : LineFault → Type 0
IsFollowFault (why.Question fault) = Unit {0}
IsFollowFault why.NotIncremental = Unit {0}
IsFollowFault other = ⊥

abbrev pub IsFollowed : ℤ → LineTrace → Type 0
IsFollowed moment (came.Followed at trace) = at ≡ moment
IsFollowed moment (came.Refused fault) = IsFollowFault fault
IsFollowed moment other = ⊥

-- a control is done, or refused, in its own way
abbrev pub IsUndone : ControlForm → LineFault → Type 0
IsUndone what (why.Control fault) = UndoneSuits what fault
IsUndone what other = ⊥

abbrev pub IsDone : ControlForm → LineTrace → Type 0
IsDone what (came.Controlled done) = DoneSuits what done
IsDone what (came.Refused fault) = IsUndone what fault
IsDone what other = ⊥

-- a query stands from then on, or the line is refused
abbrev pub IsStandingFault : LineFault → Type 0
IsStandingFault (why.Standing fault) = Unit {0}
IsStandingFault other = ⊥

abbrev pub IsStanding : LineTrace → Type 0
IsStanding (came.Refused fault) = IsStandingFault fault
IsStanding came.Done = Unit {0}
IsStanding other = ⊥

-- a moment isn't taken; where one is, the queries that were due stand in the line's place
abbrev pub IsDueFault : LineFault → Type 0
IsDueFault (why.Due fault) = Unit {0}
IsDueFault other = ⊥

abbrev pub IsNotTaken : LineTrace → Type 0
IsNotTaken (came.Refused fault) = IsDueFault fault
IsNotTaken other = ⊥

abbrev pub StandingSuits : StandingLine → LineTrace → Type 0
StandingSuits (line.Stand name period text) trace = IsStanding trace
StandingSuits (line.Tick moment) trace = IsNotTaken trace

-- nothing comes of a line that begins a block or ends it
abbrev pub IsIdle : LineTrace → Type 0
IsIdle came.Done = Unit {0}
IsIdle other = ⊥

abbrev pub Suits : LineForm → LineTrace → Type 0
Suits (form.Feed name) trace = IsFed trace
Suits (form.Pour first second) trace = IsPoured trace
Suits (form.Ask asked) trace = IsAnswered asked.moment trace
Suits (form.Follow moments text) trace = IsFollowed moments.first trace
Suits (form.Control what) trace = IsDone what trace
Suits (form.Standing what) trace = StandingSuits what trace
Suits (form.Block mark) trace = IsIdle trace

abbrev pub LineSuits : RanLine → Type 0
LineSuits line = Suits line.what line.trace
