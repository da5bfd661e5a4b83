-- What lines of a schedule lead to, and what holds of a query there.
use Rattle.std.specs.Prelude.{ℕ, ◌≡◌, List, [], ◌∷◌, None, Ok, Err}
use Rattle.mon_config.specs.declared.config.Config.{Config}
use Rattle.mon_value.specs.declared.positions.FoundDown.{FoundDown}
use Rattle.mon_value.specs.declared.positions.Range.{Range}
use Rattle.query_traces.specs.Answers.{IsAnsweredRightly, IsStoppedRightly}
use Rattle.query_traces.specs.Founds.{HasNoReplica}
use Rattle.query_core.specs.Machine.{new_query}
use Rattle.query_core.specs.ToldDowns.{downs_told}
use Rattle.query_traces.specs.declared.answers.Answer.{Answer}
use Rattle.query_traces.specs.declared.answers.RoundFault.TheVariants as fault
use Rattle.query_traces.specs.declared.answers.Trace.{Trace}
use Rattle.query_core.specs.declared.stages.Stage.TheVariants as at
use Rattle.core_theory.specs.Core.{Reader, query_now}
use Rattle.schedule_lines.specs.LawfulLines.{IsLawfulForm}
use Rattle.weave_core.specs.Schedules.{Does, line_fault}
use Rattle.weave_core.specs.States.{State}
use Rattle.core_store.specs.Agreements.{store_of}
use Rattle.schedule_lines.specs.declared.lines.LineForm.{LineForm}

module _ (config : Config) where
  -- a line that is not refused leads from one state to another
  pub record LeadsBy (from : State (store_of config)) (what : LineForm) (to : State (store_of config)) : Type 0 where
    pub lawful : IsLawfulForm config.schemas config.topology what
    pub fault : line_fault (store_of config) from what ≡ None
    pub said : List ℕ
    pub does : Does config from what said to

  -- lines, one after another
  abbrev pub LinesLead : State (store_of config) → List LineForm → State (store_of config) → Type 0
  LinesLead from [] to = to ≡ from
  LinesLead from (what ∷ lines) to = (mid : State (store_of config)) × LeadsBy from what mid × LinesLead mid lines to

  -- a query that has ended with this table
  abbrev pub HasAnswered : Reader (store_of config) → Answer → Type 0
  HasAnswered reader answer = (query_now (store_of config) reader).stage ≡ at.Ended (Ok answer)

  -- its table is what it means over the rows of its trace, which is of the histories that it had seen
  abbrev pub AnsweredRightly : Reader (store_of config) → Answer → Type 0
  AnsweredRightly reader answer =
      IsAnsweredRightly (store_of config) reader.setting reader.moment reader.begin.seen reader.view.seen answer

  -- and one that has stopped for its load
  abbrev pub HasStoppedSo : Reader (store_of config) → ℕ → Trace → Type 0
  HasStoppedSo reader limit trace =
      (query_now (store_of config) reader).stage ≡ at.Ended (Err (fault.StepLimit limit trace))

  abbrev pub StoppedRightly : Reader (store_of config) → ℕ → Trace → Type 0
  StoppedRightly reader limit trace =
      IsStoppedRightly (store_of config) reader.setting reader.moment reader.begin.seen reader.view.seen limit trace

  -- and one that has ended because a range has no replica
  abbrev pub HasFoundNone : Reader (store_of config) → Range → List FoundDown → Type 0
  HasFoundNone reader range named =
      (query_now (store_of config) reader).stage ≡ at.Ended (Err (fault.NoReplica range named))

  abbrev pub FoundNoneRightly : Reader (store_of config) → Range → List FoundDown → Type 0
  FoundNoneRightly reader range named = HasNoReplica config.topology reader.begin.seen reader.view.seen range named

  -- the leaves that a query was told are down, with their cuts
  abbrev pub downs_heard : Reader (store_of config) → List FoundDown
  downs_heard reader =
      downs_told (store_of config) reader.setting reader.moment (new_query reader.setting) reader.session
