-- The session of a query: what it is told, and what its caller has seen and knows by then.
use Rattle.std.specs.Prelude.{ℤ, List, [], ◌∷◌}
use Rattle.mon_topo.specs.Settings.{Setting}
use Rattle.mon_topo.specs.Views.{IsSound, IsViewWithin, View}
use Rattle.query_traces.specs.declared.asks.Told.{Told}
use Rattle.query_core.specs.declared.stages.Stage.{Stage}
use Rattle.query_core.specs.Machine.{Query, avoided_after, slots_at}
use Rattle.query_core.specs.Mixtures.{Settles}
use Rattle.query_traces.specs.Rounds.{QuerySetting}
use Rattle.query_traces.specs.TrueAnswers.{IsTrueAnswer}
use Rattle.query_core.specs.Program.{after, ask_of}

module _ (store : Setting) (setting : QuerySetting) (moment : ℤ) where
  -- what the query is told, what its caller has seen and knows then, and the stage to which this leads
  pub record Event : Type 0 where
    pub answer : Told
    pub view : View
    pub stage : Stage

  abbrev pub told_then : Query → Event → Query
  told_then query event = record {
    setting = query.setting;
    avoided = avoided_after query.avoided query.stage event.answer;
    stage = event.stage;
  }

  -- one answer: true, of what is seen by more and more, and stays sound; and the query goes on by it
  pub record IsLicensedEvent (before : View) (query : Query) (event : Event) : Type 0 where
    pub grown : IsViewWithin before event.view
    pub sound : IsSound store event.view
    pub true_then : IsTrueAnswer store setting moment before event.view query.avoided (slots_at query)
        (ask_of setting query.stage) event.answer
    pub goes_on : Settles setting (after setting query.stage event.answer) event.stage

  -- a licensed session, from a query and what its caller has seen and knows
  abbrev pub IsLicensed : View → Query → List Event → Type 0
  IsLicensed before query [] = Unit {0}
  IsLicensed before query (event ∷ events) =
      IsLicensedEvent before query event × IsLicensed event.view (told_then query event) events

  -- how far the query is after a session, and what its caller has seen and knows
  abbrev pub query_after : Query → List Event → Query
  query_after query [] = query
  query_after query (event ∷ events) = query_after (told_then query event) events

  abbrev pub view_after : View → List Event → View
  view_after before [] = before
  view_after before (event ∷ events) = view_after event.view events
