-- What a licensed session keeps up to its last event.
use Rattle.std.proofs.Common.{◌≡◌, ℤ, List, [], ◌∷◌}
use Rattle.mon_topo.proofs.HeldLemmas.{seen_within_itself, seen_within_through}
use Rattle.mon_topo.specs.HeldHistories.{AreWithin}
use Rattle.mon_topo.specs.Settings.{Setting}
use Rattle.query_traces.specs.Rounds.{areas_of, QuerySetting}
use Rattle.query_core.specs.Machine.{Query, new_query}
use Rattle.query_core.specs.Sessions as session
use Rattle.mon_topo.specs.Views.{IsSound, View}
use Rattle.query_core.proofs.PartClaims.{StageParts}
use Rattle.query_core.proofs.SessionParts.{Keeps, session_parts}
use Rattle.query_core.proofs.UnreadLeaves.{TellsOf}

module _ (store : Setting) (setting : QuerySetting) (moment : ℤ) where
  -- what was seen at the end of a session is sound
  pub sound_then : (events : List (session.Event store setting moment)) (before : View) (query : Query)
      → IsSound store before
      → session.IsLicensed store setting moment before query events
      → IsSound store (session.view_after store setting moment before events)
  sound_then [] before query sound licensed = sound
  sound_then (event ∷ events) before query sound licensed =
      sound_then events event.view (session.told_then store setting moment query event) licensed.0.sound licensed.1

  -- and more than at its begin
  pub seen_since : (events : List (session.Event store setting moment)) (before : View) (query : Query)
      → session.IsLicensed store setting moment before query events
      → AreWithin before.seen (session.view_after store setting moment before events).seen
  seen_since [] before query licensed = seen_within_itself before.seen
  seen_since (event ∷ events) before query licensed =
      seen_within_through before.seen event.view.seen (session.view_after store setting moment event.view events).seen
      licensed.0.grown.seen
      (seen_since events event.view (session.told_then store setting moment query event) licensed.1)

  module _ (areas : setting.areas ≡ areas_of store.zones) (Also : View → Query → Type 0)
      (keeps : Keeps store setting moment (TellsOf setting) areas Also)
      (view : View) (events : List (session.Event store setting moment)) (sound : IsSound store view)
      (also : Also view (new_query setting))
      (licensed : session.IsLicensed store setting moment view (new_query setting) events) where
    abbrev exit : View
    exit = session.view_after store setting moment view events

    abbrev last : Query
    last = session.query_after store setting moment (new_query setting) events

    pub stage_last : StageParts store setting moment (TellsOf setting) exit.seen last.stage
    stage_last =
        session_parts store setting moment (TellsOf setting) areas Also keeps events view (new_query setting) sound
        also tt
        licensed
