-- Whatever is so of each leaf that a session was told is down is so of each leaf that its end names.
use Rattle.std.proofs.Common.{◌≡◌, ℕ, ℤ, List, [], ◌∷◌, ◌++◌, Result, Ok, Err, subst}
use Rattle.std.specs.List.{AllByRecursion as All}
use Rattle.mon_topo.specs.Settings.{Setting}
use Rattle.mon_value.specs.declared.positions.FoundDown.{FoundDown}
use Rattle.mon_value.specs.declared.positions.Range.{Range}
use Rattle.std.specs.Prelude.{Contains}
use Rattle.mon_topo.proofs.RangeHistoryLemmas.{all_append, all_from}
use Rattle.query_traces.specs.Founds.{found_down}
use Rattle.query_traces.specs.declared.answers.RoundFault.TheVariants as fault
use Rattle.query_core.proofs.FoundsTold.{EndHas, HasThen, StageHas, settles_has, told_has}
use Rattle.query_core.specs.Machine.{Query, new_query, slots_at}
use Rattle.query_core.specs.Program.{after}
use Rattle.query_core.specs.Sessions as session
use Rattle.mon_topo.specs.Views.{View}
use Rattle.typed_rows.proofs.KeptRows.{all-filter}
use Rattle.query_traces.specs.Rounds.{has_leaf, QuerySetting}
use Rattle.query_core.specs.ToldDowns.{EndNames, down_told, downs_told}
use Rattle.query_traces.specs.declared.answers.Answer.{Answer}
use Rattle.query_traces.specs.declared.answers.RoundFault.{RoundFault}
use Rattle.query_traces.specs.declared.asks.Told.{Told}
use Rattle.query_traces.specs.declared.asks.Told.TheVariants as told
use Rattle.query_core.specs.declared.stages.Stage.{Stage}
use Rattle.query_core.specs.declared.stages.Stage.TheVariants as at
use Rattle.mon_value.proofs.PlainLemmas.{all_front, all_back}

module _ (Is : FoundDown → Type 0) where
  abbrev Named : Range → List FoundDown → Type 0
  Named range named = All Is named

  told_one : (stage : Stage) (answer : Told) → All Is (down_told stage answer) → StageHas (All Is) Named stage
      → HasThen (All Is) Named stage answer
  told_one (at.Visiting course round visits leaf) (told.Down cut) h so =
      all_append Is course.founds (found_down leaf cut ∷ []) so h
  told_one (at.Visiting course round visits leaf) (told.Word word seen) h so = so
  told_one (at.Visiting course round visits leaf) (told.Slot slot other) h so = so
  told_one (at.Visiting course round visits leaf) told.NoSlot h so = so
  told_one (at.Visiting course round visits leaf) (told.Unread cut) h so = so
  told_one (at.Visiting course round visits leaf) (told.Read cut answer) h so = so
  told_one (at.Visiting course round visits leaf) (told.Over load cut) h so = so
  told_one (at.Resolving course round range) told.NoSlot h so =
      all-filter Is (λ (found : FoundDown). has_leaf round.area found.leaf) course.founds so
  told_one (at.Resolving course round range) (told.Word word seen) h so = so
  told_one (at.Resolving course round range) (told.Slot slot other) h so = so
  told_one (at.Resolving course round range) (told.Down cut) h so = so
  told_one (at.Resolving course round range) (told.Unread cut) h so = so
  told_one (at.Resolving course round range) (told.Read cut answer) h so = so
  told_one (at.Resolving course round range) (told.Over load cut) h so = so
  told_one (at.Rooting loading) answer h so = so
  told_one (at.Entering course round loading) answer h so = so
  told_one (at.Reloading course round loading) answer h so = so
  told_one (at.Ended end) answer h so = so

  module _ (store : Setting) (setting : QuerySetting) (moment : ℤ) where
    session_down : (events : List (session.Event store setting moment)) (before : View) (query : Query)
        → StageHas (All Is) Named query.stage → All Is (downs_told store setting moment query events)
        → session.IsLicensed store setting moment before query events
        → StageHas (All Is) Named (session.query_after store setting moment query events).stage
    session_down [] before query h all licensed = h
    session_down (event ∷ events) before query h all licensed =
        let next = session.told_then store setting moment query event in
        let first = down_told query.stage event.answer in
        let rest = downs_told store setting moment next events in
        session_down events event.view next
        (settles_has (All Is) Named setting (after setting query.stage event.answer) event.stage
        (told_has (All Is) Named store setting moment before event.view query.avoided (slots_at query) query.stage
        event.answer (told_one query.stage event.answer (all_front Is first rest all) h) licensed.0.true_then)
        licensed.0.goes_on)
        (all_back Is first rest all) licensed.1

    end_names : (end : Result Answer RoundFault) → EndHas (All Is) Named end → EndNames Is end
    end_names (Ok answer) h = h
    end_names (Err (fault.NoReplica range named)) h = h
    end_names (Err (fault.StepLimit limit trace)) h = h

    pub named_told : (events : List (session.Event store setting moment)) (before : View)
        (end : Result Answer RoundFault) → All Is (downs_told store setting moment (new_query setting) events)
        → session.IsLicensed store setting moment before (new_query setting) events
        → (session.query_after store setting moment (new_query setting) events).stage ≡ at.Ended end → EndNames Is end
    named_told events before end all licensed ended =
        end_names end
        (subst (StageHas (All Is) Named) ended (session_down events before (new_query setting) tt all licensed))

-- each of them was told
pub named_among : (store : Setting) (setting : QuerySetting) (moment : ℤ) (before : View)
    (events : List (session.Event store setting moment)) (end : Result Answer RoundFault)
    → session.IsLicensed store setting moment before (new_query setting) events
    → (session.query_after store setting moment (new_query setting) events).stage ≡ at.Ended end
    → EndNames (Contains (downs_told store setting moment (new_query setting) events)) end
named_among store setting moment before events end licensed ended =
    let all = downs_told store setting moment (new_query setting) events in
    named_told (Contains all) store setting moment events before end (all_from (Contains all) all (λ x there. there))
    licensed ended
