-- A query that was told what the core tells it is as in the core after its event.
use Rattle.std.proofs.Common.{◌≡◌, ◌∙◌, ◌≤ℤ◌, ◌<◌, ℕ, ℤ, pos, List, [], ◌∷◌, ◌++◌, Result, refl, sym, ap, subst}
use Rattle.std.specs.Prelude.{Option, Some}
use Rattle.std.specs.List.{AllByRecursion}
use Rattle.mon_config.specs.declared.config.Config.{Config}
use Rattle.mon_topo.proofs.HeldLemmas.{seen_within_through}
use Rattle.mon_topo.specs.Settings.{Setting}
use Rattle.query_traces.specs.Askings.{IsAskedOf}
use Rattle.query_core.specs.Machine.{Query, avoided_after, slots_at}
use Rattle.query_core.specs.Mixtures.{Settles}
use Rattle.query_core.specs.Program.{after}
use Rattle.query_core.specs.Sessions as session
use Rattle.query_core.specs.Sessions.{query_after, told_then}
use Rattle.query_traces.specs.Rounds.{QuerySetting}
use Rattle.query_traces.specs.declared.answers.Answer.{Answer}
use Rattle.query_traces.specs.declared.answers.RoundFault.{RoundFault}
use Rattle.query_traces.specs.declared.asks.Told.{Told}
use Rattle.query_core.specs.declared.stages.Stage.{Stage}
use Rattle.query_core.specs.declared.stages.Stage.TheVariants as at
use Rattle.core_theory.proofs.CoreLemmas.{goes}
use Rattle.weave_core.specs.ActorAgreements.{IsReaderSo}
use Rattle.core_theory.specs.Core.{Core, Reader, Tells, asked_now, came, query_now, told_on, view_told}
use Rattle.mon_topo.specs.HeldHistories.{first_histories}
use Rattle.weave_core.specs.QueryTurns.{AnswersSo, IsAnswered, IsAsking, IsToldLast, IsToldOn, QueriesSo, QueryEnded}
use Rattle.weave_core.specs.QueryTurns.{QueryWent, TurnsBy}
use Rattle.mon_topo.specs.Sights.{sight_of}
use Rattle.core_store.specs.Agreements.{store_of}
use Rattle.weave_core.specs.declared.queries.QueryTurn.{QueryTurn}
use Rattle.weave_core.specs.declared.queries.QueryTurn.TheVariants as turn
use Rattle.weave_core.specs.declared.queries.Querying.{Querying}
use Rattle.mon_topo.specs.declared.sights.Sight.{Sight}
use Rattle.core_store.specs.declared.store.Store.{Store}
use Rattle.write_core.proofs.KeepsLemmas.{changed_same}

query_push : (store : Setting) (asked : QuerySetting) (moment : ℤ) (query : Query)
    (events : List (session.Event store asked moment)) (event : session.Event store asked moment)
    → query_after store asked moment query (events ++ event ∷ [])
    ≡ told_then store asked moment (query_after store asked moment query events) event
query_push store asked moment query [] event = refl
query_push store asked moment query (first ∷ events) event =
    query_push store asked moment (told_then store asked moment query first) events event

module _ (config : Config) (core : Core (store_of config)) (k : ℕ) (store : Store) (querying : Querying) (sight : Sight)
    (asking : IsAsking config core k store querying sight) (new : Store) (now : Sight) where
  abbrev reader : Reader (store_of config)
  reader = core.readers k

  abbrev query : Query
  query = query_now (store_of config) reader

  module _ (answer : Told) (is : IsAnswered config core k new now answer) where
    abbrev reader_at : Stage → Reader (store_of config)
    reader_at stage = told_on (store_of config) reader answer (view_told (store_of config) core.world reader) stage

    reader_then : (stage : Stage)
        → (came (store_of config) core (Tells k answer stage)).readers k ≡ reader_at stage
    reader_then stage = changed_same core.readers k (reader_at stage)

    query_then : (stage : Stage) → query_now (store_of config) (reader_at stage)
        ≡ record { setting = query.setting; avoided = avoided_after query.avoided query.stage answer; stage = stage }
    query_then stage =
        query_push (store_of config) reader.setting reader.moment reader.first reader.session
        (record { answer = answer; view = view_told (store_of config) core.world reader; stage = stage })

    settled : (stage : Stage)
        → Settles querying.machine.setting (after querying.machine.setting querying.machine.stage answer) stage
        → Settles reader.setting (after reader.setting query.stage answer) stage
    settled stage so =
        subst (λ (some : QuerySetting). Settles some (after some query.stage answer) stage) (sym asking.reader.setting)
        (subst (λ (one : Query). Settles querying.machine.setting (after querying.machine.setting one.stage answer)
        stage)
        (sym asking.reader.now) so)

    went : (next : Querying) → IsToldOn querying answer next → QueryWent config core k new next now
    went next on =
        let stage = next.machine.stage in
        let grown = (goes (store_of config) reader.setting reader.moment core.world reader.view asking.woven.world
        (asking.woven.readers k).part query.avoided (slots_at query) (asked_now (store_of config) reader) answer
        is.told).grown in
        let own_setting : query.setting ≡ next.machine.setting =
        ap (λ (one : Query). one.setting) asking.reader.now ∙ sym on.setting in
        let own_avoided : avoided_after query.avoided query.stage answer ≡ next.machine.avoided =
        ap (λ (one : Query). avoided_after one.avoided one.stage answer) asking.reader.now ∙ sym on.avoided in
        record {
          answer = answer;
          stage = stage;
          can = (is.told, settled stage on.settles);
          shared = is.shared;
          reader = subst (λ (one : Reader (store_of config)). IsReaderSo (store_of config) one next now)
              (sym (reader_then stage)) (record {
                asked = subst (IsAskedOf (store_of config)) (sym on.setting) asking.reader.asked;
                moment_lawful = subst (λ m. pos 0 ≤ℤ m) (sym on.moment) asking.reader.moment_lawful;
                setting = asking.reader.setting ∙ sym on.setting;
                moment = asking.reader.moment ∙ sym on.moment;
                first = asking.reader.first;
                now = query_then stage
                    ∙ (λ i. record { setting = own_setting i; avoided = own_avoided i; stage = next.machine.stage });
                since = seen_within_through (first_histories config.topology) reader.view.seen
                    (view_told (store_of config) core.world reader).seen asking.reader.since grown.seen;
                seen = is.sight_is;
              });
          planned = record {
            limit = ap (λ (some : QuerySetting). some.limit) on.setting ∙ asking.planned.limit;
            buckets = subst (λ (some : QuerySetting). AllByRecursion (λ (bucket : ℕ). bucket < config.buckets)
                some.plan.buckets)
                (sym on.setting) asking.planned.buckets;
          };
          goes_on = on.goes_on;
        }

    ended : (end : Result Answer RoundFault) → IsToldLast querying answer end → QueryEnded config core k new now end
    ended end last = record {
      answer = answer;
      can = (is.told, settled (at.Ended end) last.settles);
      shared = is.shared;
      stage_is = ap (λ (one : Reader (store_of config)). (query_now (store_of config) one).stage)
          (reader_then (at.Ended end))
          ∙ ap (λ (one : Query). one.stage) (query_then (at.Ended end));
      sight_is = is.sight_is
          ∙ ap (λ (one : Reader (store_of config)). sight_of one.view.seen) (sym (reader_then (at.Ended end)));
    }

    pub turns : (some : QueryTurn) → TurnsBy querying answer some → QueriesSo config core k querying new sight now some
    turns (turn.Went next) by = went next by
    turns (turn.Waits next) by = absurd by
    turns (turn.Ended end) by = ended end by

  pub answered_turns : (found : Option Told) (answer : Told) → found ≡ Some answer → AnswersSo config core k new sight
      now found
      → (some : QueryTurn) → TurnsBy querying answer some → QueriesSo config core k querying new sight now some
  answered_turns found answer e is some by =
      turns answer (subst (AnswersSo config core k new sight now) e is) some by
