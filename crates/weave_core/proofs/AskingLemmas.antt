-- A query that asks: what it asks of is there, and what follows of an answer.
use Rattle.std.proofs.Common.{◌≡◌, ◌∙◌, ◌≤ℤ◌, ℕ, pos, sym, ap, subst}
use Rattle.std.specs.Prelude.{◌≢◌, Some}
use Rattle.mon_config.specs.declared.config.Config.{Config}
use Rattle.query_traces.specs.AskedPlaces.{IsThere}
use Rattle.query_traces.specs.Askings.{IsAskedOf}
use Rattle.query_core.specs.Machine.{Query, slots_at}
use Rattle.query_core.specs.Mixtures.{MayBeTold}
use Rattle.query_core.specs.Program.{ask_of}
use Rattle.query_traces.specs.TrueAnswers.{IsSeenSo}
use Rattle.query_traces.specs.Rounds.{QuerySetting}
use Rattle.query_traces.specs.declared.asks.Ask.{Ask}
use Rattle.query_traces.specs.declared.asks.Told.{Told}
use Rattle.core_theory.proofs.ReaderAnswers.{reader_may, reader_there}
use Rattle.query_traces.proofs.SeenLemmas.{seen_told}
use Rattle.core_store.specs.Agreements.{AreShared}
use Rattle.core_theory.specs.Core.{Core, IsTold, Reader, asked_now, query_now, view_then, world_then}
use Rattle.core_theory.specs.Licensed.{IsReader}
use Rattle.query_traces.specs.SeenSights.{seen_of}
use Rattle.weave_core.specs.QueryTurns.{IsAnswered, IsAsking, QueryWaits}
use Rattle.mon_topo.specs.Sights.{sight_of}
use Rattle.weave_core.specs.States.{holder_for_query}
use Rattle.core_store.specs.Agreements.{store_of}
use Rattle.weave_core.specs.declared.queries.Querying.{Querying}
use Rattle.mon_topo.specs.declared.sights.Sight.{Sight}
use Rattle.core_store.specs.declared.store.Store.{Store}
use Rattle.write_core.specs.Invariant.{IsKept}
use Rattle.write_core.specs.World.{Actor, Stander, Stands, World}

module _ (config : Config) (core : Core (store_of config)) (k : ℕ) (store : Store) (querying : Querying) (sight : Sight)
    (asking : IsAsking config core k store querying sight) where
  abbrev reader : Reader (store_of config)
  reader = core.readers k

  abbrev world : World
  world = core.world

  abbrev query : Query
  query = query_now (store_of config) reader

  abbrev asked : QuerySetting
  asked = querying.machine.setting

  abbrev asks : Ask
  asks = ask_of querying.machine.setting querying.machine.stage

  kept : IsKept (store_of config) world
  kept = asking.woven.world

  own : IsReader (store_of config) world reader
  own = asking.woven.readers k

  pub asked_of : IsAskedOf (store_of config) reader.setting
  asked_of = subst (IsAskedOf (store_of config)) (sym asking.reader.setting) asking.reader.asked

  pub from : pos 0 ≤ℤ reader.moment
  from = subst (λ m. pos 0 ≤ℤ m) (sym asking.reader.moment) asking.reader.moment_lawful

  -- what it asks of
  asks_so : asked_now (store_of config) reader ≡ asks
  asks_so = λ i. ask_of (asking.reader.setting i) (asking.reader.now i).stage

  pub asks_then : (some : Ask) → asks ≡ some → asked_now (store_of config) reader ≡ some
  asks_then some e = asks_so ∙ e

  there : IsThere config.topology asks
  there =
      subst (IsThere config.topology) asks_so
      (reader_there (store_of config) world reader kept own asking.reader.first asked_of from)

  pub there_at : (some : Ask) → asks ≡ some → IsThere config.topology some
  there_at some e = subst (IsThere config.topology) e there

  pub may_tell : (answer : Told) → IsTold (store_of config) reader.setting reader.moment world reader.view query.avoided
      (slots_at query) (asked_now (store_of config) reader) answer
      → MayBeTold querying.machine.setting querying.machine.stage answer
  may_tell answer is =
      subst (λ (one : Query). MayBeTold asked one.stage answer) asking.reader.now
      (subst (λ (some : QuerySetting). MayBeTold some query.stage answer) asking.reader.setting
      (reader_may (store_of config) world reader kept own asking.reader.first asked_of from answer is))

  pub seen_here : IsSeenSo reader.view.seen (seen_of sight)
  seen_here =
      subst (λ (s : Sight). IsSeenSo reader.view.seen (seen_of s)) (sym asking.reader.seen)
      (seen_told config.schemas config.topology config.range_points reader.view.seen own.part.sound.held
      asking.reader.since
      asking.shared.served.replicas)

  -- ---- answers, by what is asked

  pub record AnsweredAt (some : Ask) (new : Store) (now : Sight) (answer : Told) : Type 0 where
    pub told : IsTold (store_of config) reader.setting reader.moment world reader.view query.avoided (slots_at query)
        some answer
    pub shared : AreShared config (world_then (store_of config) reader.setting reader.moment world reader.view some) new
    pub sight_is : now ≡ sight_of (view_then (store_of config) reader.setting reader.moment world reader.view some).seen

  pub answered : (some : Ask) → asks ≡ some → (new : Store) (now : Sight) (answer : Told) → AnsweredAt some new now
      answer
      → IsAnswered config core k new now answer
  answered some e new now answer so =
      let then = subst (λ (one : Ask). AnsweredAt one new now answer) (sym (asks_then some e)) so in
      record { told = then.told; shared = then.shared; sight_is = then.sight_is }

  -- someone else holds what is asked of
  pub not_mine : (Holds : Actor → Type 0) → ((stander : Stander) → Holds (Stands stander) → ⊥) → (other : ℕ)
      → Holds (world.actors other) → other ≢ k
  not_mine Holds never other holds same =
      never _ (subst Holds asking.stands (subst (λ (n : ℕ). Holds (world.actors n)) same holds))

  pub waits : (some : Ask) → asks ≡ some → (new : Store) (now : Sight) (other : ℕ)
      → holder_for_query world some ≡ Some other → other ≢ k → AreShared config world new → now ≡ sight
      → QueryWaits config core k new sight now
  waits some e new now other holds another shared seen = record {
    other = other;
    holds = ap (holder_for_query world) (asks_then some e) ∙ holds;
    another = another;
    shared = shared;
    sight_is = seen;
  }
