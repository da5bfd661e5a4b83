-- What a store tells of what a query asks next is the answer that the core has.
use Rattle.std.proofs.Common.{◌≡◌, ℕ, ℤ, refl, sym, subst}
use Rattle.std.specs.Prelude.{Option, Some}
use Rattle.mon_config.specs.declared.config.Config.{Config}
use Rattle.mon_hints.specs.declared.places.Place.{Place}
use Rattle.mon_hints.specs.declared.places.Place.TheVariants as word
use Rattle.mon_topo.specs.declared.sights.Sight.{Sight}
use Rattle.query_core.specs.Machine.{Query}
use Rattle.query_core.specs.Program.{ask_of}
use Rattle.query_core.specs.Sides.{word_asked}
use Rattle.query_traces.specs.declared.asks.Told.{Told}
use Rattle.core_theory.specs.Core.{Core}
use Rattle.weave_core.proofs.WordAnswers.{root_answered, root_word_there, zone_answered, zone_there}
use Rattle.core_store.specs.HintWords.{HasWord, hint_word_at}
use Rattle.weave_core.specs.QueryLooks.{word_told}
use Rattle.weave_core.specs.QuerySides.{IsAskedThere, TellsThere, querying_of}
use Rattle.weave_core.specs.QueryTurns.{AnswersSo, IsAskedSomewhere, IsAsking}
use Rattle.core_store.specs.Agreements.{store_of}
use Rattle.weave_core.specs.declared.queries.Querying.{Querying}
use Rattle.core_store.specs.declared.store.Store.{Store}

-- ---- words

module _ (store : Store) (sight : Sight) (machine : Query) (moment : ℤ) (bucket : ℕ) where
  pub word_there : (place : Place) → IsAskedThere store sight machine moment (word_asked place bucket)
      → HasWord store.words place bucket
  word_there word.Root asked =
      let w = asked.somewhere in
      root_word_there w.config w.core w.k store (querying_of machine moment) sight w.asking bucket asked.asks
  word_there (word.Zone zone) asked =
      let w = asked.somewhere in
      zone_there w.config w.core w.k store (querying_of machine moment) sight w.asking zone bucket asked.asks

  pub word_so : (place : Place) → TellsThere store sight machine moment (word_asked place bucket)
      (Some (word_told (hint_word_at store.words place bucket) sight)) store sight
  word_so word.Root config core k asking e =
      root_answered config core k store (querying_of machine moment) sight asking bucket e
  word_so (word.Zone zone) config core k asking e =
      zone_answered config core k store (querying_of machine moment) sight asking zone bucket e

-- ---- the query's own ask

pub asked_there : (store : Store) (querying : Querying) (sight : Sight) (moment : ℤ) → moment ≡ querying.moment
    → IsAskedSomewhere store querying sight
    → IsAskedThere store sight querying.machine moment (ask_of querying.machine.setting querying.machine.stage)
asked_there store querying sight moment same some =
    subst (λ (m : ℤ). IsAskedThere store sight querying.machine m
    (ask_of querying.machine.setting querying.machine.stage)) (sym same) (record { somewhere = some; asks = refl })

module _ (config : Config) (core : Core (store_of config)) (k : ℕ) (store : Store) (querying : Querying) (sight : Sight)
    (asking : IsAsking config core k store querying sight) where
  pub told_so : (moment : ℤ) → moment ≡ querying.moment → (found : Option Told) (new : Store) (now : Sight)
      → TellsThere store sight querying.machine moment (ask_of querying.machine.setting querying.machine.stage) found
      new now → AnswersSo config core k new sight now found
  told_so moment same found new now tells =
      subst (λ (m : ℤ). TellsThere store sight querying.machine m
      (ask_of querying.machine.setting querying.machine.stage) found new now) same tells config core k asking refl
