-- What a store is asked for a query, and what it tells of that: its actors are one kind of side that a query may ask.
use Rattle.std.specs.Prelude.{ℕ, ℤ, ◌≡◌, Option}
use Rattle.mon_config.specs.declared.config.Config.{Config}
use Rattle.mon_topo.specs.declared.sights.Sight.{Sight}
use Rattle.query_core.specs.Machine.{Query}
use Rattle.query_core.specs.Program.{ask_of}
use Rattle.query_traces.specs.declared.asks.Ask.{Ask}
use Rattle.query_traces.specs.declared.asks.Told.{Told}
use Rattle.core_theory.specs.Core.{Core}
use Rattle.weave_core.specs.QueryTurns.{AnswersSo, IsAskedSomewhere, IsAsking}
use Rattle.core_store.specs.Agreements.{store_of}
use Rattle.weave_core.specs.declared.queries.Querying.{Querying}
use Rattle.core_store.specs.declared.store.Store.{Store}

abbrev pub querying_of : Query → ℤ → Querying
querying_of machine moment = record { moment = moment; machine = machine }

-- the store, the query and its caller's sight are as in some core, and this is what the query asks next
pub record IsAskedThere (store : Store) (sight : Sight) (machine : Query) (moment : ℤ) (some : Ask) : Type 0 where
  pub somewhere : IsAskedSomewhere store (querying_of machine moment) sight
  pub asks : ask_of machine.setting machine.stage ≡ some

-- as in whichever core they are, what is found is the answer that its next event has there, or someone else is in its
-- way
abbrev pub TellsThere : Store → Sight → Query → ℤ → Ask → Option Told → Store → Sight → Type 0
TellsThere store sight machine moment some found new now =
    (config : Config) (core : Core (store_of config)) (k : ℕ)
    → IsAsking config core k store (querying_of machine moment) sight
    → ask_of machine.setting machine.stage ≡ some → AnswersSo config core k new sight now found
