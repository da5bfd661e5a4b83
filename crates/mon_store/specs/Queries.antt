-- How a query's text ends, and what its caller has then.
use Rattle.std.specs.Prelude.{◌≡◌, ◌<◌, ◌^◌, ℕ, ℤ, List, length, Result, Ok, Err}
use Rattle.know.specs.Knowledge.{Knowledge}
use Rattle.mon_config.specs.Configs.{IsLimited}
use Rattle.mon_config.specs.declared.config.Config.{Config}
use Rattle.mon_schema.specs.Fits.{AreMetricsHeld, AllTellLocations}
use Rattle.mon_store.specs.Stores.{setting_of}
use Rattle.mon_store.specs.declared.queries.QueryFault.{QueryFault}
use Rattle.mon_store.specs.declared.queries.QueryFault.TheVariants as fault
use Rattle.mon_topo.specs.Faults.{AreLawfulZones}
use Rattle.mon_topo.specs.Replicas.{HasReplicas}
use Rattle.mon_topo.specs.Settings.{Setting}
use Rattle.mon_topo.specs.Zones.{ranges_in}
use Rattle.mon_value.specs.Histories.{range_numbered}
use Rattle.query_traces.specs.Rounds.{areas_of, QuerySetting, typed_of}
use Rattle.query_traces.specs.declared.answers.Answer.{Answer}
use Rattle.query_traces.specs.declared.answers.RoundFault.{RoundFault}
use Rattle.query_traces.specs.declared.answers.RoundFault.TheVariants as round
use Rattle.query_traces.specs.declared.areas.Area.{Area}
use Rattle.query_texts.specs.TextTypes.{IsPlanOver, text_type}
use Rattle.query_texts.specs.declared.faults.TextFault.TheVariants as text_fault
use Rattle.running_query.specs.Ends.{EndsRightly}

-- what is known of a configuration: its zones are lawful and have their replicas, and its schemas are held
pub record IsServed (config : Config) : Type 0 where
  pub limited : IsLimited config
  pub lawful : AreLawfulZones config.topology
  pub replicas : (range : ℕ) → range < length (ranges_in config.topology)
      → HasReplicas config.topology (range_numbered range)
  pub metrics : AreMetricsHeld config.schemas.metrics
  pub targets : AllTellLocations config.schemas.targets
  pub few : length (ranges_in config.topology) < 2 ^ 32

-- a text's plan over a configuration, with its zones, and a limit of its load
pub record IsSettingOf (config : Config) (text : List ℕ) (limit : ℕ) (setting : QuerySetting) : Type 0 where
  pub typed : text_type config.schemas text ≡ Ok (typed_of setting)
  pub plan : IsPlanOver config.schemas config.buckets setting.plan
  pub areas : setting.areas ≡ areas_of config.topology
  pub limit_is : setting.limit ≡ limit

module _ (config : Config) (text : List ℕ) (moment : ℤ) (limit : ℕ) (before after : Knowledge) where
  -- the text has a type, and its plan's query ended so
  pub record IsEnded (end : Result Answer RoundFault) : Type 0 where
    pub setting : QuerySetting
    pub of_text : IsSettingOf config text limit setting
    pub ends : EndsRightly (setting_of config) setting moment before after end

  -- a text that no tree spells, or whose tree has no type, is refused for that; each other one ends as its query does
  abbrev pub IsQueried : Result Answer QueryFault → Type 0
  IsQueried (Ok answer) = IsEnded (Ok answer)
  IsQueried (Err (fault.Parse why)) = text_type config.schemas text ≡ Err (text_fault.Parse why)
  IsQueried (Err (fault.Typing why)) = text_type config.schemas text ≡ Err (text_fault.Typing why)
  IsQueried (Err (fault.NoReplica range named)) = IsEnded (Err (round.NoReplica range named))
  IsQueried (Err (fault.StepLimit most trace)) = IsEnded (Err (round.StepLimit most trace))
  IsQueried (Err fault.OutOfMemory) = Unit {0}

-- ---- on the way

abbrev pub areas_in : Config → List Area
areas_in config = areas_of config.topology

-- an end, as it is told
abbrev pub IsToldAs : {F : Type 0} → Result (Result Answer RoundFault) F → Result Answer QueryFault → Type 0
IsToldAs (Ok (Ok answer)) result = result ≡ Ok answer
IsToldAs (Ok (Err (round.NoReplica range named))) result = result ≡ Err (fault.NoReplica range named)
IsToldAs (Ok (Err (round.StepLimit most trace))) result = result ≡ Err (fault.StepLimit most trace)
IsToldAs (Err why) result = result ≡ Err fault.OutOfMemory

-- a query ended so, unless memory ran out
abbrev pub EndsIf : Setting → QuerySetting → ℤ → Knowledge → Knowledge → Result Answer QueryFault → Type 0
EndsIf store setting moment before after (Ok answer) = EndsRightly store setting moment before after (Ok answer)
EndsIf store setting moment before after (Err (fault.Parse why)) = ⊥
EndsIf store setting moment before after (Err (fault.Typing why)) = ⊥
EndsIf store setting moment before after (Err (fault.NoReplica range named)) =
    EndsRightly store setting moment before after (Err (round.NoReplica range named))
EndsIf store setting moment before after (Err (fault.StepLimit most trace)) =
    EndsRightly store setting moment before after (Err (round.StepLimit most trace))
EndsIf store setting moment before after (Err fault.OutOfMemory) = Unit {0}
