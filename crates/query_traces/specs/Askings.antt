-- A query that is asked of a store.
use Rattle.std.specs.Prelude.{◌≡◌, ◌<◌, ℕ, length, map, Some, Ok}
use Rattle.mon_hints.specs.Formulas.{all_named, formula_tree, formulas, IsListing}
use Rattle.mon_hints.specs.Hints.{series_buckets}
use Rattle.mon_schema.specs.Fits.{AreMetricsHeld, AllTellLocations}
use Rattle.mon_schema.specs.Names.{metric_named, target_named}
use Rattle.mon_topo.specs.Faults.{AreLawfulZones}
use Rattle.mon_topo.specs.Replicas.{HasReplicas}
use Rattle.mon_topo.specs.Settings.{Setting}
use Rattle.mon_value.specs.Histories.{range_numbered}
use Rattle.mon_topo.specs.Zones.{ranges_in}
use Rattle.mon_value.specs.declared.rows.SeriesKey.{SeriesKey}
use Rattle.mon_value.specs.declared.schemas.MetricSchema.{MetricSchema}
use Rattle.mon_value.specs.declared.schemas.TargetSchema.{TargetSchema}
use Rattle.mql_ast.specs.Trees.{PipeTree}
use Rattle.typed_trees.specs.Times.{HasDurations}
use Rattle.typed_trees.specs.Plans.{fetches}
use Rattle.typed_trees.specs.Soundness.{IsPipeSpelled}
use Rattle.typed_trees.specs.Typing.{typing}
use Rattle.plan_split.specs.Meeting.{AllHoldWhereMet}
use Rattle.query_traces.specs.Rounds.{areas_of, QuerySetting, typed_of}

-- the zones of the store, and the plan of a query that has a type over its schemas: a formula for each fetch, which
-- holds of the buckets of every series that meets it
pub record IsAskedOf (store : Setting) (setting : QuerySetting) : Type 0 where
  pub lawful : AreLawfulZones store.zones
  pub replicas : (range : ℕ) → range < length (ranges_in store.zones) → HasReplicas store.zones (range_numbered range)
  pub areas : setting.areas ≡ areas_of store.zones
  pub metrics : AreMetricsHeld store.held.metrics
  pub targets : AllTellLocations store.held.targets
  pub query : PipeTree
  pub spelled : IsPipeSpelled query
  pub durations : HasDurations query
  pub typed : typing store.held query ≡ Ok (typed_of setting)
  pub buckets : ℕ
  pub hinted : (target : TargetSchema) (metric : MetricSchema) (key : SeriesKey)
      → target_named key.target.schema store.held.targets ≡ Some target
      → metric_named key.metric store.held.metrics ≡ Some metric
      → store.buckets_of key ≡ series_buckets buckets target metric key
  pub promise : AllHoldWhereMet store.held buckets (fetches (typed_of setting).tree)
      (map formula_tree setting.plan.formulas)
  pub listed : IsListing (all_named (formulas (map formula_tree setting.plan.formulas))) setting.plan.buckets
