-- The configuration that a text spells, or the first of its faults, and what that prints as.
use Rattle.std.specs.Prelude.{ℕ, ◌≡◌, ◌<◌, ◌≤◌, ◌+◌, ◌^◌, nat_lt, List, [], ◌∷◌, ◌++◌, length, codes, Option, Some}
use Rattle.std.specs.Prelude.{None, Result, Ok, Err, if◌then◌else◌}
use Rattle.std.specs.Option.{ok_or}
use Rattle.std.specs.Str.{is_utf8}
use Rattle.serde_json.specs.Data.{Data}
use Rattle.serde_json.specs.Read.{read}
use Rattle.mon_value.specs.Answers.{◌>>=◌}
use Rattle.mon_value.specs.declared.limits.TheConstants.{MOST_BUCKETS, ROW_BITS}
use Rattle.mon_value.specs.declared.schemas.TargetSchema.{TargetSchema}
use Rattle.mon_value.specs.declared.schemas.MetricSchema.{MetricSchema}
use Rattle.mon_schema.specs.Faults.{target_fault, metric_fault, schema_fault_text}
use Rattle.mon_schema.specs.Names.{SchemaLists, no_schemas, with_target, with_metric}
use Rattle.mon_schema.specs.declared.faults.SchemaFault.{SchemaFault}
use Rattle.mon_topo.specs.Faults.{topology_fault, topo_kind_text}
use Rattle.mon_topo.specs.declared.faults.TopoFault.{TopoFault}
use Rattle.mon_topo.specs.declared.zones.ZoneSpec.{ZoneSpec}
use Rattle.mon_topo.specs.Locations.{range_for}
use Rattle.mon_value.specs.declared.positions.Range.{Range}
use Rattle.mon_value.specs.declared.rows.SeriesKey.{SeriesKey}
use Rattle.mon_config.specs.declared.config.Config.{Config}
use Rattle.mon_config.specs.declared.faults.ConfigFault.{ConfigFault}
use Rattle.mon_config.specs.declared.faults.ConfigFault.TheVariants as fault
use Rattle.mon_config.specs.declared.parts.Parts.{Parts}
use Rattle.mon_config.specs.Objects.{parts_in, through_key, through_index}
use Rattle.mon_config.specs.declared.limits.TheConstants.{LONGEST_CONFIGURATION}

-- The configuration that a text spells, or the first of its faults.

-- the data that a text spells
abbrev pub data_in : List ℕ → Option Data
data_in text = if is_utf8 text then read text else None

-- a text of at most 1 MiB that is JSON
abbrev pub json_in : List ℕ → Result Data ConfigFault
json_in text =
    if nat_lt LONGEST_CONFIGURATION (length text) then Err fault.TooLong else ok_or (data_in text) fault.NotJson

-- a fault of shape has its path from the top
abbrev pub from_top : {T : Type 0} → Result T (List ℕ) → Result T ConfigFault
from_top (Ok x) = Ok x
from_top (Err path) = Err (fault.Shape (codes "$" ++ path))

-- a schema that is refused has the path of its element
abbrev pub schema_at : List ℕ → ℕ → SchemaFault → ConfigFault
schema_at key i refused = fault.Schema refused (codes "$" ++ through_key key (through_index i []))

-- the schemas with one target more, the one at the place i, unless it has a fault
abbrev pub target_added : ℕ → SchemaLists → TargetSchema → Option SchemaFault → Result SchemaLists ConfigFault
target_added i held target None = Ok (with_target held target)
target_added i held target (Some refused) = Err (schema_at (codes "targets") i refused)

-- the schemas with the targets from the place i on, one after another
abbrev pub with_targets : ℕ → SchemaLists → List TargetSchema → Result SchemaLists ConfigFault
with_targets i held [] = Ok held
with_targets i held (target ∷ targets) =
    target_added i held target (target_fault held target) >>= λ more. with_targets (i + 1) more targets

-- the same with one metric more
abbrev pub metric_added : ℕ → SchemaLists → MetricSchema → Option SchemaFault → Result SchemaLists ConfigFault
metric_added i held metric None = Ok (with_metric held metric)
metric_added i held metric (Some refused) = Err (schema_at (codes "metrics") i refused)

-- the schemas with the metrics from the place i on, one after another
abbrev pub with_metrics : ℕ → SchemaLists → List MetricSchema → Result SchemaLists ConfigFault
with_metrics i held [] = Ok held
with_metrics i held (metric ∷ metrics) =
    metric_added i held metric (metric_fault held metric) >>= λ more. with_metrics (i + 1) more metrics

-- the zones, unless they have a fault
abbrev pub zones_or : List ZoneSpec → Option TopoFault → Result (List ZoneSpec) ConfigFault
zones_or zones None = Ok zones
zones_or zones (Some refused) = Err (fault.Topology refused.kind refused.path)

-- the topology of zones
abbrev pub topology_of : SchemaLists → List ZoneSpec → Result (List ZoneSpec) ConfigFault
topology_of held zones = zones_or zones (topology_fault held zones)

-- the schemas are held, first the targets, and then the zones are a topology
unfoldable pub config_of : Parts → Result Config ConfigFault
config_of parts = do
  targets ← with_targets 0 no_schemas parts.targets
  schemas ← with_metrics 0 targets parts.metrics
  topology ← topology_of schemas parts.zones
  Ok (record {
    schemas = schemas;
    topology = topology;
    buckets = parts.buckets;
    limit = parts.limit;
    range_points = parts.range_points;
  })

-- a configuration has the numbers of its parts
abbrev pub KeepsNumbers : Parts → Config → Type 0
KeepsNumbers parts config =
    (config.buckets ≡ parts.buckets) × (config.limit ≡ parts.limit) × (config.range_points ≡ parts.range_points)

-- the configuration that a text spells
unfoldable pub config_in : List ℕ → Result Config ConfigFault
config_in text = do
  data' ← json_in text
  parts ← from_top (parts_in data')
  config_of parts

-- the limit of a query's load is no greater than a table may have rows, and there are some buckets, but not too many
pub record IsLimited (config : Config) : Type 0 where
  pub limit : config.limit ≤ 2 ^ ROW_BITS
  pub some : 0 < config.buckets
  pub most : config.buckets ≤ MOST_BUCKETS

-- What a refused configuration prints as.

abbrev pub config_fault_text : ConfigFault → List ℕ
config_fault_text fault.TooLong = codes "TooLong"
config_fault_text fault.NotJson = codes "NotJson"
config_fault_text (fault.Shape path) = codes "Shape " ++ path
config_fault_text (fault.Schema refused path) = codes "Schema " ++ (schema_fault_text refused ++ (codes " " ++ path))
config_fault_text (fault.Topology kind path) = codes "Topology " ++ (topo_kind_text kind ++ (codes " " ++ path))

-- The range that a series' target lies in.

-- there is none where no zone lists the target's location
abbrev pub range_of_key : Config → SeriesKey → Option Range
range_of_key config key = range_for config.schemas config.topology key.target
