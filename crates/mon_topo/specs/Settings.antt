-- What a store is set up with.
use Rattle.std.specs.Prelude.{ℕ, List}
use Rattle.std.specs.List.{slice_index_or}
use Rattle.mon_value.specs.declared.positions.Leaf.{Leaf}
use Rattle.mon_value.specs.declared.positions.Zone.{Zone}
use Rattle.mon_value.specs.declared.rows.SeriesKey.{SeriesKey}
use Rattle.mon_schema.specs.Names.{SchemaLists}
use Rattle.mon_value.specs.Histories.{zone_numbered}
use Rattle.mon_topo.specs.Zones.{leaf_zones}
use Rattle.mon_topo.specs.declared.zones.ZoneSpec.{ZoneSpec}

-- the schemas, the zones, how many rows a range holds, and the hint buckets of each series
pub record Setting : Type 0 where
  pub held : SchemaLists
  pub zones : List ZoneSpec
  pub points : ℕ
  pub buckets_of : SeriesKey → List ℕ

abbrev pub zone_of_leaf : Setting → Leaf → Zone
zone_of_leaf setting leaf = slice_index_or (leaf_zones setting.zones) leaf.0 (zone_numbered 0)
