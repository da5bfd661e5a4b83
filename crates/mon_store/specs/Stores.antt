-- What a store is set up with, and that it has a cell for each leaf and each range.
use Rattle.std.specs.Prelude.{◌≡◌, ℕ, List, length}
use Rattle.std.specs.List.{range_with_len}
use Rattle.leaf_store.specs.LeafStates.{key_buckets}
use Rattle.mon_config.specs.Configs.{IsLimited}
use Rattle.mon_config.specs.declared.config.Config.{Config}
use Rattle.mon_topo.specs.Settings.{Setting}
use Rattle.mon_topo.specs.Zones.{leaves_in, ranges_in}
use Rattle.raise_table.specs.Tables.{RaiseIdentity}

-- what a configuration sets a store up with
abbrev pub setting_of : Config → Setting
setting_of config = record {
  held = config.schemas;
  zones = config.topology;
  points = config.range_points;
  buckets_of = key_buckets config.buckets config.schemas;
}

-- a store's name means this configuration
pub record IsSetUp (setting : Setting) (raise : RaiseIdentity) (config : Config) : Type 0 where
  pub setting_is : setting ≡ setting_of config
  pub buckets : raise.buckets ≡ config.buckets
  pub limited : IsLimited config

-- there is a cell for each leaf, in their order
abbrev pub AreLeafCells : Setting → List ℕ → Type 0
AreLeafCells setting cells = cells ≡ range_with_len 0 (length (leaves_in setting.zones))

-- and for each range
abbrev pub AreRangeCells : Setting → List ℕ → Type 0
AreRangeCells setting cells = cells ≡ range_with_len 0 (length (ranges_in setting.zones))
