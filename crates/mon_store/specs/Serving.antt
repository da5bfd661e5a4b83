-- Which replicas of a range a caller is told to serve.
use Rattle.std.specs.Prelude.{◌≡◌, List}
use Rattle.know.specs.Knowledge.{Knowledge}
use Rattle.mon_config.specs.declared.config.Config.{Config}
use Rattle.mon_topo.specs.RangeHistories.{serving}
use Rattle.mon_value.specs.declared.histories.RangeEntry.{RangeEntry}
use Rattle.mon_value.specs.declared.positions.Range.{Range}
use Rattle.mon_value.specs.declared.positions.SlotLeaf.{SlotLeaf}
use Rattle.mon_store.specs.Writes.{WasFoundSo}

-- The range was found with a history by which just these serve, in the order of their slots
pub record IsListed (config : Config) (range : Range) (before after : Knowledge) (told : List SlotLeaf) : Type 0 where
  pub history : List RangeEntry
  pub found : WasFoundSo config range history before after
  pub serve : serving history ≡ told
