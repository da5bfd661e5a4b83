-- The zones, ranges and leaves that a query asks of.
use Rattle.std.specs.Prelude.{◌<◌, List, length}
use Rattle.mon_topo.specs.Zones.{leaves_in, ranges_in}
use Rattle.mon_topo.specs.declared.zones.ZoneSpec.{ZoneSpec}
use Rattle.query_traces.specs.declared.asks.Ask.{Ask}
use Rattle.query_traces.specs.declared.asks.Ask.TheVariants as ask

-- what is asked of is there
abbrev pub IsThere : List ZoneSpec → Ask → Type 0
IsThere zones (ask.LoadRoot bucket) = Unit {0}
IsThere zones (ask.LoadZone zone bucket) = zone.0 < length zones
IsThere zones (ask.Resolve range) = range.0 < length (ranges_in zones)
IsThere zones (ask.Visit leaf) = leaf.0 < length (leaves_in zones)
IsThere zones ask.Finished = Unit {0}
