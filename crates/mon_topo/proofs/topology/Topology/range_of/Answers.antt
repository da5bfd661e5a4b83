use Rattle.mon_topo.proofs.PlacedRangeLemmas.{last_below}
use Rattle.mon_topo.specs.Zones.{zone_at}
use Rattle.mon_topo.proofs.topology.Topology.range_of.Goals as goal

pub range_at-requires-clause-within : goal.range_at-requires-clause-within
range_at-requires-clause-within c =
    last_below c.args.target.now (zone_at c.args.self.now c.args.zone.0).ranges c.place_of-place.result
    c.place_of-place.ensures.last
