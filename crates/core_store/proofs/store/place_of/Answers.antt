use Rattle.std.proofs.Common.{◌-◌, ◌<◌, ◌≤◌, length, rules}
use Rattle.mon_topo.specs.Zones.{first_leaf, zone_at}
use Rattle.core_store.proofs.SeatingLemmas.{next_first, none_behind, zone_here}
use Rattle.core_store.proofs.store.place_of.Goals as goal

pub loop-zone-preserved : goal.loop-zone-preserved
loop-zone-preserved c =
    let zones = c.args.topology.now in
    let there : c.loop-zone.zone < length zones = search rules in
    let next = next_first zones c.loop-zone.zone there in
    let from = c.loop-zone.invariant in
    search rules

pub returns-then-place-count : goal.returns-then-place-count
returns-then-place-count c =
    let zones = c.args.topology.now in
    let there : c.loop-zone.zone < length zones = search rules in
    let within : c.args.leaf - first_leaf zones c.loop-zone.zone < length (zone_at zones c.loop-zone.zone).leaves =
    search rules in
    let here = zone_here zones c.loop-zone.zone c.args.leaf there c.loop-zone.invariant within in
    record { zone = here; place = search rules }

pub unreachable-requires : goal.unreachable-requires
unreachable-requires c =
    let zones = c.args.topology.now in
    let past : length zones ≤ c.loop-zone.zone = search rules in
    none_behind zones c.loop-zone.zone c.args.leaf past c.loop-zone.invariant c.requires.there
