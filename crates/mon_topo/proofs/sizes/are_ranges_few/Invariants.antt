-- the ranges so far and those that are left to be had are the most
use Rattle.std.proofs.Common.{◌≡◌, ◌+◌, length, take}
use Rattle.mon_topo.specs.Zones.{ranges_in}
use Rattle.mon_topo.proofs.sizes.are_ranges_few.Given as goal

abbrev pub invariant-loop-zone : goal.invariant-loop-zone
invariant-loop-zone l = l.left + length (ranges_in (take l.zone-index l.zones)) ≡ 512
