-- the leaves so far and those that are left to be had are the most
use Rattle.std.proofs.Common.{◌≡◌, ◌+◌, length, take}
use Rattle.mon_topo.specs.Zones.{leaves_in}
use Rattle.mon_topo.proofs.sizes.are_leaves_few.Given as goal

abbrev pub invariant-loop-zone : goal.invariant-loop-zone
invariant-loop-zone l = l.left + length (leaves_in (take l.zone-index l.zones)) ≡ 64
