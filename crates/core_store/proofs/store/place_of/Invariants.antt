-- the leaf is in none of the zones so far
use Rattle.std.proofs.Common.{◌≤◌}
use Rattle.mon_topo.specs.Zones.{first_leaf}
use Rattle.core_store.proofs.store.place_of.Given as goal

abbrev pub invariant-loop-zone : goal.invariant-loop-zone
invariant-loop-zone l = first_leaf l.topology l.zone ≤ l.leaf
