-- the leaves so far and those of the names that are left are all
use Rattle.std.proofs.Common.{◌≡◌, ◌++◌, drop}
use Rattle.mon_topo.specs.Indexed.{leaves_found}
use Rattle.mon_topo.proofs.lists.leaves_found.Given as goal

abbrev pub invariant-loop-name : goal.invariant-loop-name
invariant-loop-name l = l.found ++ leaves_found l.leaves (drop l.name-index l.names) ≡ leaves_found l.leaves l.names
