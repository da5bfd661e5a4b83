-- the names of the ranges so far are added
use Rattle.std.proofs.Common.{◌≡◌, ◌++◌, ℕ, List, length, take}
use Rattle.mon_topo.specs.Indexed.{FindsPlaces}
use Rattle.mon_topo.specs.Zones.{names_from}
use Rattle.mon_topo.proofs.lists.add_range_names.Given as goal

abbrev pub invariant-loop-j : goal.invariant-loop-j
invariant-loop-j l = (before : List (List ℕ)) → length before ≡ l.first → FindsPlaces l.fn.names before
    → FindsPlaces l.names (before ++ names_from l.zone 0 (take l.j-counter l.ranges))
