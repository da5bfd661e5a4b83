use Rattle.std.proofs.Common.{◌≡◌, ◌++◌, drop}
use Rattle.raise_table.specs.Places.{leaves_from, leaves_in}
use Rattle.raise_table.proofs.places.leaves_of_all.Given as goal

abbrev pub invariant-loop-count : goal.invariant-loop-count
invariant-loop-count l = (l.zone ≡ l.count-index) × (l.leaves ++ leaves_from l.zone (drop l.count-index l.zones)
    ≡ leaves_in l.zones)
