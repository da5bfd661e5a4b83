-- the locations so far are added, and none of them stood earlier
use Rattle.std.proofs.Common.{◌≡◌, ◌++◌, drop, take}
use Rattle.std.specs.Map.{keys_of}
use Rattle.mon_topo.specs.Faults.{repeated_at, first_at}
use Rattle.mon_topo.specs.Indexed.{all_numbered}
use Rattle.mon_topo.specs.declared.places.Place.TheVariants as place
use Rattle.mon_topo.proofs.repeats.add_locations.Given as goal

abbrev pub invariant-loop-j : goal.invariant-loop-j
invariant-loop-j l = (l.locations ≡ l.fn.locations ++ all_numbered l.i (take l.j l.texts))
    × (first_at (repeated_at (place.Location l.i) (keys_of l.fn.locations) l.texts) l.j (drop l.j l.texts)
    ≡ first_at (repeated_at (place.Location l.i) (keys_of l.fn.locations) l.texts) 0 l.texts)
