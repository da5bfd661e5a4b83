-- the leaves so far are added, and none of them stood earlier
use Rattle.std.proofs.Common.{◌≡◌, ◌++◌, drop, length, take}
use Rattle.std.specs.Map.{keys_of}
use Rattle.mon_topo.specs.Faults.{repeated_at, first_at}
use Rattle.mon_topo.specs.Indexed.{numbered_texts}
use Rattle.mon_topo.specs.declared.places.Place.TheVariants as place
use Rattle.mon_topo.proofs.repeats.add_leaves.Given as goal

abbrev pub invariant-loop-j : goal.invariant-loop-j
invariant-loop-j l = (l.leaves ≡ l.fn.leaves ++ numbered_texts (length l.fn.leaves) (take l.j l.texts))
    × (first_at (repeated_at (place.Leaf l.i) (keys_of l.fn.leaves) l.texts) l.j (drop l.j l.texts)
    ≡ first_at (repeated_at (place.Leaf l.i) (keys_of l.fn.leaves) l.texts) 0 l.texts)
