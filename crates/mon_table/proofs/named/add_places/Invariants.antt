-- each name has the places of its columns so far
use Rattle.std.proofs.Common.{take}
use Rattle.mon_table.specs.NamedPlaces.{KnowsPlaces}
use Rattle.mon_table.proofs.named.add_places.Given as goal

abbrev pub invariant-loop-place : goal.invariant-loop-place
invariant-loop-place l = KnowsPlaces (take l.place l.columns) l.places
