use Rattle.std.proofs.Common.{◌≡◌, ◌++◌}
use Rattle.raise_table.specs.Places.{leaves_of_zone}
use Rattle.raise_table.proofs.places.push_zone.Given as goal

abbrev pub invariant-loop-child : goal.invariant-loop-child
invariant-loop-child l = l.leaves ≡ l.fn.leaves ++ leaves_of_zone l.zone.0 l.child
