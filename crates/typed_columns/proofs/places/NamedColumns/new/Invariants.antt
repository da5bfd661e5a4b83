-- The columns so far have their places.
use Rattle.std.proofs.Common.{take}
use Rattle.typed_columns.specs.NamedPlaces.{KnowsPlaces}
use Rattle.typed_columns.proofs.places.NamedColumns.new.Given as goal

abbrev pub invariant-loop-place : goal.invariant-loop-place
invariant-loop-place l = KnowsPlaces (take l.place l.columns) l.places
