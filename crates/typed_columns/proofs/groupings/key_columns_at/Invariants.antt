-- What was made, in front of what is left.
use Rattle.std.proofs.Common.{◌≡◌, ◌++◌, drop}
use Rattle.typed_trees.specs.Groupings.{key_columns_at}
use Rattle.typed_columns.proofs.groupings.key_columns_at.Given as goal

abbrev pub invariant-loop-place : goal.invariant-loop-place
invariant-loop-place l =
    l.keys ++ key_columns_at l.columns (drop l.place-index l.places) ≡ key_columns_at l.columns l.places
