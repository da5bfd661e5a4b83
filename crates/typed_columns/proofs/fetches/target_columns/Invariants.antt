-- What was made, in front of what is left.
use Rattle.std.proofs.Common.{◌≡◌, ◌++◌, drop}
use Rattle.typed_trees.specs.Fetches.{target_columns}
use Rattle.typed_columns.proofs.fetches.target_columns.Given as goal

abbrev pub invariant-loop-place : goal.invariant-loop-place
invariant-loop-place l =
    l.columns ++ target_columns l.schema l.place (drop l.place l.fields) ≡ target_columns l.schema 0 l.fields
