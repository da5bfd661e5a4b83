-- The fields so far are had.
use Rattle.std.proofs.Common.{◌≡◌, drop}
use Rattle.typed_trees.specs.Levels.{have_fields}
use Rattle.typed_columns.proofs.levels.have_fields.Given as goal

abbrev pub invariant-loop-place : goal.invariant-loop-place
invariant-loop-place l =
    have_fields l.schema l.place (drop l.place l.fields) l.columns ≡ have_fields l.schema 0 l.fields l.columns
