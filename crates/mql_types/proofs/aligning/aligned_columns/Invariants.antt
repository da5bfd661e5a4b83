-- What was made, in front of what is left.
use Rattle.std.proofs.Common.{◌≡◌, ◌++◌, map, drop}
use Rattle.typed_trees.specs.Typing.{aligned_column}
use Rattle.mql_types.proofs.aligning.aligned_columns.Given as goal

abbrev pub invariant-loop-column : goal.invariant-loop-column
invariant-loop-column l =
    l.made ++ map (aligned_column l.by) (drop l.column-index l.columns) ≡ map (aligned_column l.by) l.columns
