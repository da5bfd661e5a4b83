-- What was found, in front of what is left.
use Rattle.std.proofs.Common.{◌≡◌, ◌++◌, drop}
use Rattle.typed_trees.specs.Items.{key_columns}
use Rattle.typed_columns.proofs.fixed.keys_of.Given as goal

abbrev pub invariant-loop-column : goal.invariant-loop-column
invariant-loop-column l = l.keys ++ key_columns (drop l.column-index l.columns) ≡ key_columns l.columns
