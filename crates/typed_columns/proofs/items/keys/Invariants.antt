-- What was made, in front of what is left.
use Rattle.std.proofs.Common.{◌≡◌, ◌++◌, drop}
use Rattle.mon_value.specs.Tables.{column_names}
use Rattle.typed_trees.specs.Items.{key_columns, with_names}
use Rattle.typed_columns.proofs.items.keys.Given as goal

abbrev pub invariant-loop-column : goal.invariant-loop-column
invariant-loop-column l = record {
  keys : l.keys ++ key_columns (drop l.column-index l.columns) ≡ key_columns l.columns;
  names : with_names l.taken (column_names (key_columns (drop l.column-index l.columns)))
      ≡ with_names l.fn.taken (column_names (key_columns l.columns));
}
