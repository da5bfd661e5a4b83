-- What was added, in front of what is left.
use Rattle.std.proofs.Common.{◌≡◌, ◌++◌, drop, filter}
use Rattle.mon_value.specs.declared.columns.Column.{Column}
use Rattle.typed_trees.specs.Items.{is_taken}
use Rattle.typed_columns.proofs.fixed.push_named.Given as goal

abbrev pub invariant-loop-column : goal.invariant-loop-column
invariant-loop-column l =
    l.added ++ filter (λ (column : Column). is_taken column.name l.names) (drop l.column-index l.columns)
    ≡ l.fn.added ++ filter (λ (column : Column). is_taken column.name l.names) l.columns
