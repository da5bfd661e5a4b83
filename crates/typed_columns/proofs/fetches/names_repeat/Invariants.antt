-- No name so far stands twice, and those names are taken.
use Rattle.std.proofs.Common.{◌≡◌, drop}
use Rattle.mon_schema.specs.Faults.{texts_repeat}
use Rattle.mon_value.specs.Tables.{column_names}
use Rattle.typed_columns.proofs.ColumnNameLemmas.{repeats_behind}
use Rattle.typed_columns.proofs.fetches.names_repeat.Given as goal

abbrev pub invariant-loop-column : goal.invariant-loop-column
invariant-loop-column l =
    repeats_behind l.names (column_names (drop l.column-index l.columns)) ≡ texts_repeat (column_names l.columns)
