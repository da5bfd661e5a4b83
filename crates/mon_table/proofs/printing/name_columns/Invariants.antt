-- the cells so far and the names that are left are `time` and all names
use Rattle.std.proofs.Common.{◌≡◌, ◌∷◌, ◌++◌, []}
use Rattle.std.specs.Slice.Iter.{iter_rest}
use Rattle.csv.specs.Records.{AllText, fields_of, partial_of}
use Rattle.mon_value.specs.Tables.{column_names}
use Rattle.mon_table.specs.Tables.{codes}
use Rattle.mon_table.proofs.printing.name_columns.Given as goal

abbrev pub invariant-loop-column : goal.invariant-loop-column
invariant-loop-column l = record {
  names : fields_of l.cells ++ column_names (iter_rest l.column-iterator) ≡ codes "time" ∷ column_names l.columns;
  whole : partial_of l.cells ≡ [];
  texts : AllText (fields_of l.cells);
}
