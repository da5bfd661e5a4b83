-- the cells so far and the values that are left are the time and all values
use Rattle.std.proofs.Common.{◌≡◌, ◌∷◌, ◌++◌, [], map}
use Rattle.std.specs.Fmt.{signed_decimal}
use Rattle.std.specs.Slice.Iter.{iter_rest}
use Rattle.csv.specs.Records.{AllText, fields_of, partial_of}
use Rattle.mon_value.specs.Values.{value_text}
use Rattle.mon_table.proofs.printing.fill.Given as goal

abbrev pub invariant-loop-value : goal.invariant-loop-value
invariant-loop-value l = record {
  texts : fields_of l.cells ++ map value_text (iter_rest l.value-iterator) ≡ signed_decimal l.row.time ∷ map value_text
      l.row.cells;
  whole : partial_of l.cells ≡ [];
  utf8 : AllText (fields_of l.cells);
}
