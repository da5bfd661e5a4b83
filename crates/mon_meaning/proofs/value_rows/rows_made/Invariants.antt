-- the rows so far, and those of the rows that are left, are all
use Rattle.std.proofs.Common.{◌≡◌, ◌++◌}
use Rattle.std.specs.List.{AllByRecursion, filter_map}
use Rattle.std.specs.Vec.Iter.{into_iter_items}
use Rattle.mon_meaning.specs.within.Items.{CanMake, row_made}
use Rattle.mon_meaning.proofs.value_rows.rows_made.Given as goal

abbrev pub invariant-loop-row : goal.invariant-loop-row
invariant-loop-row l = record {
  rows : l.made ++ filter_map (row_made l.columns l.items) (into_iter_items l.row-iterator)
      ≡ filter_map (row_made l.columns l.items) l.fn.rows;
  can : AllByRecursion (CanMake l.items) (into_iter_items l.row-iterator);
}
