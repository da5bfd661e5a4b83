-- the cells so far, and those of the columns that are left, are all
use Rattle.std.proofs.Common.{◌≡◌, ◌++◌, length}
use Rattle.std.specs.Vec.Iter.{into_iter_items, into_iter_len}
use Rattle.typed_trees.specs.Meaning.{key_cells}
use Rattle.mon_meaning.proofs.value_rows.key_cells.Given as goal

abbrev pub invariant-loop-cell : goal.invariant-loop-cell
invariant-loop-cell l = record {
  whole : l.keys.items ++ key_cells l.rest (into_iter_items l.cell-iterator) ≡ key_cells l.columns l.fn.cells;
  left : into_iter_len l.cell-iterator ≡ length (into_iter_items l.cell-iterator);
}
