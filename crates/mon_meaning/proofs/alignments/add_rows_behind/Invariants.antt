-- the rows so far, and those of the values that are left, are all
use Rattle.std.proofs.Common.{◌≡◌, ◌++◌, map}
use Rattle.std.specs.Vec.Iter.{into_iter_items}
use Rattle.mon_meaning.specs.within.FetchViews.{row_behind}
use Rattle.mon_meaning.proofs.alignments.add_rows_behind.Given as goal

abbrev pub invariant-loop-aligned : goal.invariant-loop-aligned
invariant-loop-aligned l = l.rows ++ map (row_behind l.cells) (into_iter_items l.aligned-iterator) ≡ l.fn.rows
    ++ map (row_behind l.cells) l.fn.values
