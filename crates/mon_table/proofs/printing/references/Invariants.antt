-- the rows that have a reference so far, and those that are left, are all
use Rattle.std.proofs.Common.{◌≡◌, ◌++◌}
use Rattle.std.specs.Slice.Iter.{iter_rest}
use Rattle.mon_table.specs.References.{rows_behind}
use Rattle.mon_table.proofs.printing.references.Given as goal

abbrev pub invariant-loop-row : goal.invariant-loop-row
invariant-loop-row l = rows_behind l.all.items ++ iter_rest l.row-iterator ≡ l.rows
