-- What was found, with what the columns that are left have.
use Rattle.std.proofs.Common.{◌≡◌, drop}
use Rattle.typed_trees.specs.Faults.{first_with}
use Rattle.typed_trees.specs.Branches.{wide_faults}
use Rattle.typed_columns.proofs.widths.tell_wide_columns.Given as goal

abbrev pub invariant-loop-column : goal.invariant-loop-column
invariant-loop-column l =
    first_with l.found.first (wide_faults l.at (drop l.column-index l.columns))
    ≡ first_with l.fn.found.first (wide_faults l.at l.columns)
