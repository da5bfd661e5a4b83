-- what stands behind the last comma so far goes on to the last cell of the line
use Rattle.std.proofs.Common.{◌≡◌, drop, option_map}
use Rattle.trials.specs.Cells as spec
use Rattle.trials.proofs.cells.last_cell.Given as goal

abbrev pub invariant-loop-i : goal.invariant-loop-i
invariant-loop-i l = spec.cell_behind (option_map (λ cell. cell.now) l.found) (drop l.i l.line) ≡ spec.last_cell l.line
