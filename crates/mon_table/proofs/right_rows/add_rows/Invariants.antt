-- each entry has the rows of its key so far
use Rattle.std.proofs.Common.{take}
use Rattle.mon_table.specs.JoinKeys.{KeepsByKey}
use Rattle.mon_table.proofs.right_rows.add_rows.Given as goal

abbrev pub invariant-loop-row : goal.invariant-loop-row
invariant-loop-row l = KeepsByKey l.places (take l.row-index l.rows) l.by_key
