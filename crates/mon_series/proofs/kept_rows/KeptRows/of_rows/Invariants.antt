-- the rows so far
use Rattle.std.proofs.Common.{◌≡◌, take}
use Rattle.mon_series.specs.SlotViews.{all_kept}
use Rattle.mon_series.proofs.kept_rows.KeptRows.of_rows.Given as goal

abbrev pub invariant-loop-row : goal.invariant-loop-row
invariant-loop-row l = l.kept ≡ all_kept (take l.row-index l.rows)
