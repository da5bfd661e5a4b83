-- the rows so far are the points so far
use Rattle.std.proofs.Common.{◌≡◌, map, take}
use Rattle.standing_incr.specs.OwnRows.{row_at}
use Rattle.standing_incr.proofs.own_series.points_as_rows.Given as goal

abbrev pub invariant-loop-point : goal.invariant-loop-point
invariant-loop-point l = l.rows ≡ map (row_at l.key) (take l.point-index l.points)
