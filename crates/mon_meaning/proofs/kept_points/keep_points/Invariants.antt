-- the points so far that are kept, and the cells of the series
use Rattle.std.proofs.Common.{◌≡◌, [], take}
use Rattle.typed_trees.specs.Meaning.{series_cells}
use Rattle.mon_meaning.specs.within.FetchViews.{points_kept}
use Rattle.mon_meaning.proofs.kept_points.keep_points.Given as goal

abbrev pub invariant-loop-point : goal.invariant-loop-point
invariant-loop-point l = record {
  kept : l.kept.points ≡ points_kept l.fetch (l.key, take l.point-index l.reached);
  hidden : l.kept.hidden ≡ [];
  cells : l.cells ≡ series_cells l.key;
}
