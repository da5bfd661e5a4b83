-- no point from the place on is kept, and the cells are those of the series
use Rattle.std.proofs.Common.{◌≡◌, ◌≤◌, [], drop, length}
use Rattle.typed_trees.specs.Meaning.{series_cells}
use Rattle.mon_meaning.specs.within.FetchViews.{points_kept}
use Rattle.mon_meaning.proofs.kept_points.newest_kept.Given as goal

abbrev pub invariant-loop-place : goal.invariant-loop-place
invariant-loop-place l = record {
  within : l.place ≤ length l.points;
  none : points_kept l.fetch (l.key, drop l.place l.points) ≡ [];
  cells : l.cells ≡ series_cells l.key;
}

abbrev pub decreases-loop-place : goal.decreases-loop-place
decreases-loop-place l = l.place
