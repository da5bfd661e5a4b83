-- the marks at the places that are left make those so far to all
use Rattle.std.proofs.Common.{◌≡◌, drop, false, replicate}
use Rattle.mon_table.specs.Places.{marked}
use Rattle.mon_table.proofs.places.marks_at.Given as goal

abbrev pub invariant-loop-place : goal.invariant-loop-place
invariant-loop-place l = marked (drop l.place-index l.places) l.marks.items ≡ marked l.places (replicate l.count false)
