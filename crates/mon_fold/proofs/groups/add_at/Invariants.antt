-- the items so far and those of the places that are left are all
use Rattle.std.proofs.Common.{◌≡◌, ◌++◌, drop, slice_get}
use Rattle.std.specs.List.{filter_map}
use Rattle.mon_fold.proofs.groups.add_at.Given as goal

abbrev pub invariant-loop-place : goal.invariant-loop-place
invariant-loop-place g l = l.list ++ filter_map (slice_get l.items) (drop l.place-index l.places) ≡ l.fn.list
    ++ filter_map (slice_get l.items) l.places
