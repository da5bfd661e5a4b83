-- the columns so far and those at the places that are left are all
use Rattle.std.proofs.Common.{◌≡◌, ◌++◌, drop}
use Rattle.std.specs.List.{filter_map, slice_get}
use Rattle.mon_table.proofs.places.joined_columns.Given as goal

abbrev pub invariant-loop-place : goal.invariant-loop-place
invariant-loop-place l = l.columns ++ filter_map (slice_get l.rights) (drop l.place-index l.own) ≡ l.lefts
    ++ filter_map (slice_get l.rights) l.own
