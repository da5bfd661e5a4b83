-- the cells so far and those at the places that are left are all
use Rattle.std.proofs.Common.{◌≡◌, ◌++◌, drop, map}
use Rattle.mon_value.specs.Groups.{cells_at}
use Rattle.mon_table.proofs.keys.join_key.Given as goal

abbrev pub invariant-loop-place : goal.invariant-loop-place
invariant-loop-place l = map (λ cell. cell.now) l.cells.items ++ cells_at (drop l.place-index l.places) l.row.cells
    ≡ cells_at l.places l.row.cells
