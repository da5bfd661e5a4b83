-- What a turn does at each replica.
use Rattle.std.specs.Prelude.{◌≤◌, ℕ}
use Rattle.mon_value.specs.Turns.{Turn, Adds, Hides}
use Rattle.range_cell.specs.declared.deeds.Deed.{Deed}
use Rattle.range_cell.specs.declared.deeds.Deed.TheVariants as deed

-- the turn
abbrev pub turn_of : Deed → Turn
turn_of (deed.Puts copies) = Adds copies.row
turn_of (deed.Trims before) = Hides before

-- it can be done so often: of a row there are so many copies
abbrev pub IsStocked : ℕ → Deed → Type 0
IsStocked count (deed.Puts copies) = count ≤ copies.left
IsStocked count (deed.Trims before) = Unit {0}
