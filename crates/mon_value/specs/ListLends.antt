-- A list whose items are lent to be written.
use Rattle.std.specs.Prelude.{List, ◌++◌, drop, length, take}
use Rattle.std.specs.Borrow.{Array, Fml, Lends, MutBor, RattleType}
use Rattle.mon_value.specs.contracts.lists.ListOf.{the_row}

-- the items with others written over them from the front; there are as many as before
abbrev pub items_written : {T : Type 0} → List T → List T → List T
items_written items written = take (length items) (written ++ drop (length written) items)

-- the list ends with the items that were last written through the slice
abbrev pub LendsItems : (T : RattleType) → MutBor (List T.Denot) → MutBor (List T.Denot) → Fml
LendsItems T list items = Lends (the_row T) (Array T 0) list items (items_written list.now)
