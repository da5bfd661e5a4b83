-- What the rows of a slot are seen as.
use Rattle.std.specs.Prelude.{List, [], ◌∷◌, ◌++◌}
use Rattle.mon_value.specs.declared.rows.Row.{Row}

-- all rows that came, in order, and those of them that no trim hid
pub record SlotView : Type 0 where
  pub rows : List Row
  pub kept : List Row

-- rows of which none is hidden
abbrev pub all_kept : List Row → SlotView
all_kept rows = record { rows = rows; kept = rows }

-- a row more, which is kept
abbrev pub with_row : SlotView → Row → SlotView
with_row slot row = record { rows = slot.rows ++ row ∷ []; kept = slot.kept ++ row ∷ [] }
