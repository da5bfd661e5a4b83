-- Rows that are kept under their keys.
use Rattle.std.specs.Prelude.{◌≡◌, ℕ, Bool, List, [], ◌∷◌, ◌++◌, map, Option, Some, None, Vec, if◌then◌else◌}
use Rattle.std.specs.Borrow.{Bor}
use Rattle.std.specs.declared.alloc.Global.{Global}
use Rattle.indexmap.specs.IndexMap.{IndexMap, get}
use Rattle.mon_value.specs.Groups.{rows_in}
use Rattle.mon_value.specs.Same.{same_row}
use Rattle.mon_value.specs.declared.tables.TimedRow.{TimedRow}
use Rattle.mon_table.specs.References.{rows_behind}
use Rattle.mon_table.specs.declared.keys.JoinKey.{JoinKey}

-- a key as a row: its time and its cells
abbrev pub key_row : JoinKey → TimedRow
key_row key = record { time = key.time; cells = map (λ cell. cell.now) key.cells.items }

abbrev pub same_join_key : JoinKey → JoinKey → Bool
same_join_key a b = same_row (key_row a) (key_row b)

-- the rows of an entry, none where there is no entry
abbrev pub rows_under_key : Option (Vec (Bor TimedRow) Global) → List TimedRow
rows_under_key None = []
rows_under_key (Some rows) = rows_behind rows.items

-- rows under their keys
abbrev pub RowMap : Type 0 → Type 0
RowMap S = IndexMap JoinKey (Vec (Bor TimedRow) Global) S

-- each key has just the rows whose cells at these places are its own
abbrev pub KeepsByKey : {S : Type 0} → List ℕ → List TimedRow → RowMap S → Type 0
KeepsByKey places rows kept =
    (key : JoinKey) → rows_under_key (get same_join_key kept key) ≡ rows_in places (key_row key) rows

-- a row goes behind those of its key, and no other key has another row
abbrev pub AddsUnderKey : {S : Type 0} → RowMap S → RowMap S → JoinKey → TimedRow → Type 0
AddsUnderKey before after key row =
    (other : JoinKey) → rows_under_key (get same_join_key after other)
    ≡ rows_under_key (get same_join_key before other) ++ (if same_join_key other key then row ∷ [] else [])
