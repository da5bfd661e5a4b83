-- When a replica takes a row.
use Rattle.std.specs.Prelude.{◌≡◌, true, false, List, [], ◌∷◌, ◌++◌}
use Rattle.mon_value.specs.LeafHistories.{is_down, is_opened, replica_rows, IsSource}
use Rattle.mon_value.specs.declared.histories.Entry.{Entry}
use Rattle.mon_value.specs.declared.rows.Row.{Row}
use Rattle.leaf_store.specs.declared.replicas.Replica.{Replica}

-- a leaf is up, and a replica that was opened there goes on with a row
abbrev pub CanTakeRow : List Entry → Replica → Row → Type 0
CanTakeRow history replica row =
    (is_down history ≡ false) × (is_opened replica.range replica.slot history ≡ true)
    × IsSource (replica_rows replica.range replica.slot history ++ row ∷ [])
