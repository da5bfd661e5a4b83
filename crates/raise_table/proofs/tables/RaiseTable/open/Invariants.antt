use Rattle.std.proofs.Common.{◌≡◌, [], map, drop, take}
use Rattle.raise_table.specs.Seats.{new_owner, no_hints}
use Rattle.raise_table.proofs.tables.RaiseTable.open.Given as goal

abbrev pub invariant-loop-leaf : goal.invariant-loop-leaf
invariant-loop-leaf g l =
    (l.first.table_id ≡ g.N.RaiseName.raise.id)
    × (l.first.me.1 ≡ [])
    × (l.first.me.0.hints ≡ no_hints)
    × (l.first.me.0.raised ≡ [])
    × (l.first.me.0.leaves ≡ drop l.leaf-index l.leaf-items)
    × (l.owners ≡ map new_owner (take l.leaf-index l.leaf-items))
