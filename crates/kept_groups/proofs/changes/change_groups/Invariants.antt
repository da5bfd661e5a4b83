-- there is room for the changes that are left, and the groups are those of the rows so far
use Rattle.std.proofs.Common.{◌≡◌, ◌≤◌, ◌++◌, ℕ, List, length}
use Rattle.std.specs.Vec.Iter.{into_iter_items, into_iter_len}
use Rattle.indexmap.specs.IndexMap.{spare}
use Rattle.mon_value.specs.declared.columns.Column.{Column}
use Rattle.mon_value.specs.declared.tables.TimedRow.{TimedRow}
use Rattle.kept_groups.specs.declared.changes.Change.{Change}
use Rattle.kept_groups.specs.Changes.{CanChange, comes, gones}
use Rattle.kept_groups.specs.Trades.{AreGroupsOver}
use Rattle.kept_groups.proofs.changes.change_groups.Given as goal

abbrev pub invariant-loop-change : goal.invariant-loop-change
invariant-loop-change l = record {
  room : length (into_iter_items l.change-iterator) ≤ spare l.groups;
  counted : into_iter_len l.change-iterator ≡ length (into_iter_items l.change-iterator);
  so_far : (done : List Change)
      × (l.fn.changes.items ≡ done ++ into_iter_items l.change-iterator)
      × ((columns : List Column) (by : List ℕ) (rest : List TimedRow)
      → CanChange columns by l.with rest l.fn.changes.items l.fn.groups.entries
      → AreGroupsOver by l.with (comes done ++ (gones (into_iter_items l.change-iterator) ++ rest)) l.groups.entries);
}
