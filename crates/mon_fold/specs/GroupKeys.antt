-- Keys of groups that are borrowed from rows.
use Rattle.std.specs.Prelude.{ℕ, List, map, slice_get}
use Rattle.std.specs.Borrow.{Bor}
use Rattle.std.specs.Option.{option_to_list}
use Rattle.mon_value.specs.declared.tables.TimedRow.{TimedRow}
use Rattle.mon_value.specs.declared.values.Value.{Value}
use Rattle.mon_fold.specs.PartialGroups.{PartialGroup}
use Rattle.mon_fold.specs.declared.aggregate_parts.AggregatePart.{AggregatePart}
use Rattle.mon_fold.specs.declared.grouping.GroupKey.{GroupKey}

-- the cells that are borrowed
abbrev pub cells_seen : List (Bor Value) → List Value
cells_seen cells = map (λ cell. cell.now) cells

-- the cell at a place, if there is one
abbrev pub cell_at : List Value → ℕ → List Value
cell_at cells place = option_to_list (slice_get cells place)

-- the key with cells of its own
abbrev pub key_row : GroupKey → TimedRow
key_row key = record { time = key.time; cells = cells_seen key.cells.items }

-- groups by borrowed keys as groups by keys of their own
abbrev pub owned_groups : List (GroupKey × List AggregatePart) → List PartialGroup
owned_groups groups = map (λ group. (key_row group.0, group.1)) groups
