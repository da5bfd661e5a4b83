-- The rows of each time, as a map holds them.
use Rattle.std.specs.Prelude.{ℤ, List, [], map, Vec}
use Rattle.std.specs.declared.alloc.Global.{Global}
use Rattle.mon_value.specs.declared.tables.TimedRow.{TimedRow}

-- the groups of rows of one time each
abbrev pub groups_at : List (ℤ × Vec TimedRow Global) → List (TimedRow × List TimedRow)
groups_at entries = map (λ entry. (record { time = entry.0; cells = [] }, entry.1.items)) entries
