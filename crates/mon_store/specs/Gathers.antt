-- What a caller reads back of what a query looked at.
use Rattle.std.specs.Prelude.{◌≡◌, ◌≤◌, ◌<◌, ℕ, ◌+◌, List, length}
use Rattle.std.specs.List.{AllByRecursion}
use Rattle.know.specs.Knowledge.{Knowledge, stopped_count}
use Rattle.mon_topo.specs.Zones.{leaves_in}
use Rattle.mon_topo.specs.declared.zones.ZoneSpec.{ZoneSpec}
use Rattle.mon_value.specs.Histories.{leaf_history}
use Rattle.mon_value.specs.declared.positions.Leaf.{Leaf}
use Rattle.query_traces.specs.Traces.{cut_of}
use Rattle.query_traces.specs.declared.answers.Resolved.{Resolved}
use Rattle.query_traces.specs.declared.answers.Trace.{Trace}

-- A caller has seen what a trace of the store looked at: its leaves are there, and their cuts were seen
pub record HasSeenTrace (zones : List ZoneSpec) (know : Knowledge) (trace : Trace) : Type 0 where
  pub cuts : length trace.cuts ≡ length (leaves_in zones)
  pub there : AllByRecursion (λ (one : Resolved). one.leaf.0 < length (leaves_in zones)) trace.resolved
  pub within : (leaf : Leaf) → leaf.0 < length (leaves_in zones)
      → cut_of trace leaf ≤ length (leaf_history know.seen leaf)

-- so many rows more were handed out, as far as the count goes
abbrev pub HasBeenHanded : ℕ → Knowledge → Knowledge → Type 0
HasBeenHanded rows before after = stopped_count after.handed ≡ stopped_count (before.handed + rows)
