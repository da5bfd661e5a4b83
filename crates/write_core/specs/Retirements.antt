-- What becomes of a retirement of a range's replica on a leaf.
use Rattle.std.specs.Prelude.{ℕ, nat_lt, List, length, filter, slice_get, Option, Some, None, if◌then◌else◌}
use Rattle.mon_value.specs.declared.histories.RangeEntry.{RangeEntry}
use Rattle.mon_value.specs.declared.positions.Leaf.{Leaf}
use Rattle.mon_value.specs.declared.positions.SlotLeaf.{SlotLeaf}
use Rattle.mon_topo.specs.RangeHistories.{is_on, serving}
use Rattle.write_core.specs.declared.retirements.Retirement.{Retirement}
use Rattle.write_core.specs.declared.retirements.Retirement.TheVariants as told

-- by the replica that serves on the leaf, if one does, and by how many serve: the last one that serves goes on
abbrev pub retired_by : Option SlotLeaf → ℕ → Retirement
retired_by None serve = told.NotServing
retired_by (Some replica) serve = if nat_lt 1 serve then told.WasRetired replica.slot else told.LastServing replica.slot

-- of a range of this history
abbrev pub retirement_of : List RangeEntry → Leaf → Retirement
retirement_of history leaf =
    retired_by (slice_get (filter (is_on leaf) (serving history)) 0) (length (serving history))
