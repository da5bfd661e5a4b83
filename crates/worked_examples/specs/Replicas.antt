-- How examples write rows of one series by their ends, and by these the entries of replicas: those of the first range, of
-- which each slot is on the leaf of its number.
use Rattle.std.specs.Prelude.{ℕ, List, [], ◌∷◌, codes, map, pos}
use Rattle.mon_topo.specs.HeldHistories.{slot_numbered}
use Rattle.mon_value.specs.Histories.{leaf_numbered, range_numbered}
use Rattle.mon_value.specs.LeafHistories.{kept_rows}
use Rattle.mon_value.specs.declared.histories.Entry.{Entry}
use Rattle.mon_value.specs.declared.histories.Entry.TheVariants as entry
use Rattle.mon_value.specs.declared.histories.Miss.{Miss}
use Rattle.mon_value.specs.declared.histories.RangeEntry.{RangeEntry}
use Rattle.mon_value.specs.declared.histories.RangeEntry.TheVariants as range_entry
use Rattle.mon_value.specs.declared.positions.SlotLeaf.{SlotLeaf}
use Rattle.mon_value.specs.declared.rows.Row.{Row}
use Rattle.mon_value.specs.declared.values.Value.TheVariants as value

-- a row that ends at a time
abbrev pub ending : ℕ → Row
ending at = record {
  key = record { target = record { schema = codes "T"; fields = [] }; metric = codes "/m"; fields = [] };
  point = record { start = pos at; end = pos at; value = value.Int (pos at) };
}

-- ---- of a leaf

-- a replica in a slot begins with rows that end at these times
abbrev pub begins : ℕ → List ℕ → Entry
begins slot ends = entry.Opened 0 (range_numbered 0) (slot_numbered slot) (map ending ends)

abbrev pub puts : ℕ → ℕ → Entry
puts slot at = entry.Put 1 (range_numbered 0) (slot_numbered slot) (ending at)

abbrev pub trims : ℕ → ℕ → Entry
trims slot before = entry.Trim 1 (range_numbered 0) (slot_numbered slot) (pos before)

-- what the replica in a slot keeps
abbrev pub kept_in : ℕ → List Entry → List Row
kept_in slot = kept_rows (range_numbered 0) (slot_numbered slot)

-- ---- of the range

abbrev pub replica_in : ℕ → SlotLeaf
replica_in slot = record { slot = slot_numbered slot; leaf = leaf_numbered slot }

abbrev pub opens : ℕ → RangeEntry
opens slot = range_entry.Opened 0 (slot_numbered slot) (leaf_numbered slot)

abbrev pub acknowledges : ℕ → RangeEntry
acknowledges at = range_entry.Acked 1 (ending at)
    (record { range = range_numbered 0; took = slot_numbered 0 ∷ []; missed = [] })

abbrev pub missing : ℕ → Miss
missing slot = record { slot = slot_numbered slot; leaf = leaf_numbered slot; cut = 1 }

-- a bound that the first slot took and these slots missed
abbrev pub bounds : ℕ → List ℕ → RangeEntry
bounds before slots = range_entry.Trimmed 1 (pos before)
    (record { range = range_numbered 0; took = slot_numbered 0 ∷ []; missed = map missing slots })

abbrev pub retires : ℕ → RangeEntry
retires slot = range_entry.Retired 1 (slot_numbered slot)
