-- How the set of raised buckets grows, and which buckets are left.
use Rattle.std.specs.Prelude.{◌≡◌, ℕ, Bool, true, not, ◌&&◌, ◌||◌, List, Some}
use Rattle.mon_hints.specs.Hints.{rows_buckets}
use Rattle.mon_hints.specs.Formulas.{is_among}
use Rattle.mon_schema.specs.Names.{SchemaLists}
use Rattle.mon_value.specs.LeafHistories.{brought_rows}
use Rattle.mon_value.specs.declared.histories.Entry.{Entry}
use Rattle.mon_value.specs.declared.histories.Entry.TheVariants as entry
use Rattle.mon_value.specs.declared.positions.Range.{Range}
use Rattle.mon_value.specs.declared.positions.Slot.{Slot}
use Rattle.mon_value.specs.declared.rows.SeriesKey.{SeriesKey}
use Rattle.mon_series.specs.SlotViews.{SlotView}
use Rattle.leaf_store.specs.LeafStates.{key_buckets}
use Rattle.leaf_store.specs.within.Replicas.{HasSeries, Replicas, rows_held}

-- some buckets came to a set
abbrev pub AddsBuckets : (ℕ → Bool) → (ℕ → Bool) → List ℕ → Type 0
AddsBuckets old new buckets = (bucket : ℕ) → new bucket ≡ (old bucket || is_among bucket buckets)

-- the buckets of the rows that an entry brings came to a set
abbrev pub AddsEntry : ℕ → SchemaLists → Entry → (ℕ → Bool) → (ℕ → Bool) → Type 0
AddsEntry buckets schemas e old new = AddsBuckets old new (rows_buckets (key_buckets buckets schemas) (brought_rows e))

-- whether a bucket of a set is not in the set of those that are raised
abbrev pub is_left : (ℕ → Bool) → (ℕ → Bool) → ℕ → Bool
is_left raised own bucket = own bucket && not (raised bucket)

-- the buckets of the replicas' rows are in a set
abbrev pub HoldsBuckets : Replicas → (SeriesKey → List ℕ) → (ℕ → Bool) → Type 0
HoldsBuckets replicas buckets_of set = (range : Range) → (slot : Slot) → (held : SlotView)
    → rows_held replicas range slot ≡ Some held
    → (bucket : ℕ) → is_among bucket (rows_buckets buckets_of held.rows) ≡ true → set bucket ≡ true

-- an entry's row is of a series that its replica has
abbrev pub IsKnown : Replicas → Entry → Type 0
IsKnown replicas (entry.Opened pass range slot rows) = ⊥
IsKnown replicas (entry.Put pass range slot row) = HasSeries replicas (record { range = range; slot = slot }) row.key
IsKnown replicas (entry.Trim pass range slot before) = ⊥
IsKnown replicas (entry.Down pass) = ⊥
IsKnown replicas (entry.Up pass) = ⊥
