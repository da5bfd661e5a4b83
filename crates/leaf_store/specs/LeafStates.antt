-- What a leaf's state is seen as, how its calls change it, and the buckets of its series.
use Rattle.std.specs.Prelude.{◌≡◌, ℕ, ◌-◌, Bool, true, ◌&&◌, List, [], ◌∷◌, ◌++◌, Option, Some, None, slice_get}
use Rattle.std.specs.Prelude.{if◌then◌else◌, not}
use Rattle.std.specs.List.Sorted.{IsStrictlyIncreasing}
use Rattle.mon_schema.specs.Names.{SchemaLists, target_named, metric_named}
use Rattle.mon_value.specs.LeafHistories.{is_opened, is_switch, kept_rows, replica_rows, series_of}
use Rattle.mon_value.specs.declared.histories.Entry.{Entry}
use Rattle.mon_value.specs.declared.histories.Entry.TheVariants as entry
use Rattle.mon_value.specs.declared.positions.Range.{Range}
use Rattle.mon_value.specs.declared.positions.Slot.{Slot}
use Rattle.mon_series.specs.SlotViews.{SlotView}
use Rattle.mon_hints.specs.Hints.{series_buckets, history_buckets}
use Rattle.mon_hints.specs.Formulas.{is_among}
use Rattle.mon_value.specs.declared.rows.SeriesKey.{SeriesKey}
use Rattle.mon_value.specs.declared.schemas.MetricSchema.{MetricSchema}
use Rattle.mon_value.specs.declared.schemas.TargetSchema.{TargetSchema}

-- What a leaf's state is seen as, and how its calls change it.

-- the schemas and the number of buckets that a leaf goes by, its history, for how many entries room is promised, and
-- whether each entry for a replica was brought to it
pub record LeafView : Type 0 where
  pub schemas : SchemaLists
  pub buckets : ℕ
  pub history : List Entry
  pub promised : ℕ
  pub settled : Bool

-- a leaf to which nothing happened so far
abbrev pub new_leaf : SchemaLists → ℕ → LeafView
new_leaf schemas buckets = record { schemas = schemas; buckets = buckets; history = []; promised = 0; settled = true }

-- a leaf with another number of promised entries
abbrev pub with_promised : LeafView → ℕ → LeafView
with_promised leaf promised =
    record {
      schemas = leaf.schemas;
      buckets = leaf.buckets;
      history = leaf.history;
      promised = promised;
      settled = leaf.settled;
    }

-- a leaf whose entries all were brought to their replicas
abbrev pub with_settled : LeafView → LeafView
with_settled leaf =
    record {
      schemas = leaf.schemas;
      buckets = leaf.buckets;
      history = leaf.history;
      promised = leaf.promised;
      settled = true;
    }

-- a leaf to which an entry came: one for a replica spends a promise, and waits to be settled
abbrev pub leaf_with_entry : LeafView → Entry → LeafView
leaf_with_entry leaf entry = record {
  schemas = leaf.schemas;
  buckets = leaf.buckets;
  history = leaf.history ++ entry ∷ [];
  promised = if is_switch entry then leaf.promised else leaf.promised - 1;
  settled = is_switch entry && leaf.settled;
}

-- the rows of a replica: all that came to it, and those of them that are kept
abbrev pub slot_view : Range → Slot → List Entry → SlotView
slot_view range slot history = record { rows = replica_rows range slot history; kept = kept_rows range slot history }

-- the rows of a replica, if it was opened
abbrev pub opened_rows : Range → Slot → List Entry → Option SlotView
opened_rows range slot history = if is_opened range slot history then Some (slot_view range slot history) else None

-- behind a history an entry puts a row, whose series has a number among those of its replica
abbrev pub HasNumber : List Entry → Entry → ℕ → Type 0
HasNumber history (entry.Opened pass range slot rows) number = ⊥
HasNumber history (entry.Put pass range slot row) number =
    slice_get (series_of (replica_rows range slot history)) number ≡ Some row.key
HasNumber history (entry.Trim pass range slot before) number = ⊥
HasNumber history (entry.Down pass) number = ⊥
HasNumber history (entry.Up pass) number = ⊥

-- The buckets of a leaf's series by the schemas that it holds, and those that its history doesn't have.

-- the buckets of a series whose schemas are found
abbrev pub buckets_by : ℕ → Option TargetSchema → Option MetricSchema → SeriesKey → List ℕ
buckets_by buckets None metric key = []
buckets_by buckets (Some target) None key = []
buckets_by buckets (Some target) (Some metric) key = series_buckets buckets target metric key

-- the buckets of a series, of so many, by the schemas that are held: none where its schemas aren't
abbrev pub key_buckets : ℕ → SchemaLists → SeriesKey → List ℕ
key_buckets buckets held key =
    buckets_by buckets (target_named key.target.schema held.targets) (metric_named key.metric held.metrics) key

-- whether a series has a bucket that no series of a history has
abbrev pub is_unraised : ℕ → SchemaLists → List Entry → SeriesKey → ℕ → Bool
is_unraised buckets held history key bucket =
    is_among bucket (key_buckets buckets held key)
    && not (is_among bucket (history_buckets (key_buckets buckets held) history))

-- the buckets of a series that no series of a leaf has, rising
pub record AreToRaise (state : LeafView) (key : SeriesKey) (buckets : List ℕ) : Type 0 where
  pub rising : IsStrictlyIncreasing buckets
  pub same : (bucket : ℕ) → is_among bucket buckets ≡ is_unraised state.buckets state.schemas state.history key bucket
