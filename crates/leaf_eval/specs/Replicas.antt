-- The rows of replicas that a leaf holds, and that those that are kept share no series.
use Rattle.std.specs.Prelude.{◌≡◌, Bool, false, List, [], ◌∷◌}
use Rattle.std.specs.List.{AllByRecursion, list_any}
use Rattle.leaf_store.specs.LeafStates.{slot_view}
use Rattle.mon_series.specs.SlotViews.{SlotView}
use Rattle.mon_value.specs.LeafHistories.{kept_rows}
use Rattle.mon_value.specs.Same.{same_series}
use Rattle.mon_value.specs.declared.histories.Entry.{Entry}
use Rattle.mon_value.specs.declared.positions.RangeSlot.{RangeSlot}
use Rattle.mon_value.specs.declared.rows.Row.{Row}
use Rattle.mon_value.specs.declared.rows.SeriesKey.{SeriesKey}

-- the rows of a replica: all of them, and those that are kept
abbrev pub view_of : List Entry → RangeSlot → SlotView
view_of history own = slot_view own.range own.slot history

-- the rows of a replica that are kept
abbrev pub kept_rows_of : List Entry → RangeSlot → List Row
kept_rows_of history own = kept_rows own.range own.slot history

-- whether a series has a row
abbrev pub has_series : List Row → SeriesKey → Bool
has_series rows key = list_any (λ row. same_series key row.key) rows

-- no series has rows on both sides
abbrev pub ShareNoSeries : List Row → List Row → Type 0
ShareNoSeries rows others = AllByRecursion (λ row. has_series others row.key ≡ false) rows

-- no series has kept rows in two of the replicas
abbrev pub AreReplicasApart : List Entry → List RangeSlot → Type 0
AreReplicasApart history [] = Unit {0}
AreReplicasApart history (own ∷ replicas) =
    AllByRecursion (λ other. ShareNoSeries (kept_rows_of history own) (kept_rows_of history other)) replicas
    × AreReplicasApart history replicas
