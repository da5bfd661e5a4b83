-- What retiring a replica does to its range's seat and to how far this has seen, and what comes of it.
use Rattle.std.specs.Prelude.{ℕ, ◌≡◌, ◌<◌, List, [], ◌∷◌, ◌++◌, length, slice_get, Option, Some, None}
use Rattle.mon_topo.specs.Sights.{AreAlike}
use Rattle.mon_topo.specs.declared.sights.Sight.{Sight}
use Rattle.mon_value.specs.declared.histories.RangeEntry.{RangeEntry}
use Rattle.mon_value.specs.declared.histories.RangeEntry.TheVariants as range_entry
use Rattle.mon_value.specs.declared.positions.Range.{Range}
use Rattle.core_store.specs.Meetings.{sight_at_range}
use Rattle.core_store.specs.WriteEvents.{ChangesRange, IsHeldFrom}
use Rattle.core_store.specs.declared.ranges.RangeSeat.{RangeSeat}
use Rattle.core_store.specs.declared.retirements.Retiring.{Retiring}
use Rattle.core_store.specs.declared.store.Store.{Store}
use Rattle.write_core.specs.Events.{IsToldOfRetirement}
use Rattle.write_core.specs.declared.retirements.Retirement.{Retirement}
use Rattle.write_core.specs.declared.retirements.Retirement.TheVariants as told

-- the range's history then: one entry more where it is done, and else as it was
abbrev pub history_retired : ℕ → Retirement → List RangeEntry → List RangeEntry
history_retired pass (told.WasRetired slot) history = history ++ range_entry.Retired pass slot ∷ []
history_retired pass told.NotServing history = history
history_retired pass (told.LastServing slot) history = history

-- a replica of a range that nobody holds is retired
pub record RetiresRange (retiring : Retiring) (old new : RangeSeat) (sight sight_after : Sight) (what : Retirement)
    : Type 0 where
  pub free : old.holder ≡ None
  pub told_so : IsToldOfRetirement old.state.history retiring.leaf what
  pub history : new.state.history ≡ history_retired retiring.number what old.state.history
  pub holder : new.holder ≡ old.holder
  pub sight_there : new.sight ≡ sight_after
  pub seen : sight_after ≡ sight_at_range retiring.range new.state.history sight old.sight

abbrev pub RetiresIf : Retiring → RangeSeat → RangeSeat → Sight → Sight → Option Retirement → Type 0
RetiresIf retiring old new sight sight_after (Some what) = RetiresRange retiring old new sight sight_after what
RetiresIf retiring old new sight sight_after None = IsHeldFrom old.holder old new sight sight_after

-- ---- in a store

-- who retires a replica has seen of the same leaves and ranges as were seen at its range
abbrev pub IsSeatedToRetire : Range → List RangeSeat → Sight → Type 0
IsSeatedToRetire range seats sight = (seat : RangeSeat) → slice_get seats range.0 ≡ Some seat
    → AreAlike sight seat.sight × (range.0 < length seat.sight.ranges)

-- a replica of a range of the store is retired
pub record RetiresAt (retiring : Retiring) (old new : Store) (sight sight_after : Sight) (what : Option Retirement)
    : Type 0 where
  pub before : RangeSeat
  pub was : slice_get old.ranges.items retiring.range.0 ≡ Some before
  pub seat : RangeSeat
  pub changes : ChangesRange retiring.range seat old new
  pub retires : RetiresIf retiring before seat sight sight_after what
