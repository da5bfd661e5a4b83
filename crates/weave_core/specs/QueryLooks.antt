-- What a look of a query does to the seat that it needs and to how far this has seen, and what it is told.
use Rattle.std.specs.Prelude.{ℕ, ℤ, ◌≡◌, ◌<◌, List, length, slice_get, Option}
use Rattle.std.specs.Prelude.{Some, None}
use Rattle.leaf_store.specs.LeafStates.{key_buckets}
use Rattle.leaf_eval.specs.Visits.{IsVisit}
use Rattle.leaf_eval.specs.declared.visits.Visit.{Visit}
use Rattle.leaf_eval.specs.declared.visits.Visit.TheVariants as visit
use Rattle.mon_value.specs.declared.positions.Leaf.{Leaf}
use Rattle.mon_value.specs.declared.positions.Range.{Range}
use Rattle.mon_value.specs.declared.positions.RangeSlot.{RangeSlot}
use Rattle.mon_value.specs.declared.positions.SlotLeaf.{SlotLeaf}
use Rattle.typed_trees.specs.Nodes.{typed_tree}
use Rattle.typed_trees.specs.declared.plans.Plan.{Plan}
use Rattle.query_core.specs.Machine.{slots_of}
use Rattle.query_traces.specs.SeenSights.{seen_of}
use Rattle.mon_meaning.specs.ReadableSlots.{CanBeRead}
use Rattle.mon_topo.specs.RangeHistories.{first_serving}
use Rattle.query_traces.specs.declared.asks.Told.{Told}
use Rattle.query_traces.specs.declared.asks.Told.TheVariants as told
use Rattle.core_store.specs.Meetings.{sight_at_leaf, sight_at_range}
use Rattle.mon_topo.specs.Sights.{AreAlike}
use Rattle.core_store.specs.WriteEvents.{ChangesLeaf, ChangesRange, IsHeldFrom, StaysThere}
use Rattle.core_store.specs.declared.leaves.LeafSeat.{LeafSeat}
use Rattle.weave_core.specs.declared.queries.Querying.{Querying}
use Rattle.core_store.specs.declared.ranges.RangeSeat.{RangeSeat}
use Rattle.mon_topo.specs.declared.sights.Sight.{Sight}
use Rattle.core_store.specs.declared.store.Store.{Store}

-- ---- at a range

abbrev pub slot_told : Option SlotLeaf → Told
slot_told None = told.NoSlot
slot_told (Some replica) = told.Slot replica.slot replica.leaf

-- its first replica that serves on none of these leaves is found
pub record FindsReplica (range : Range) (avoided : List Leaf) (old new : RangeSeat) (sight sight_after : Sight)
    (answer : Told)
    : Type 0 where
  pub free : old.holder ≡ None
  pub told_so : answer ≡ slot_told (first_serving avoided old.state.history)
  pub state : new.state ≡ old.state
  pub holder : new.holder ≡ old.holder
  pub sight_there : new.sight ≡ sight_after
  pub seen : sight_after ≡ sight_at_range range old.state.history sight old.sight

abbrev pub FindsIf : Range → List Leaf → RangeSeat → RangeSeat → Sight → Sight → Option Told → Type 0
FindsIf range avoided old new sight sight_after (Some answer)
    = FindsReplica range avoided old new sight sight_after answer
FindsIf range avoided old new sight sight_after None = IsHeldFrom old.holder old new sight sight_after

-- ---- at a leaf

abbrev pub visit_told : Visit → Told
visit_told (visit.Down cut) = told.Down cut
visit_told (visit.Unread cut) = told.Unread cut
visit_told (visit.Read cut answer) = told.Read cut answer
visit_told (visit.Over load cut) = told.Over load cut

module _ (plan : Plan) (moment : ℤ) (limit : ℕ) (slots : List RangeSlot) (leaf : Leaf) where
  -- what is found there is told, and it stays as it is
  pub record Looks (old new : LeafSeat) (sight sight_after : Sight) (answer : Told) : Type 0 where
    pub free : old.holder ≡ None
    pub visit : Visit
    pub found : IsVisit plan moment limit old.state.history (key_buckets old.state.buckets old.state.schemas) slots visit
    pub told_so : answer ≡ visit_told visit
    pub stays : StaysThere old new sight_after
    pub history : new.state.history ≡ old.state.history
    pub holder : new.holder ≡ old.holder
    pub seen : sight_after ≡ sight_at_leaf leaf old.state.history sight old.sight

  abbrev pub LooksIf : LeafSeat → LeafSeat → Sight → Sight → Option Told → Type 0
  LooksIf old new sight sight_after (Some answer) = Looks old new sight sight_after answer
  LooksIf old new sight sight_after None = IsHeldFrom old.holder old new sight sight_after

-- ---- in a store

-- a word, with how far the query's caller has seen
abbrev pub word_told : ℕ → Sight → Told
word_told word sight = told.Word word (seen_of sight)

-- who looks at a range's seat has seen of the same leaves and ranges as were seen there
abbrev pub IsSeatedForRange : Range → List RangeSeat → Sight → Type 0
IsSeatedForRange range seats sight = (seat : RangeSeat) → slice_get seats range.0 ≡ Some seat
    → AreAlike sight seat.sight × (range.0 < length seat.sight.ranges)

-- a range of the store is looked at
pub record FindsAt (range : Range) (avoided : List Leaf) (old new : Store) (sight sight_after : Sight)
    (answer : Option Told) : Type 0 where
  pub before : RangeSeat
  pub was : slice_get old.ranges.items range.0 ≡ Some before
  pub seat : RangeSeat
  pub changes : ChangesRange range seat old new
  pub finds : FindsIf range avoided before seat sight sight_after answer

module _ (querying : Querying) (leaf : Leaf) where
  abbrev pub own_slots : List RangeSlot
  own_slots = slots_of querying.machine.stage leaf

  -- so has who looks at a leaf's, and where nobody holds the leaf, the slots that resolved to it can be read together
  abbrev pub IsSeatedForLeaf : List LeafSeat → Sight → Type 0
  IsSeatedForLeaf seats sight = (seat : LeafSeat) → slice_get seats leaf.0 ≡ Some seat
      → AreAlike sight seat.sight × (leaf.0 < length seat.sight.leaves)
      × (seat.holder ≡ None
      → CanBeRead (typed_tree querying.machine.setting.plan.typed) seat.state.history own_slots)

  -- a leaf of the store is looked at
  pub record LooksAt (old new : Store) (sight sight_after : Sight) (answer : Option Told) : Type 0 where
    pub before : LeafSeat
    pub was : slice_get old.leaves.items leaf.0 ≡ Some before
    pub seat : LeafSeat
    pub changes : ChangesLeaf leaf seat old new
    pub looks : LooksIf querying.machine.setting.plan querying.moment old.config.limit own_slots leaf before seat sight
        sight_after answer
