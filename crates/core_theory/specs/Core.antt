-- The core: writes, recoveries and queries, one event after another, in any order.
use Rattle.std.specs.Prelude.{ℕ, ℤ, ◌≡◌, ◌-◌, ◌&&◌, nat_eq, Bool, true, false, List, [], ◌∷◌, ◌++◌, length, slice_get}
use Rattle.std.specs.Prelude.{Some, None}
use Rattle.mon_hints.specs.Covers.{Bits, joined_bits}
use Rattle.mon_hints.specs.Hints.{history_buckets, has_bit}
use Rattle.mon_meaning.specs.LeafAnswers.{IsLeafPart, IsOverLeaf}
use Rattle.mon_topo.specs.Settings.{zone_of_leaf}
use Rattle.mon_topo.specs.Settings.{Setting}
use Rattle.mon_value.specs.Histories.{leaf_numbered}
use Rattle.mon_topo.specs.Zones.{first_leaf, leaf_zones}
use Rattle.mon_value.specs.LeafHistories.{is_down}
use Rattle.mon_value.specs.declared.positions.Leaf.{Leaf}
use Rattle.mon_value.specs.declared.positions.RangeSlot.{RangeSlot}
use Rattle.mon_value.specs.declared.positions.Zone.{Zone}
use Rattle.mon_value.specs.declared.rows.Row.{Row}
use Rattle.query_core.specs.Machine.{Query, slots_at}
use Rattle.query_core.specs.Mixtures.{Settles}
use Rattle.query_traces.specs.Rounds.{typed_of, QuerySetting}
use Rattle.plan_split.specs.Meeting.{is_plan_met}
use Rattle.query_core.specs.Program.{after, ask_of}
use Rattle.query_core.specs.Sessions as session
use Rattle.query_core.specs.Sessions.{query_after}
use Rattle.query_traces.specs.TrueAnswers.{IsSeenSo}
use Rattle.mon_meaning.specs.ReadableSlots.{slot_rows}
use Rattle.mon_topo.specs.RangeHistories.{first_serving}
use Rattle.query_traces.specs.declared.asks.Ask.{Ask}
use Rattle.query_traces.specs.declared.asks.Ask.TheVariants as ask
use Rattle.query_traces.specs.declared.asks.Told.{Told}
use Rattle.query_traces.specs.declared.asks.Told.TheVariants as told
use Rattle.query_core.specs.declared.stages.Stage.{Stage}
use Rattle.write_core.specs.Events.{CanHappen, Event, after_event, after_resolving, after_visit}
use Rattle.mon_topo.specs.Views.{View, joined_view, of_leaf, of_range}
use Rattle.write_core.specs.World.{IsPart, World, with_value_at}

-- ---- what a query is told of its next event

-- the word of the root's for a bucket has the bits of just the zones that are set there
pub record IsWordOfRoot (world : World) (bucket word : ℕ) : Type 0 where
  pub bits : (zone : ℕ) → has_bit word zone ≡ world.truth.bits.root zone bucket

-- and that of a zone's those of its leaves; a leaf's bit stands at its place in the zone
pub record IsWordOfZone (store : Setting) (world : World) (zone : Zone) (bucket word : ℕ) : Type 0 where
  pub bits : (leaf : Leaf) → slice_get (leaf_zones store.zones) leaf.0 ≡ Some zone
      → has_bit word (leaf.0 - first_leaf store.zones zone.0) ≡ world.truth.bits.zone leaf.0 bucket

-- a leaf that nobody holds is found up or down at the whole of its history
pub record IsLookedAt (world : World) (leaf : Leaf) (cut : ℕ) (down : Bool) : Type 0 where
  pub free : world.leaf_holder leaf.0 ≡ None
  pub whole : cut ≡ length (of_leaf world.truth leaf)
  pub is : is_down (of_leaf world.truth leaf) ≡ down

module _ (store : Setting) (setting : QuerySetting) (moment : ℤ) (world : World) (view : View) where
  -- whether a formula of the query's plan holds of a leaf's buckets
  abbrev pub is_met_on : Leaf → Bool
  is_met_on leaf = is_plan_met setting.plan (history_buckets store.buckets_of (of_leaf world.truth leaf))

  -- the rows of slots of a leaf
  abbrev pub rows_of_slots : Leaf → List RangeSlot → List Row
  rows_of_slots leaf slots = slot_rows (of_leaf world.truth leaf) slots

  -- a query that avoids these leaves, and to which these slots of the leaf that it visits resolved, does an event and
  -- is told so: a word as it stands; the first replica that serves, of a range that nobody holds; of a leaf that
  -- nobody holds whether it is up, whether the query reads it, and its part of the query
  abbrev pub IsTold : List Leaf → List RangeSlot → Ask → Told → Type 0
  IsTold avoided slots (ask.LoadRoot bucket) (told.Word word seen) =
      IsWordOfRoot world bucket word × IsSeenSo view.seen seen
  IsTold avoided slots (ask.LoadZone zone bucket) (told.Word word seen) =
      IsWordOfZone store world zone bucket word × IsSeenSo view.seen seen
  IsTold avoided slots (ask.Resolve range) (told.Slot slot leaf) =
      (world.range_holder range.0 ≡ None)
      × (first_serving avoided (of_range world.truth range) ≡ Some (record { slot = slot; leaf = leaf }))
  IsTold avoided slots (ask.Resolve range) told.NoSlot =
      (world.range_holder range.0 ≡ None) × (first_serving avoided (of_range world.truth range) ≡ None)
  IsTold avoided slots (ask.Visit leaf) (told.Down cut) = IsLookedAt world leaf cut true
  IsTold avoided slots (ask.Visit leaf) (told.Unread cut) = IsLookedAt world leaf cut false × (is_met_on leaf ≡ false)
  IsTold avoided slots (ask.Visit leaf) (told.Read cut answer) =
      IsLookedAt world leaf cut false × (is_met_on leaf ≡ true)
      × IsLeafPart (typed_of setting) (rows_of_slots leaf slots) moment setting.limit answer
  IsTold avoided slots (ask.Visit leaf) (told.Over load cut) =
      IsLookedAt world leaf cut false × (is_met_on leaf ≡ true)
      × IsOverLeaf (typed_of setting) (rows_of_slots leaf slots) moment setting.limit (record { load = load })
  IsTold avoided slots asked answer = ⊥

  -- ---- what its caller has seen and knows then, and what it leaves behind

  -- the bits of the root's word for a bucket
  abbrev pub root_word_bits : ℕ → Bits
  root_word_bits bucket = record {
    root = λ zone b. nat_eq b bucket && world.truth.bits.root zone b;
    zone = λ leaf b. false;
  }

  -- the bits of a zone's word for a bucket
  abbrev pub zone_word_bits : Zone → ℕ → Bits
  zone_word_bits zone bucket = record {
    root = λ z b. false;
    zone = λ leaf b. (nat_eq b bucket && nat_eq (zone_of_leaf store (leaf_numbered leaf)).0 zone.0)
        && world.truth.bits.zone leaf b;
  }

  abbrev pub with_bits : Bits → View
  with_bits bits = record { seen = view.seen; bits = joined_bits view.bits bits }

  -- a loaded word's bits are known; who looks at a range or a leaf has seen and knows what was seen and known there
  abbrev pub view_then : Ask → View
  view_then (ask.LoadRoot bucket) = with_bits (root_word_bits bucket)
  view_then (ask.LoadZone zone bucket) = with_bits (zone_word_bits zone bucket)
  view_then (ask.Resolve range) = joined_view view (world.ranges range.0)
  view_then (ask.Visit leaf) = joined_view view (world.leaves leaf.0)
  view_then ask.Finished = view

  -- and there as much is seen and known
  abbrev pub world_then : Ask → World
  world_then (ask.LoadRoot bucket) = world
  world_then (ask.LoadZone zone bucket) = world
  world_then (ask.Resolve range) = after_resolving world range view
  world_then (ask.Visit leaf) = after_visit world leaf view
  world_then ask.Finished = world

-- ---- queries side by side with writes and recoveries

module _ (store : Setting) where
  -- a query: how it began, what its caller had seen and knew then, what it was told so far, and what its caller has
  -- seen and knows now
  pub record Reader : Type 0 where
    pub setting : QuerySetting
    pub moment : ℤ
    pub first : Query
    pub begin : View
    pub session : List (session.Event store setting moment)
    pub view : View

  -- how far it is
  abbrev pub query_now : Reader → Query
  query_now reader = query_after store reader.setting reader.moment reader.first reader.session

  abbrev pub asked_now : Reader → Ask
  asked_now reader = ask_of reader.setting (query_now reader).stage

  -- told so, and gone on to a stage
  abbrev pub told_on : Reader → Told → View → Stage → Reader
  told_on reader answer view stage = record {
    setting = reader.setting;
    moment = reader.moment;
    first = reader.first;
    begin = reader.begin;
    session = reader.session ++ record { answer = answer; view = view; stage = stage } ∷ [];
    view = view;
  }

  -- one that was told nothing so far learns what someone has seen
  abbrev pub begun_with : Reader → View → Reader
  begun_with reader view = record {
    setting = reader.setting;
    moment = reader.moment;
    first = reader.first;
    begin = view;
    session = [];
    view = view;
  }

  -- all that writes and recoveries share, and they themselves; and the queries
  pub record Core : Type 0 where
    pub world : World
    pub readers : ℕ → Reader

  -- something happens among the writes and recoveries; a query does its next event; or one that has not begun learns
  -- what someone has seen
  pub data CoreEvent : Type 0 where
    Happens : Event → CoreEvent
    Tells : ℕ → Told → Stage → CoreEvent
    Hears : ℕ → View → CoreEvent

  abbrev pub MayTell : World → Reader → Told → Stage → Type 0
  MayTell world reader answer stage =
      IsTold store reader.setting reader.moment world reader.view (query_now reader).avoided
      (slots_at (query_now reader))
      (asked_now reader) answer
      × Settles reader.setting (after reader.setting (query_now reader).stage answer) stage

  abbrev pub CanCome : Core → CoreEvent → Type 0
  CanCome core (Happens event) = CanHappen store core.world event
  CanCome core (Tells i answer stage) = MayTell core.world (core.readers i) answer stage
  CanCome core (Hears i view) = ((core.readers i).session ≡ []) × IsPart store core.world view

  abbrev pub view_told : World → Reader → View
  view_told world reader = view_then store reader.setting reader.moment world reader.view (asked_now reader)

  abbrev pub world_told : World → Reader → World
  world_told world reader = world_then store reader.setting reader.moment world reader.view (asked_now reader)

  abbrev pub came : Core → CoreEvent → Core
  came core (Happens event) = record { world = after_event store core.world event; readers = core.readers }
  came core (Tells i answer stage) = record {
    world = world_told core.world (core.readers i);
    readers = with_value_at core.readers i
        (told_on (core.readers i) answer (view_told core.world (core.readers i)) stage);
  }
  came core (Hears i view) = record {
    world = core.world;
    readers = with_value_at core.readers i (begun_with (core.readers i) (joined_view (core.readers i).view view));
  }

  -- any events in any order
  abbrev pub CanGoOn : Core → List CoreEvent → Type 0
  CanGoOn core [] = Unit {0}
  CanGoOn core (event ∷ events) = CanCome core event × CanGoOn (came core event) events

  abbrev pub core_gone_on : Core → List CoreEvent → Core
  core_gone_on core [] = core
  core_gone_on core (event ∷ events) = core_gone_on (came core event) events
