-- What a query is told that is true of histories: of those that its caller has seen, before and after.
use Rattle.std.specs.Prelude.{◌≡◌, ◌-◌, ℕ, ℤ, Bool, true, false, List, [], length, map, take, slice_get}
use Rattle.std.specs.Prelude.{Option, Some, None}
use Rattle.std.specs.List.{AllByRecursion, range_with_len}
use Rattle.mon_hints.specs.Hints.{history_buckets, has_bit}
use Rattle.mon_meaning.specs.LeafAnswers.{IsLeafPart, IsOverLeaf}
use Rattle.mon_value.specs.Histories.{leaf_history, range_history, range_numbered}
use Rattle.mon_value.specs.declared.histories.Histories.{Histories}
use Rattle.mon_topo.specs.Settings.{Setting}
use Rattle.mon_topo.specs.Views.{View}
use Rattle.mon_topo.specs.Zones.{first_leaf, leaf_zones}
use Rattle.mon_topo.specs.declared.zones.ZoneSpec.{ZoneSpec}
use Rattle.mon_value.specs.LeafHistories.{is_down}
use Rattle.mon_value.specs.declared.positions.Leaf.{Leaf}
use Rattle.mon_value.specs.declared.positions.Range.{Range}
use Rattle.mon_value.specs.declared.positions.RangeSlot.{RangeSlot}
use Rattle.mon_value.specs.declared.positions.SlotLeaf.{SlotLeaf}
use Rattle.mon_value.specs.declared.positions.Zone.{Zone}
use Rattle.mon_value.specs.declared.rows.Row.{Row}
use Rattle.query_traces.specs.declared.answers.Resolved.{Resolved}
use Rattle.query_traces.specs.declared.asks.Ask.{Ask}
use Rattle.query_traces.specs.declared.asks.Ask.TheVariants as ask
use Rattle.query_traces.specs.declared.asks.Seen.{Seen}
use Rattle.query_traces.specs.declared.asks.Told.{Told}
use Rattle.query_traces.specs.declared.asks.Told.TheVariants as told
use Rattle.query_traces.specs.Rounds.{typed_of, QuerySetting}
use Rattle.plan_split.specs.Meeting.{is_plan_met}
use Rattle.query_traces.specs.Traces.{IsBetween, replica_of}
use Rattle.mon_meaning.specs.ReadableSlots.{slot_rows}
use Rattle.mon_topo.specs.RangeHistories.{first_serving}

-- a length of each leaf's history, and of each range the first slot that serves in its history
pub record IsSeenSo (seen : Histories) (told : Seen) : Type 0 where
  pub cuts : told.cuts ≡ map length seen.leaves
  pub ranges : map (λ (one : Resolved). one.range) told.firsts
      ≡ map range_numbered (range_with_len 0 (length seen.ranges))
  pub firsts : AllByRecursion
      (λ (one : Resolved). first_serving [] (range_history seen one.range) ≡ Some (replica_of one)) told.firsts

-- a word of the root's has every bit that was known
pub record IsRootWord (before : View) (bucket word : ℕ) (told : Seen) : Type 0 where
  pub known : (zone : ℕ) → before.bits.root zone bucket ≡ true → has_bit word zone ≡ true
  pub seen_so : IsSeenSo before.seen told

-- a word of a zone's has every bit that was known; a leaf's bit is that of its place in the zone
pub record IsZoneWord (zones : List ZoneSpec) (before : View) (zone : Zone) (bucket word : ℕ) (told : Seen)
    : Type 0 where
  pub known : (leaf : Leaf) → slice_get (leaf_zones zones) leaf.0 ≡ Some zone
      → before.bits.zone leaf.0 bucket ≡ true → has_bit word (leaf.0 - first_leaf zones zone.0) ≡ true
  pub seen_so : IsSeenSo before.seen told

-- a range resolves so at the length that is found now, and all of it is seen then
pub record IsResolvedSo (before after : View) (avoided : List Leaf) (range : Range) (found_slot : Option SlotLeaf)
    : Type 0 where
  pub found : ℕ
  pub between : IsBetween (length (range_history before.seen range)) (length (range_history after.seen range)) found
  pub first : first_serving avoided (take found (range_history after.seen range)) ≡ found_slot
  pub whole : found ≡ length (range_history after.seen range)

-- a leaf is found so at the length that is found now, and all of it is seen then
pub record IsFoundSo (before after : View) (leaf : Leaf) (cut : ℕ) (down : Bool) : Type 0 where
  pub between : IsBetween (length (leaf_history before.seen leaf)) (length (leaf_history after.seen leaf)) cut
  pub is : is_down (take cut (leaf_history after.seen leaf)) ≡ down
  pub whole : cut ≡ length (leaf_history after.seen leaf)

module _ (store : Setting) (setting : QuerySetting) (moment : ℤ) where
  -- whether a formula holds of a leaf's buckets at a cut
  abbrev pub is_met_at : View → Leaf → ℕ → Bool
  is_met_at after leaf cut =
      is_plan_met setting.plan (history_buckets store.buckets_of (take cut (leaf_history after.seen leaf)))

  -- the rows of the slots that resolved to the leaf, at a cut
  abbrev pub rows_at_cut : View → Leaf → ℕ → List RangeSlot → List Row
  rows_at_cut after leaf cut slots = slot_rows (take cut (leaf_history after.seen leaf)) slots

  -- an answer to an ask is true, where these leaves were avoided, and these slots resolved to the leaf that was visited
  abbrev pub IsTrueAnswer : View → View → List Leaf → List RangeSlot → Ask → Told → Type 0
  IsTrueAnswer before after avoided slots (ask.LoadRoot bucket) (told.Word word seen) =
      IsRootWord before bucket word seen
  IsTrueAnswer before after avoided slots (ask.LoadZone zone bucket) (told.Word word seen) =
      IsZoneWord store.zones before zone bucket word seen
  IsTrueAnswer before after avoided slots (ask.Resolve range) (told.Slot slot leaf) =
      IsResolvedSo before after avoided range (Some (record { slot = slot; leaf = leaf }))
  IsTrueAnswer before after avoided slots (ask.Resolve range) told.NoSlot = IsResolvedSo before after avoided range None
  IsTrueAnswer before after avoided slots (ask.Visit leaf) (told.Down cut) = IsFoundSo before after leaf cut true
  IsTrueAnswer before after avoided slots (ask.Visit leaf) (told.Unread cut) =
      IsFoundSo before after leaf cut false × (is_met_at after leaf cut ≡ false)
  IsTrueAnswer before after avoided slots (ask.Visit leaf) (told.Read cut answer) =
      IsFoundSo before after leaf cut false × (is_met_at after leaf cut ≡ true)
      × IsLeafPart (typed_of setting) (rows_at_cut after leaf cut slots) moment setting.limit answer
  IsTrueAnswer before after avoided slots (ask.Visit leaf) (told.Over load cut) =
      IsFoundSo before after leaf cut false × (is_met_at after leaf cut ≡ true)
      × IsOverLeaf (typed_of setting) (rows_at_cut after leaf cut slots) moment setting.limit (record { load = load })
  IsTrueAnswer before after avoided slots asked answer = ⊥
