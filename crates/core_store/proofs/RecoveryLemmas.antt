-- A recovery at work: where it is by what it asks, and what is known of the seats that its next event needs.
use Rattle.std.proofs.Common.{◌≡◌, ◌∙◌, ℕ, ◌<◌, Option, Some, true, List, [], ◌∷◌, ◌++◌, length, refl, sym, ap, subst}
use Rattle.std.specs.Prelude.{Contains, is_some}
use Rattle.std.proofs.lemmas.List.{length-map}
use Rattle.std.proofs.lemmas.List.Elements.{Contains-append_left, Contains-push}
use Rattle.std.proofs.Common.{append_assoc}
use Rattle.core_store.specs.Holders.{HoldsLeaf, HoldsRange, IsCopyHolding, IsCopyInside}
use Rattle.mon_config.specs.declared.config.Config.{Config}
use Rattle.mon_topo.specs.RangeHistories.{serving}
use Rattle.mon_topo.specs.Settings.{Setting}
use Rattle.mon_topo.specs.Sights.{AreAlike, range_sight, sight_of}
use Rattle.mon_topo.specs.Views.{View, of_range}
use Rattle.mon_topo.specs.Zones.{leaves_in, ranges_in}
use Rattle.mon_topo.specs.declared.sights.Sight.{Sight}
use Rattle.mon_value.specs.declared.positions.FoundDown.{FoundDown}
use Rattle.mon_value.specs.declared.positions.Leaf.{Leaf}
use Rattle.mon_value.specs.declared.positions.Slot.{Slot}
use Rattle.mon_value.specs.declared.positions.SlotLeaf.{SlotLeaf}
use Rattle.mon_value.specs.declared.rows.Row.{Row}
use Rattle.core_store.proofs.SeatLemmas.{parts_alike}
use Rattle.core_store.specs.Agreements.{AreShared, IsLeafSo, IsRangeSo}
use Rattle.core_store.specs.Recoverers.{AsksOne, recovery_of}
use Rattle.core_store.specs.RecoverTurns.{HasCopied, IsOpening, RecoverWaits}
use Rattle.core_store.specs.RecoveryEvents.{IsSeatedAtRange}
use Rattle.core_store.specs.NextAsks.{holder_for_actor, holder_for_copy}
use Rattle.core_store.specs.Agreements.{store_of}
use Rattle.core_store.specs.Switches.{IsSeatedToSwitch}
use Rattle.core_store.specs.declared.recoveries.Recovering.{Recovering}
use Rattle.core_store.specs.declared.store.Store.{Store}
use Rattle.write_core.proofs.InsideLemmas.{opened_there}
use Rattle.write_core.proofs.StepLemmas.{recovery_of as kept_recovery}
use Rattle.core_store.proofs.WriteTurnLemmas.{some_of}
use Rattle.write_core.specs.CopyPhases.{copy_ask_of}
use Rattle.write_core.specs.CopySteps.{CanCopy, CanCopyAt, CanRecover, after_copy_event, copy_at, copy_step}
use Rattle.write_core.specs.Invariant.{IsCopyAt, IsRecovery}
use Rattle.write_core.specs.Recovering.{Beginning, Carrying, CopyStage, Copying, Nearing, Over, Telling, Within}
use Rattle.write_core.specs.declared.copies.CopyTold.{CopyTold}
use Rattle.write_core.specs.declared.copies.Outcome.{Outcome}
use Rattle.write_core.specs.World.{Actor, Recovers, Recovery, World, view_of}
use Rattle.write_core.specs.declared.copies.CopyAsk.{CopyAsk}
use Rattle.write_core.specs.declared.copies.CopyAsk.TheVariants as ask

-- ---- where a recovery is, by what it asks

-- at a replica in this slot, on this leaf
pub record AsksSource (stage : CopyStage) (slot : Slot) (leaf : Leaf) : Type 0 where
  pub founds : List FoundDown
  pub source : SlotLeaf
  pub left : List SlotLeaf
  pub is : stage ≡ Copying founds (source ∷ left)
  pub slot_is : source.slot ≡ slot
  pub leaf_is : source.leaf ≡ leaf

-- inside its leaf, with these buckets to be raised
pub record IsRaising (stage : CopyStage) (bucket : ℕ) : Type 0 where
  pub rows : List Row
  pub at_root : List ℕ
  pub in_zone : List ℕ
  pub is : stage ≡ Within rows (bucket ∷ at_root) in_zone

pub record IsRaisingInZone (stage : CopyStage) (bucket : ℕ) : Type 0 where
  pub rows : List Row
  pub in_zone : List ℕ
  pub is : stage ≡ Within rows [] (bucket ∷ in_zone)

-- what a stage is that asks so
abbrev pub StageOf : CopyAsk → CopyStage → Type 0
StageOf ask.Lock stage = stage ≡ Beginning
StageOf (ask.Copy slot leaf) stage = AsksSource stage slot leaf
StageOf ask.Reserve stage = (rows : List Row) × (stage ≡ Carrying rows)
StageOf ask.Enter stage = (rows : List Row) × (stage ≡ Nearing rows)
StageOf (ask.RaiseRoot bucket) stage = IsRaising stage bucket
StageOf (ask.RaiseZone bucket) stage = IsRaisingInZone stage bucket
StageOf ask.Put stage = (rows : List Row) × (stage ≡ Within rows [] [])
StageOf ask.Ack stage = (outcome : Outcome) × (stage ≡ Telling outcome)
StageOf ask.Finished stage = (outcome : Outcome) × (stage ≡ Over outcome)

stands_here : (stage : CopyStage) → AsksOne stage → StageOf (copy_ask_of stage) stage
stands_here Beginning h = refl
stands_here (Copying founds []) h = absurd h
stands_here (Copying founds (source ∷ left)) h =
    record { founds = founds; source = source; left = left; is = refl; slot_is = refl; leaf_is = refl }
stands_here (Carrying rows) h = (rows, refl)
stands_here (Nearing rows) h = (rows, refl)
stands_here (Within rows (bucket ∷ at_root) in_zone) h =
    record { rows = rows; at_root = at_root; in_zone = in_zone; is = refl }
stands_here (Within rows [] (bucket ∷ in_zone)) h = record { rows = rows; in_zone = in_zone; is = refl }
stands_here (Within rows [] []) h = (rows, refl)
stands_here (Telling outcome) h = (outcome, refl)
stands_here (Over outcome) h = (outcome, refl)

pub stands_at : (stage : CopyStage) → AsksOne stage → (asks : CopyAsk) → copy_ask_of stage ≡ asks → StageOf asks stage
stands_at stage h asks e = subst (λ (a : CopyAsk). StageOf a stage) e (stands_here stage h)

-- ---- in a world

module _ (config : Config) (world : World) (i : ℕ) (store : Store) (recovering : Recovering) (sight : Sight)
    (opening : IsOpening config world i store recovering sight) where
  abbrev setting : Setting
  setting = store_of config

  abbrev pub view : View
  view = view_of (world.actors i)

  abbrev pub who : Recovery
  who = recovery_of i recovering view

  pub own : IsRecovery (store_of config) world i who
  own = kept_recovery (store_of config) world i who opening.kept opening.recoverer.recovers

  pub at_ask : (asks : CopyAsk) → copy_ask_of recovering.machine ≡ asks → StageOf asks recovering.machine
  at_ask asks e = stands_at recovering.machine opening.recoverer.asks asks e

  pub own_at : (stage : CopyStage) → recovering.machine ≡ stage → IsCopyAt (store_of config) world i who stage
  own_at stage at =
      let here : IsCopyAt (store_of config) world i who recovering.machine = own.at in
      subst (λ (s : CopyStage). IsCopyAt (store_of config) world i who s) at here

  -- ---- the event of the core

  pub copy_is : (stage : CopyStage) (answer : CopyTold) → recovering.machine ≡ stage
      → copy_step (store_of config) world i answer ≡ copy_at (store_of config) world i who stage answer
  copy_is stage answer e =
      ap (λ (actor : Actor). after_copy_event (store_of config) world i actor answer) opening.recoverer.recovers
      ∙ ap (λ (s : CopyStage). copy_at (store_of config) world i who s answer) e

  pub can_copy : (stage : CopyStage) (answer : CopyTold) → recovering.machine ≡ stage
      → CanCopyAt (store_of config) world who stage answer → CanCopy (store_of config) world i answer
  can_copy stage answer e h =
      subst (λ (actor : Actor). CanRecover (store_of config) world actor answer) (sym opening.recoverer.recovers)
      (subst (λ (s : CopyStage). CanCopyAt (store_of config) world who s answer) (sym e) h)

  -- it came, and made this world
  pub came_so : (stage : CopyStage) (answer : CopyTold) → recovering.machine ≡ stage
      → CanCopyAt (store_of config) world who stage answer → (then' : World)
      → copy_at (store_of config) world i who stage answer ≡ then' → (new : Store) (now : Sight)
      → AreShared config then' new → now ≡ sight_of (view_of (then'.actors i)).seen
      → HasCopied config world i new now answer
  came_so stage answer at can then' is new now shared seen = record {
    can = can_copy stage answer at can;
    shared = subst (λ (w : World). AreShared config w new) (sym (copy_is stage answer at ∙ is)) shared;
    sight_is = seen ∙ ap (λ (w : World). sight_of (view_of (w.actors i)).seen) (sym (copy_is stage answer at ∙ is));
  }

  -- ---- its range

  pub range_there : recovering.range.0 < length store.ranges.items
  range_there = subst (λ (n : ℕ). recovering.range.0 < n) (sym opening.shared.ranges.count) own.aimed.range_there

  pub range_in_truth : recovering.range.0 < length world.truth.seen.ranges
  range_in_truth =
      subst (λ (n : ℕ). recovering.range.0 < n) (sym opening.kept.truth.held.all_ranges) own.aimed.range_there

  pub range_seated : IsSeatedAtRange recovering.range store.ranges.items sight
  range_seated seat was =
      let so : IsRangeSo world recovering.range.0 seat = opening.shared.ranges.each recovering.range.0 seat was in
      let parts = parts_alike (store_of config) world view (world.ranges recovering.range.0) own.part
      (opening.kept.ranges recovering.range) in
      let same : length seat.sight.ranges ≡ length (world.ranges recovering.range.0).seen.ranges
      = ap (λ (s : Sight). length s.ranges) so.sight
      ∙ length-map (world.ranges recovering.range.0).seen.ranges range_sight in
      let all : length (world.ranges recovering.range.0).seen.ranges ≡ length (ranges_in config.topology)
      = (opening.kept.ranges recovering.range).sound.held.all_ranges in (
        subst (λ (s : Sight). AreAlike s seat.sight) (sym opening.recoverer.seen)
            (subst (λ (s : Sight). AreAlike (sight_of view.seen) s) (sym so.sight) parts),
        subst (λ (n : ℕ). recovering.range.0 < n) (sym (same ∙ all)) own.aimed.range_there,
      )

  -- ---- a leaf

  module _ (leaf : Leaf) (here : leaf.0 < length (leaves_in config.topology)) where
    pub leaf_there : leaf.0 < length store.leaves.items
    leaf_there = subst (λ (n : ℕ). leaf.0 < n) (sym opening.shared.leaves.count) here

    pub leaf_in_truth : leaf.0 < length world.truth.seen.leaves
    leaf_in_truth = subst (λ (n : ℕ). leaf.0 < n) (sym opening.kept.truth.held.all_leaves) here

    pub leaf_seated : IsSeatedToSwitch leaf store.leaves.items sight
    leaf_seated seat was =
        let so : IsLeafSo config world leaf seat = opening.shared.leaves.each leaf.0 seat was in
        let parts = parts_alike (store_of config) world view (world.leaves leaf.0) own.part
        (opening.kept.leaves leaf) in
        let same : length seat.sight.leaves ≡ length (world.leaves leaf.0).seen.leaves
        = ap (λ (s : Sight). length s.leaves) so.sight ∙ length-map (world.leaves leaf.0).seen.leaves length in
        let all : length (world.leaves leaf.0).seen.leaves ≡ length (leaves_in config.topology)
        = (opening.kept.leaves leaf).sound.held.all_leaves in (
          subst (λ (s : Sight). AreAlike s seat.sight) (sym opening.recoverer.seen)
              (subst (λ (s : Sight). AreAlike (sight_of view.seen) s) (sym so.sight) parts),
          subst (λ (n : ℕ). leaf.0 < n) (sym (same ∙ all)) here,
        )

  pub own_leaf : recovering.leaf.0 < length (leaves_in config.topology)
  own_leaf = own.aimed.leaf_there

  source_listed : (founds : List FoundDown) (source : SlotLeaf) (left : List SlotLeaf)
      → recovering.machine ≡ Copying founds (source ∷ left) → source.leaf.0 < length (leaves_in config.topology)
  source_listed founds source left at =
      let here = own_at (Copying founds (source ∷ left)) at in
      let among : Contains (serving (of_range world.truth recovering.range)) source
      = subst (λ (all : List SlotLeaf). Contains all source)
      (append_assoc here.1.asked (source ∷ []) left ∙ here.1.all)
      (Contains-append_left (here.1.asked ++ source ∷ []) left source (Contains-push here.1.asked source)) in
      subst (λ (n : ℕ). source.leaf.0 < n) opening.kept.truth.held.all_leaves
      (opened_there world.truth.seen.leaves source.leaf.0 recovering.range source.slot
      (here.0.locked.settled.rows source among).opened)

  pub source_leaf : (slot : Slot) (leaf : Leaf) → copy_ask_of recovering.machine ≡ ask.Copy slot leaf
      → leaf.0 < length (leaves_in config.topology)
  source_leaf slot leaf e =
      let at : AsksSource recovering.machine slot leaf = at_ask (ask.Copy slot leaf) e in
      subst (λ (l : Leaf). l.0 < length (leaves_in config.topology)) at.leaf_is
      (source_listed at.founds at.source at.left at.is)

  -- ---- another one in its way

  pub waits_for : (holder : Option ℕ) (new : Store) (now : Sight) → is_some holder ≡ true
      → holder_for_actor world (world.actors i) ≡ holder → (holder ≡ Some i → ⊥) → AreShared config world new
      → now ≡ sight → RecoverWaits config world i new sight now
  waits_for holder new now some holds anothers shared same =
      let other = some_of holder some in
      record {
        other = other.0;
        holds = holds ∙ other.1;
        another = λ e. anothers (other.1 ∙ ap (λ (n : ℕ). Some n) e);
        shared = shared;
        seen = same;
      }

  pub needs : (stage : CopyStage) → recovering.machine ≡ stage
      → holder_for_actor world (world.actors i) ≡ holder_for_copy world who (copy_ask_of stage)
  needs stage at =
      ap (λ (actor : Actor). holder_for_actor world actor) opening.recoverer.recovers
      ∙ ap (λ (s : CopyStage). holder_for_copy world who (copy_ask_of s)) at

  -- who holds a range is past its lock, and who holds a leaf is inside of it
  pub not_mine_range : (stage : CopyStage) → recovering.machine ≡ stage → (IsCopyHolding stage → ⊥)
      → world.range_holder recovering.range.0 ≡ Some i → ⊥
  not_mine_range stage at none e =
      let mine : HoldsRange recovering.range.0 (Recovers who)
      = subst (λ (actor : Actor). HoldsRange recovering.range.0 actor) opening.recoverer.recovers
      (opening.holders.range recovering.range.0 i e) in
      none (subst (λ (s : CopyStage). IsCopyHolding s) at mine.1)

  pub not_mine_leaf : (stage : CopyStage) → recovering.machine ≡ stage → (IsCopyInside stage → ⊥) → (leaf : Leaf)
      → world.leaf_holder leaf.0 ≡ Some i → ⊥
  not_mine_leaf stage at none leaf e =
      let mine : HoldsLeaf leaf.0 (Recovers who)
      = subst (λ (actor : Actor). HoldsLeaf leaf.0 actor) opening.recoverer.recovers
      (opening.holders.leaf leaf.0 i e) in
      none (subst (λ (s : CopyStage). IsCopyInside s) at mine.1)
