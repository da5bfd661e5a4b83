-- The events of a recovery at leaves, as the core has them.
use Rattle.std.proofs.Common.{◌≡◌, ◌∙◌, ℕ, ◌+◌, ◌<◌, ◌≤◌, ◌==◌, ◌&&◌, ◌||◌, not, Bool, true, Option, Some, None, List, [], ◌∷◌}
use Rattle.std.proofs.Common.{◌++◌, length, length-append, refl, sym, ap, subst, inl, inr, arith}
use Rattle.std.specs.Prelude.{slice_get}
use Rattle.std.proofs.lemmas.Bool.{and_parts, or_cases}
use Rattle.std.proofs.lemmas.List.Folds.{list_any-append}
use Rattle.std.proofs.lemmas.Option.{same_Some}
use Rattle.core_store.proofs.MeetingLemmas.{leaf_met}
use Rattle.core_store.specs.Holders.{IsCopyInside}
use Rattle.core_store.specs.Meetings.{sight_at_leaf}
use Rattle.leaf_store.proofs.BucketLemmas.{AllBelow, key_below}
use Rattle.leaf_store.specs.LeafStates.{key_buckets}
use Rattle.mon_config.specs.declared.config.Config.{Config}
use Rattle.mon_hints.specs.Hints.{history_buckets, rows_buckets}
use Rattle.mon_hints.specs.Formulas.{is_among}
use Rattle.mon_hints.specs.declared.places.Place.TheVariants as word
use Rattle.mon_schema.specs.Names.{SchemaLists}
use Rattle.mon_topo.proofs.HeldLemmas.{leaf_entry_other, leaf_entry_same}
use Rattle.mon_topo.proofs.LawfulLemmas.{few}
use Rattle.mon_topo.proofs.SightLemmas.{leaf_seen, noted_over}
use Rattle.mon_topo.specs.Settings.{Setting, zone_of_leaf}
use Rattle.mon_topo.specs.Sights.{sight_of, with_leaf_sight}
use Rattle.mon_topo.specs.Views.{View, joined_view, of_leaf, of_range, with_entry, with_root_bit, with_zone_bit}
use Rattle.mon_topo.specs.Zones.{leaves_in}
use Rattle.mon_topo.specs.declared.sights.Sight.{Sight}
use Rattle.mon_value.specs.Histories.{leaf_history, leaf_numbered}
use Rattle.mon_value.specs.LeafHistories.{IsWellFormed}
use Rattle.mon_value.specs.declared.histories.Entry.{Entry}
use Rattle.mon_value.specs.declared.histories.Entry.TheVariants as entry
use Rattle.mon_value.specs.declared.positions.FoundDown.{FoundDown}
use Rattle.mon_value.specs.declared.positions.Leaf.{Leaf}
use Rattle.mon_value.specs.declared.positions.Slot.{Slot}
use Rattle.mon_value.specs.declared.positions.SlotLeaf.{SlotLeaf}
use Rattle.mon_value.specs.declared.positions.Zone.{Zone}
use Rattle.mon_value.specs.declared.rows.Row.{Row}
use Rattle.core_store.proofs.PlaceLemmas.{place_below, root_there, zone_there, zone_word_there}
use Rattle.core_store.proofs.RaiseLemmas.{all_among}
use Rattle.core_store.proofs.RaiseTurnLemmas.{root_words, zone_words}
use Rattle.core_store.proofs.RecoveryLemmas.{AsksSource, IsRaising, IsRaisingInZone, at_ask, came_so, can_copy, copy_is}
use Rattle.core_store.proofs.RecoveryLemmas.{leaf_in_truth, needs, not_mine_leaf, own, own_at, own_leaf, waits_for}
use Rattle.core_store.proofs.SeatLemmas.{leaf_so_then, leaves_at_leaf, ranges_at_leaf, same_at_leaf, shared_at_leaf}
use Rattle.core_store.specs.Agreements.{AreWords, IsLeafSo, place_of_leaf}
use Rattle.core_store.specs.HintWords.{HasWord, HintTable, with_child_bit}
use Rattle.core_store.specs.WriteEvents.{IsHeldFrom}
use Rattle.core_store.specs.Recoverers.{OpensBelow, recovery_of}
use Rattle.core_store.specs.RecoverTurns.{AnswersSo, HasCopied, IsOpening, RecoverWaits}
use Rattle.core_store.specs.RecoveryEvents.{AsksLeafAt, IsAdmitted, MayFollowAt, MayRaise, MeetsLeaf}
use Rattle.core_store.specs.RecoveryEvents.{PutsAt, RaisesAt, leaf_child, nobody, root_word, tells_room, tells_rows}
use Rattle.core_store.specs.RecoveryEvents.{zone_child, zone_word}
use Rattle.core_store.specs.NextAsks.{holder_for_copy}
use Rattle.core_store.specs.Agreements.{store_of}
use Rattle.core_store.specs.WriteEvents.{ChangesLeaf}
use Rattle.core_store.specs.declared.leaves.LeafSeat.{LeafSeat}
use Rattle.core_store.specs.declared.recoveries.Recovering.{Recovering}
use Rattle.core_store.specs.declared.store.Store.{Store}
use Rattle.write_core.proofs.KeepsLemmas.{changed_same}
use Rattle.write_core.proofs.KeptLemmas.{run_kept}
use Rattle.write_core.proofs.ViewLemmas.{joined_whole_leaf}
use Rattle.write_core.specs.CopyPhases.{copy_ask_of, rows_copied}
use Rattle.write_core.specs.CopySteps.{CanCopyAt, IsToldAtTarget, IsToldBySource, IsToldByTarget, copy_at, copy_of}
use Rattle.write_core.specs.CopySteps.{copy_step, newcomer, next_slot}
use Rattle.write_core.specs.Events.{Copies}
use Rattle.write_core.specs.Invariant.{IsInside, IsKept}
use Rattle.write_core.specs.Recovering.{Carrying, CopyStage, Copying, Nearing, Telling, Within, copied_after, copying}
use Rattle.write_core.specs.declared.copies.CopyTold.{CopyTold}
use Rattle.write_core.specs.declared.copies.CopyTold.TheVariants.{Admits, Denies, Gives, HasRoom, Sources, WasDone}
use Rattle.write_core.specs.declared.copies.CopyTold.TheVariants.{WasDown, WasOpened}
use Rattle.write_core.specs.declared.copies.Outcome.TheVariants.{Opens}
use Rattle.write_core.specs.Steps.{AreUnraised, same_view}
use Rattle.write_core.specs.World.{Actor, Recovery, World, at_leaf, recovers_on, view_of}
use Rattle.write_core.specs.declared.copies.CopyAsk.TheVariants as ask

-- ---- buckets that are still to be raised are below their number

pub below_copying : (count : ℕ) (founds : List FoundDown) (sources : List SlotLeaf)
    → OpensBelow count (copying founds sources)
below_copying count founds [] = tt
below_copying count founds (source ∷ left) = tt

below_source : (count : ℕ) (founds : List FoundDown) (source : SlotLeaf) (left : List SlotLeaf) (answer : CopyTold)
    → OpensBelow count (copied_after (Copying founds (source ∷ left)) answer)
below_source count founds source left (Sources replicas) = tt
below_source count founds source left (Denies why) = tt
below_source count founds source left (Gives rows) = tt
below_source count founds source left HasRoom = tt
below_source count founds source left (Admits buckets) = tt
below_source count founds source left (WasDown cut) = below_copying count _ left
below_source count founds source left (WasOpened slot) = tt
below_source count founds source left WasDone = tt

below_room : (count : ℕ) (rows : List Row) (answer : CopyTold)
    → OpensBelow count (copied_after (Carrying rows) answer)
below_room count rows (Sources replicas) = tt
below_room count rows (Denies why) = tt
below_room count rows (Gives more) = tt
below_room count rows HasRoom = tt
below_room count rows (Admits buckets) = tt
below_room count rows (WasDown cut) = tt
below_room count rows (WasOpened slot) = tt
below_room count rows WasDone = tt

-- whether a bucket of these rows' series is one that no series of a history has
abbrev is_unraised_of : List Row → List Entry → ℕ → ℕ → SchemaLists → Bool
is_unraised_of rows history bucket count held =
    is_among bucket (rows_buckets (key_buckets count held) rows)
    && not (is_among bucket (history_buckets (key_buckets count held) history))

rows_below : (count bucket : ℕ) (held : SchemaLists) (rows : List Row) → 0 < count
    → is_among bucket (rows_buckets (key_buckets count held) rows) ≡ true → bucket < count
rows_below count bucket held [] some found = absurd cc
rows_below count bucket held (row ∷ rows) some found =
    let both : (is_among bucket (key_buckets count held row.key)
    || is_among bucket (rows_buckets (key_buckets count held) rows)) ≡ true
    = sym (list_any-append (λ other. bucket == other) (key_buckets count held row.key)
    (rows_buckets (key_buckets count held) rows)) ∙ found in
    elim (or_cases (is_among bucket (key_buckets count held row.key))
    (is_among bucket (rows_buckets (key_buckets count held) rows)) both) [
      | inl here ↦ key_below count bucket held row.key some here
      | inr later ↦ rows_below count bucket held rows some later
    ]

module _ (config : Config) (world : World) (i : ℕ) (store : Store) (recovering : Recovering) (sight : Sight)
    (opening : IsOpening config world i store recovering sight) where
  abbrev setting : Setting
  setting = store_of config

  abbrev view : View
  view = view_of (world.actors i)

  abbrev who : Recovery
  who = recovery_of i recovering view

  below_then : (stage : CopyStage) (answer : CopyTold) → recovering.machine ≡ stage
      → OpensBelow config.buckets (copied_after stage answer)
      → OpensBelow config.buckets (copied_after recovering.machine answer)
  below_then stage answer at h =
      subst (λ (s : CopyStage). OpensBelow config.buckets (copied_after s answer)) (sym at) h

  -- ---- a leaf that is asked

  module _ (leaf : Leaf) (before : LeafSeat) (was : slice_get store.leaves.items leaf.0 ≡ Some before) where
    so : IsLeafSo config world leaf before
    so = opening.shared.leaves.each leaf.0 before was

    module _ (stage : CopyStage) (at : recovering.machine ≡ stage) (holder : Option ℕ) (answer : CopyTold)
        (can : CanCopyAt setting world who stage answer)
        (is : copy_at setting world i who stage answer
        ≡ at_leaf world i view leaf same_view holder (recovers_on who (copied_after stage answer)))
        (new : Store) (seat : LeafSeat) (now : Sight) (changes : ChangesLeaf leaf seat store new)
        (meets : MeetsLeaf leaf before.state.history holder before seat sight now) where
      abbrev next : View → Actor
      next = recovers_on who (copied_after stage answer)

      abbrev met : View
      met = joined_view view (world.leaves leaf.0)

      history_is : seat.state.history ≡ of_leaf world.truth leaf
      history_is = meets.history_is ∙ so.history

      seen_is : now ≡ sight_of met.seen
      seen_is = meets.seen
          ∙ (λ k. sight_at_leaf leaf (so.history k) (opening.recoverer.seen k) (so.sight k))
          ∙ leaf_met setting world view leaf opening.kept (own config world i store recovering sight opening).part

      asked_so : HasCopied config world i new now answer
      asked_so =
          came_so config world i store recovering sight opening stage answer at can
          (at_leaf world i view leaf same_view holder next) is new now
          (shared_at_leaf config world i view leaf same_view (λ n apart. refl) (λ range. refl) refl holder next store new
          seat opening.shared changes
          (leaf_so_then config world i view leaf same_view holder next before seat now so meets.stays history_is
          meets.holder_is seen_is))
          (seen_is ∙ ap (λ (d : Actor). sight_of (view_of d).seen) (sym (changed_same world.actors i (next met))))

    -- or someone is inside of it
    held_up : (stage : CopyStage) → recovering.machine ≡ stage
        → holder_for_copy world who (copy_ask_of stage) ≡ world.leaf_holder leaf.0 → (IsCopyInside stage → ⊥)
        → (new : Store) (left : LeafSeat) (now : Sight) → ChangesLeaf leaf left store new
        → IsHeldFrom before.holder before left sight now → RecoverWaits config world i new sight now
    held_up stage at needed outside new left now changes held =
        waits_for config world i store recovering sight opening before.holder new now held.held
        (needs config world i store recovering sight opening stage at ∙ needed ∙ sym so.holder)
        (λ e. not_mine_leaf config world i store recovering sight opening stage at outside leaf (sym so.holder ∙ e))
        (same_at_leaf config world leaf store new left opening.shared changes
        (subst (λ (s : LeafSeat). IsLeafSo config world leaf s) (sym held.seat) so)) held.seen

  -- ---- its sources

  source_by : (founds : List FoundDown) (source : SlotLeaf) (left : List SlotLeaf)
      → recovering.machine ≡ Copying founds (source ∷ left) → (new : Store) (now : Sight) (answer : Option CopyTold)
      → AsksLeafAt (tells_rows recovering.range source.slot) nobody source.leaf store new sight now answer
      → AnswersSo config world i recovering new sight now answer
  source_by founds source left at new now (Some answer) did = (
    asked_so source.leaf did.before did.was (Copying founds (source ∷ left)) at None answer (
      sym (so source.leaf did.before did.was).holder ∙ did.asks.free,
      subst (λ (history : List Entry). IsToldBySource recovering.range source.slot history answer)
          (so source.leaf did.before did.was).history did.asks.told_so,
    )
        refl new did.seat now did.changes did.asks.meets,
    below_then (Copying founds (source ∷ left)) answer at (below_source config.buckets founds source left answer),
  )
  source_by founds source left at new now None did =
      held_up source.leaf did.before did.was (Copying founds (source ∷ left)) at refl (λ inside. inside) new did.seat
      now did.changes did.asks

  pub source_answers : (slot : Slot) (leaf : Leaf) → copy_ask_of recovering.machine ≡ ask.Copy slot leaf
      → (new : Store) (now : Sight) (answer : Option CopyTold)
      → AsksLeafAt (tells_rows recovering.range slot) nobody leaf store new sight now answer
      → AnswersSo config world i recovering new sight now answer
  source_answers slot leaf e new now answer did =
      let at : AsksSource recovering.machine slot leaf
      = at_ask config world i store recovering sight opening (ask.Copy slot leaf) e in
      source_by at.founds at.source at.left at.is new now answer
      (subst (λ (l : Leaf). AsksLeafAt (tells_rows recovering.range at.source.slot) nobody l store new sight now answer)
      (sym at.leaf_is)
      (subst (λ (s : Slot). AsksLeafAt (tells_rows recovering.range s) nobody leaf store new sight now answer)
      (sym at.slot_is) did))

  -- ---- its own leaf

  room_by : (rows : List Row) → recovering.machine ≡ Carrying rows → (new : Store) (now : Sight)
      (answer : Option CopyTold)
      → AsksLeafAt tells_room nobody recovering.leaf store new sight now answer
      → AnswersSo config world i recovering new sight now answer
  room_by rows at new now (Some answer) did = (
    asked_so recovering.leaf did.before did.was (Carrying rows) at None answer (
      sym (so recovering.leaf did.before did.was).holder ∙ did.asks.free,
      subst (λ (history : List Entry). IsToldByTarget history answer)
          (so recovering.leaf did.before did.was).history did.asks.told_so,
    )
        refl new did.seat now did.changes did.asks.meets,
    below_then (Carrying rows) answer at (below_room config.buckets rows answer),
  )
  room_by rows at new now None did =
      held_up recovering.leaf did.before did.was (Carrying rows) at refl (λ inside. inside) new did.seat now did.changes
      did.asks

  pub room_answers : copy_ask_of recovering.machine ≡ ask.Reserve → (new : Store) (now : Sight)
      (answer : Option CopyTold) → AsksLeafAt tells_room nobody recovering.leaf store new sight now answer
      → AnswersSo config world i recovering new sight now answer
  room_answers e new now answer did =
      let at = at_ask config world i store recovering sight opening ask.Reserve e in
      room_by at.0 at.1 new now answer did

  -- what it may be told as it enters
  admitted : (rows : List Row) (seat : LeafSeat) (answer : CopyTold) → IsLeafSo config world recovering.leaf seat
      → IsAdmitted rows seat.state answer
      → IsToldAtTarget setting (of_leaf world.truth recovering.leaf) rows answer
      × OpensBelow config.buckets (copied_after (Nearing rows) answer)
  admitted rows seat (Sources replicas) here told = absurd told
  admitted rows seat (Denies why) here told = absurd told
  admitted rows seat (Gives more) here told = absurd told
  admitted rows seat HasRoom here told = absurd told
  admitted rows seat (Admits buckets) here told =
      let all : AllBelow config.buckets buckets
      = all_among config.buckets buckets (λ bucket found.
      rows_below config.buckets bucket config.schemas rows opening.shared.served.limited.some
      (subst (λ (n : ℕ). is_among bucket (rows_buckets (key_buckets n config.schemas) rows) ≡ true) here.buckets
      (subst (λ (held : SchemaLists).
      is_among bucket (rows_buckets (key_buckets seat.state.buckets held) rows) ≡ true) here.schemas
      (and_parts (is_among bucket (rows_buckets (key_buckets seat.state.buckets seat.state.schemas) rows)) _
      (sym (told.1.same bucket) ∙ found)).0))) in
      let unraised : AreUnraised setting seat.state.history (rows_buckets setting.buckets_of rows) buckets = record {
        rising = told.1.rising;
        same = λ bucket. told.1.same bucket ∙ (λ k. is_unraised_of rows seat.state.history bucket (here.buckets k)
            (here.schemas k));
      } in (
        subst (λ (history : List Entry). IsToldAtTarget setting history rows (Admits buckets)) here.history
            (told.0, unraised),
        (all, all),
      )
  admitted rows seat (WasDown cut) here told = (
    subst (λ (history : List Entry). IsToldAtTarget setting history rows (WasDown cut)) here.history told,
    tt,
  )
  admitted rows seat (WasOpened slot) here told = absurd told
  admitted rows seat WasDone here told = absurd told

  entry_by : (rows : List Row) → recovering.machine ≡ Nearing rows → (new : Store) (now : Sight)
      (answer : Option CopyTold)
      → AsksLeafAt (IsAdmitted rows) (newcomer recovering.number) recovering.leaf store new sight now answer
      → AnswersSo config world i recovering new sight now answer
  entry_by rows at new now (Some answer) did =
      let told = admitted rows did.before answer (so recovering.leaf did.before did.was) did.asks.told_so in (
        asked_so recovering.leaf did.before did.was (Nearing rows) at (newcomer i answer) answer
            (sym (so recovering.leaf did.before did.was).holder ∙ did.asks.free, told.0)
            refl new did.seat now did.changes
            (subst (λ (n : ℕ). MeetsLeaf recovering.leaf did.before.state.history (newcomer n answer) did.before
            did.seat sight now) opening.recoverer.number did.asks.meets),
        below_then (Nearing rows) answer at told.1,
      )
  entry_by rows at new now None did =
      held_up recovering.leaf did.before did.was (Nearing rows) at refl (λ inside. inside) new did.seat now did.changes
      did.asks

  pub entry_answers : copy_ask_of recovering.machine ≡ ask.Enter → (rows : List Row)
      → Some rows ≡ rows_copied recovering.machine → (new : Store) (now : Sight) (answer : Option CopyTold)
      → AsksLeafAt (IsAdmitted rows) (newcomer recovering.number) recovering.leaf store new sight now answer
      → AnswersSo config world i recovering new sight now answer
  entry_answers e rows copied new now answer did =
      let at = at_ask config world i store recovering sight opening ask.Enter e in
      let same : rows ≡ at.0 = same_Some rows at.0 (copied ∙ ap rows_copied at.1) in
      entry_by at.0 at.1 new now answer
      (subst (λ (some : List Row). AsksLeafAt (IsAdmitted some) (newcomer recovering.number) recovering.leaf store new
      sight now answer) same did)

  -- ---- inside its leaf

  module _ (rows : List Row) (at_root in_zone : List ℕ) (at : recovering.machine ≡ Within rows at_root in_zone) where
    inside_is : IsInside setting world i view recovering.leaf (rows_buckets setting.buckets_of rows) at_root in_zone
    inside_is = (own_at config world i store recovering sight opening (Within rows at_root in_zone) at).1

    listed : recovering.leaf.0 < length (leaves_in config.topology)
    listed = own_leaf config world i store recovering sight opening

    buckets_below : OpensBelow config.buckets (Within rows at_root in_zone)
    buckets_below = subst (λ (s : CopyStage). OpensBelow config.buckets s) at opening.recoverer.below

    zone_small : (zone_of_leaf setting recovering.leaf).0 < 64
    zone_small =
        let most : length config.topology ≤ 32 = (few config.topology opening.shared.served.lawful.few).zones_few in
        let there : (zone_of_leaf setting recovering.leaf).0 < length config.topology = zone_there config
        recovering.leaf listed in
        omega (arith, most, there)

    place_small : place_of_leaf setting recovering.leaf < 64
    place_small =
        let most : length (leaves_in config.topology) ≤ 64 =
        (few config.topology opening.shared.served.lawful.few).leaves_few in
        let least : place_of_leaf setting recovering.leaf ≤ recovering.leaf.0 = place_below config recovering.leaf
        listed in
        let there : recovering.leaf.0 < length (leaves_in config.topology) = listed in
        omega (arith, most, least, there)

    -- a bit was set for its leaf
    module _ (before : LeafSeat) (was : slice_get store.leaves.items recovering.leaf.0 ≡ Some before) (new : Store)
        (seat : LeafSeat) (now : Sight)
        (meets : MeetsLeaf recovering.leaf before.state.history before.holder before seat sight now)
        (change : View → View) (stage : CopyStage) (seen_same : (v : View) → (change v).seen ≡ v.seen) where
      abbrev raise_met : View
      raise_met = joined_view view (world.leaves recovering.leaf.0)

      abbrev raise_next : View → Actor
      raise_next = recovers_on who stage

      abbrev raised_world : World
      raised_world = at_leaf world i view recovering.leaf change (Some i) raise_next

      before_so : IsLeafSo config world recovering.leaf before
      before_so = so recovering.leaf before was

      raised_history : seat.state.history ≡ of_leaf world.truth recovering.leaf
      raised_history = meets.history_is ∙ before_so.history

      raised_seen : now ≡ sight_of (change raise_met).seen
      raised_seen = meets.seen
          ∙ (λ k. sight_at_leaf recovering.leaf (before_so.history k) (opening.recoverer.seen k) (before_so.sight k))
          ∙ leaf_met setting world view recovering.leaf opening.kept
          (own config world i store recovering sight opening).part
          ∙ ap sight_of (sym (seen_same raise_met))

      raised_leaf : IsLeafSo config raised_world recovering.leaf seat
      raised_leaf =
          leaf_so_then config world i view recovering.leaf change (Some i) raise_next before seat now before_so
          meets.stays
          (raised_history ∙ ap (λ seen. leaf_history seen recovering.leaf) (sym (seen_same world.truth)))
          (meets.holder_is ∙ before_so.holder ∙ inside_is.holder) raised_seen

      raised_sight : now ≡ sight_of (view_of (raised_world.actors i)).seen
      raised_sight = raised_seen
          ∙ ap (λ (d : Actor). sight_of (view_of d).seen) (sym (changed_same world.actors i (raise_next (change
          raise_met))))

  pub may_raise_root : (bucket : ℕ) → copy_ask_of recovering.machine ≡ ask.RaiseRoot bucket
      → MayRaise root_word zone_child bucket recovering.leaf store
  may_raise_root bucket e seat was =
      let at : IsRaising recovering.machine bucket
      = at_ask config world i store recovering sight opening (ask.RaiseRoot bucket) e in
      let below = buckets_below at.rows (bucket ∷ at.at_root) at.in_zone at.is in
      let same : zone_of_leaf setting recovering.leaf ≡ seat.zone = sym (so recovering.leaf seat was).zone in (
        root_there config world store.words opening.shared.words bucket below.0.0,
        subst (λ (z : Zone). z.0 < 64) same (zone_small at.rows (bucket ∷ at.at_root) at.in_zone at.is),
      )

  pub may_raise_zone : (bucket : ℕ) → copy_ask_of recovering.machine ≡ ask.RaiseZone bucket
      → MayRaise zone_word leaf_child bucket recovering.leaf store
  may_raise_zone bucket e seat was =
      let at : IsRaisingInZone recovering.machine bucket
      = at_ask config world i store recovering sight opening (ask.RaiseZone bucket) e in
      let below = buckets_below at.rows [] (bucket ∷ at.in_zone) at.is in
      let same : zone_of_leaf setting recovering.leaf ≡ seat.zone = sym (so recovering.leaf seat was).zone in
      let place : place_of_leaf setting recovering.leaf ≡ seat.place = sym (so recovering.leaf seat was).place in (
        subst (λ (z : Zone). HasWord store.words (word.Zone z) bucket) same
            (zone_word_there config world store.words opening.shared.words bucket below.1.0
            (zone_of_leaf setting recovering.leaf)
            (zone_there config recovering.leaf (listed at.rows [] (bucket ∷ at.in_zone) at.is))),
        subst (λ (n : ℕ). n < 64) place (place_small at.rows [] (bucket ∷ at.in_zone) at.is),
      )

  pub root_answers : (bucket : ℕ) → copy_ask_of recovering.machine ≡ ask.RaiseRoot bucket → (new : Store) (now : Sight)
      (answer : CopyTold) → answer ≡ WasDone
      → RaisesAt root_word zone_child bucket recovering.leaf store new sight now
      → AnswersSo config world i recovering new sight now (Some answer)
  root_answers bucket e new now answer done did =
      let at : IsRaising recovering.machine bucket
      = at_ask config world i store recovering sight opening (ask.RaiseRoot bucket) e in
      subst (λ (a : CopyTold). AnswersSo config world i recovering new sight now (Some a)) (sym done)
      (root_by at.rows bucket at.at_root at.in_zone at.is new now did)
    where
      root_by : (rows : List Row) (bucket : ℕ) (at_root in_zone : List ℕ)
          → recovering.machine ≡ Within rows (bucket ∷ at_root) in_zone → (new : Store) (now : Sight)
          → RaisesAt root_word zone_child bucket recovering.leaf store new sight now
          → AnswersSo config world i recovering new sight now (Some WasDone)
      root_by rows bucket at_root in_zone at new now did =
          let change : View → View = with_root_bit (zone_of_leaf setting recovering.leaf) bucket in
          let next : View → Actor = recovers_on who (Within rows at_root in_zone) in
          let then' : World = at_leaf world i view recovering.leaf change (Some i) next in
          let below = buckets_below rows (bucket ∷ at_root) in_zone at in
          let words : AreWords config then' new.words
          = subst (λ (w : HintTable). AreWords config then' w)
          (sym (did.changes.words
          ∙ ap (λ (z : Zone). with_child_bit store.words word.Root z.0 bucket)
          (so recovering.leaf did.before did.was).zone))
          (root_words config world then' store.words opening.shared.words bucket below.0.0
          (zone_of_leaf setting recovering.leaf).0 (zone_small rows (bucket ∷ at_root) in_zone at)
          (λ z b. refl) (λ n b. refl)) in (
            came_so config world i store recovering sight opening (Within rows (bucket ∷ at_root) in_zone) WasDone at
                refl then' refl new now (record {
                  config_is = did.changes.config ∙ opening.shared.config_is;
                  served = opening.shared.served;
                  words = words;
                  leaves = leaves_at_leaf config world i view recovering.leaf change (λ n apart. refl) (λ range. refl)
                      (Some i) next store.leaves.items new.leaves.items did.seat opening.shared.leaves
                      did.changes.leaves
                      (raised_leaf rows (bucket ∷ at_root) in_zone at did.before did.was new did.seat now did.meets
                      change (Within rows at_root in_zone) (λ v. refl));
                  ranges = ranges_at_leaf config world i view recovering.leaf change (λ n apart. refl) (λ range. refl)
                      (Some i) next store.ranges.items new.ranges.items opening.shared.ranges did.changes.ranges;
                  first = did.changes.first ∙ opening.shared.first;
                })
                (raised_sight rows (bucket ∷ at_root) in_zone at did.before did.was new did.seat now did.meets
                change (Within rows at_root in_zone) (λ v. refl)),
            below_then (Within rows (bucket ∷ at_root) in_zone) WasDone at (below.0.1, below.1),
          )

  pub zone_answers : (bucket : ℕ) → copy_ask_of recovering.machine ≡ ask.RaiseZone bucket → (new : Store) (now : Sight)
      (answer : CopyTold) → answer ≡ WasDone
      → RaisesAt zone_word leaf_child bucket recovering.leaf store new sight now
      → AnswersSo config world i recovering new sight now (Some answer)
  zone_answers bucket e new now answer done did =
      let at : IsRaisingInZone recovering.machine bucket
      = at_ask config world i store recovering sight opening (ask.RaiseZone bucket) e in
      subst (λ (a : CopyTold). AnswersSo config world i recovering new sight now (Some a)) (sym done)
      (zone_by at.rows bucket at.in_zone at.is new now did)
    where
      zone_by : (rows : List Row) (bucket : ℕ) (in_zone : List ℕ)
          → recovering.machine ≡ Within rows [] (bucket ∷ in_zone) → (new : Store) (now : Sight)
          → RaisesAt zone_word leaf_child bucket recovering.leaf store new sight now
          → AnswersSo config world i recovering new sight now (Some WasDone)
      zone_by rows bucket in_zone at new now did =
          let change : View → View = with_zone_bit recovering.leaf bucket in
          let next : View → Actor = recovers_on who (Within rows [] in_zone) in
          let then' : World = at_leaf world i view recovering.leaf change (Some i) next in
          let below = buckets_below rows [] (bucket ∷ in_zone) at in
          let here = so recovering.leaf did.before did.was in
          let words : AreWords config then' new.words
          = subst (λ (w : HintTable). AreWords config then' w)
          (sym (did.changes.words
          ∙ (λ k. with_child_bit store.words (word.Zone (here.zone k)) (here.place k) bucket)))
          (zone_words config world then' store.words opening.shared.words bucket below.1.0 recovering.leaf
          (listed rows [] (bucket ∷ in_zone) at) (place_small rows [] (bucket ∷ in_zone) at)
          (λ z b. refl) (λ n b. refl)) in (
            came_so config world i store recovering sight opening (Within rows [] (bucket ∷ in_zone)) WasDone at
                refl then' refl new now (record {
                  config_is = did.changes.config ∙ opening.shared.config_is;
                  served = opening.shared.served;
                  words = words;
                  leaves = leaves_at_leaf config world i view recovering.leaf change (λ n apart. refl) (λ range. refl)
                      (Some i) next store.leaves.items new.leaves.items did.seat opening.shared.leaves
                      did.changes.leaves
                      (raised_leaf rows [] (bucket ∷ in_zone) at did.before did.was new did.seat now did.meets
                      change (Within rows [] in_zone) (λ v. refl));
                  ranges = ranges_at_leaf config world i view recovering.leaf change (λ n apart. refl) (λ range. refl)
                      (Some i) next store.ranges.items new.ranges.items opening.shared.ranges did.changes.ranges;
                  first = did.changes.first ∙ opening.shared.first;
                })
                (raised_sight rows [] (bucket ∷ in_zone) at did.before did.was new did.seat now did.meets
                change (Within rows [] in_zone) (λ v. refl)),
            below_then (Within rows [] (bucket ∷ in_zone)) WasDone at (tt, below.1.1),
          )

  -- ---- its replica is opened

  module _ (rows : List Row) (at : recovering.machine ≡ Within rows [] []) where
    abbrev last : Entry
    last = copy_of who (of_range world.truth recovering.range) rows

    abbrev slot : Slot
    slot = next_slot (of_range world.truth recovering.range)

    abbrev put_change : View → View
    put_change = with_entry recovering.leaf last

    abbrev put_next : View → Actor
    put_next = recovers_on who (Telling (Opens slot))

    abbrev put_world : World
    put_world = at_leaf world i view recovering.leaf put_change None put_next

    put_is : copy_step setting world i (WasOpened slot) ≡ put_world
    put_is = copy_is config world i store recovering sight opening (Within rows [] []) (WasOpened slot) at

    in_truth : recovering.leaf.0 < length world.truth.seen.leaves
    in_truth = leaf_in_truth config world i store recovering sight opening recovering.leaf
        (own_leaf config world i store recovering sight opening)

    history_then : of_leaf (put_change world.truth) recovering.leaf
        ≡ of_leaf world.truth recovering.leaf ++ last ∷ []
    history_then = leaf_entry_same world.truth.seen recovering.leaf last in_truth

    kept_then : IsKept setting (copy_step setting world i (WasOpened slot))
    kept_then =
        run_kept setting world (Copies i (WasOpened slot) ∷ [])
        (can_copy config world i store recovering sight opening (Within rows [] []) (WasOpened slot) at refl, tt)
        opening.kept

    pub formed_then : IsWellFormed (of_leaf world.truth recovering.leaf ++ last ∷ [])
    formed_then =
        let kept : IsKept setting put_world = subst (λ (w : World). IsKept setting w) put_is kept_then in
        let grown : length put_world.truth.seen.leaves ≡ length world.truth.seen.leaves
        = kept.truth.held.all_leaves ∙ sym opening.kept.truth.held.all_leaves in
        subst (λ (history : List Entry). IsWellFormed history) history_then
        (kept.truth.held.formed recovering.leaf (subst (λ (n : ℕ). recovering.leaf.0 < n) (sym grown) in_truth))

    module _ (new : Store) (now : Sight) (did : PutsAt recovering.leaf last store new sight now) where
      abbrev put_met : View
      put_met = joined_view view (world.leaves recovering.leaf.0)

      put_so : IsLeafSo config world recovering.leaf did.before
      put_so = so recovering.leaf did.before did.was

      put_history : did.seat.state.history ≡ of_leaf world.truth recovering.leaf ++ last ∷ []
      put_history = did.puts.history_is ∙ ap (λ (history : List Entry). history ++ last ∷ []) put_so.history

      met_whole : of_leaf put_met recovering.leaf ≡ of_leaf world.truth recovering.leaf
      met_whole = joined_whole_leaf view (world.leaves recovering.leaf.0) world.truth
          (own config world i store recovering sight opening).part.within (opening.kept.leaves recovering.leaf).within
          recovering.leaf (opening.kept.whole_leaves recovering.leaf)

      length_then : length (of_leaf world.truth recovering.leaf ++ last ∷ [])
          ≡ length (leaf_history put_met.seen recovering.leaf) + 1
      length_then = length-append (of_leaf world.truth recovering.leaf) (last ∷ [])
          ∙ ap (λ (history : List Entry). length history + 1) (sym met_whole)

      put_seen : now ≡ sight_of (put_change put_met).seen
      put_seen =
          did.puts.seen
          ∙ (λ k. sight_at_leaf recovering.leaf (put_so.history k ++ last ∷ []) (opening.recoverer.seen k)
          (put_so.sight k))
          ∙ noted_over recovering.leaf (of_leaf world.truth recovering.leaf)
          (of_leaf world.truth recovering.leaf ++ last ∷ [])
          (sight_of view.seen) (sight_of (world.leaves recovering.leaf.0).seen) (sight_of put_met.seen)
          (leaf_met setting world view recovering.leaf opening.kept
          (own config world i store recovering sight opening).part)
          ∙ ap (λ (n : ℕ). with_leaf_sight recovering.leaf n (sight_of put_met.seen)) length_then
          ∙ sym (leaf_seen recovering.leaf last put_met.seen)

      put_so_then : AnswersSo config world i recovering new sight now (Some (WasOpened slot))
      put_so_then = (
        came_so config world i store recovering sight opening (Within rows [] []) (WasOpened slot) at refl put_world
            refl new now
            (shared_at_leaf config world i view recovering.leaf put_change
            (λ n apart. leaf_entry_other world.truth.seen recovering.leaf last (leaf_numbered n) apart) (λ range. refl)
            refl None put_next store new did.seat opening.shared did.changes
            (leaf_so_then config world i view recovering.leaf put_change None put_next did.before did.seat now put_so
            did.puts.stays (put_history ∙ sym history_then) did.puts.holder_is put_seen))
            (put_seen ∙ ap (λ (d : Actor). sight_of (view_of d).seen)
            (sym (changed_same world.actors i (put_next (put_change put_met))))),
        below_then (Within rows [] []) (WasOpened slot) at tt,
      )

  -- by what is put there
  module _ (e : copy_ask_of recovering.machine ≡ ask.Put) (place : Slot)
      (place_is : place ≡ next_slot (of_range world.truth recovering.range)) (rows : List Row)
      (copied : Some rows ≡ rows_copied recovering.machine) where
    last_is : (at : (rows : List Row) × (recovering.machine ≡ Within rows [] []))
        → entry.Opened recovering.number recovering.range place rows
        ≡ copy_of who (of_range world.truth recovering.range) at.0
    last_is at =
        let same : rows ≡ at.0 = same_Some rows at.0 (copied ∙ ap rows_copied at.1) in
        (λ k. entry.Opened (opening.recoverer.number k) recovering.range (place_is k) (same k))

    pub copy_follows : MayFollowAt recovering.leaf
        (entry.Opened recovering.number recovering.range place rows) store
    copy_follows seat was =
        let at = at_ask config world i store recovering sight opening ask.Put e in
        subst (λ (x : Entry). IsWellFormed (seat.state.history ++ x ∷ [])) (sym (last_is at))
        (subst (λ (history : List Entry).
        IsWellFormed (history ++ copy_of who (of_range world.truth recovering.range) at.0 ∷ []))
        (sym (so recovering.leaf seat was).history) (formed_then at.0 at.1))

    pub put_answers : (new : Store) (now : Sight)
        → PutsAt recovering.leaf (entry.Opened recovering.number recovering.range place rows) store new sight now
        → AnswersSo config world i recovering new sight now (Some (WasOpened place))
    put_answers new now did =
        let at = at_ask config world i store recovering sight opening ask.Put e in
        subst (λ (s : Slot). AnswersSo config world i recovering new sight now (Some (WasOpened s))) (sym place_is)
        (put_so_then at.0 at.1 new now
        (subst (λ (x : Entry). PutsAt recovering.leaf x store new sight now) (last_is at) did))
