-- A replica that is retired serves no longer, and all else is as it was.
use Rattle.std.proofs.Common.{◌≡◌, ℕ, ◌<◌, None, List, [], ◌∷◌, ◌++◌, length, map, refl, sym, ap, subst, ◌∙◌}
use Rattle.std.proofs.Common.{append-nil, inl, arith, zero, suc}
use Rattle.std.specs.Prelude.{Contains}
use Rattle.std.proofs.lemmas.List.{length-set}
use Rattle.std.proofs.lemmas.List.Concat.{flat_map-append}
use Rattle.std.proofs.lemmas.List.Elements.{Contains-append_right}
use Rattle.mon_value.specs.LeafHistories.{replica_turns}
use Rattle.mon_value.specs.declared.histories.RangeEntry.{RangeEntry}
use Rattle.mon_value.specs.declared.histories.RangeEntry.TheVariants as range_entry
use Rattle.mon_value.specs.declared.positions.Leaf.{Leaf}
use Rattle.mon_value.specs.declared.positions.Range.{Range}
use Rattle.mon_value.specs.declared.positions.Slot.{Slot}
use Rattle.mon_value.specs.declared.positions.SlotLeaf.{SlotLeaf}
use Rattle.mon_topo.specs.HeldHistories.{BeginsWith}
use Rattle.mon_topo.specs.RangeHistories as range_spec
use Rattle.mon_topo.specs.RangeHistories.{opened_slot, opened_slots, serving, turns_since}
use Rattle.mon_topo.specs.Settings.{Setting}
use Rattle.mon_topo.specs.Views.{IsSound, View, joined_view, of_leaf, of_range, with_range_entry}
use Rattle.mon_topo.proofs.HeldLemmas.{range_entry_other, range_entry_same}
use Rattle.mon_topo.proofs.HeldSteps.{retired_kept, serving_since}
use Rattle.mon_topo.proofs.RangeHistoryLemmas.{not_slot, serving-retired}
use Rattle.write_core.specs.Deeds.{acks_by, puts_by}
use Rattle.write_core.specs.Events.{CanRetire, MayRetire, retired}
use Rattle.write_core.specs.Events.{retires_with}
use Rattle.write_core.specs.declared.retirements.Retirement.{Retirement}
use Rattle.write_core.specs.declared.retirements.Retirement.TheVariants.{LastServing, NotServing, WasRetired}
use Rattle.write_core.specs.Invariant.{HasTurns, IsActor, IsKept, IsRangeSettled, IsStander, IsUnopened}
use Rattle.write_core.specs.Steps.{same_view}
use Rattle.write_core.specs.World.{Actor, Recovers, Stander, Stands, World, Writes, at_range, pass_of, stands_on}
use Rattle.write_core.proofs.AckLemmas.{contains_filter}
use Rattle.write_core.proofs.ChangeLemmas.{range_entry_sound, range_entry_up, range_entry_within}
use Rattle.write_core.proofs.DeedLemmas.{acks_stay}
use Rattle.write_core.proofs.MeetLemmas as meet
use Rattle.write_core.proofs.StepLemmas.{IsStep, ChangesRange, range_step}

module _ (setting : Setting) (world : World) (kept : IsKept setting world) (i : ℕ) (who : Stander)
    (is : world.actors i ≡ Stands who) (r : Range) where
  own : IsStander setting world who
  own = subst (λ (actor : Actor). IsActor setting world i actor) is (kept.actors i)

  abbrev g : List RangeEntry
  g = of_range world.truth r

  abbrev met : View
  met = joined_view who.view (world.ranges r.0)

  -- someone who stands by changes a range that nobody holds, and acknowledges nothing
  stands_kept : (change : View → View) → world.range_holder r.0 ≡ None → ChangesRange setting world i who.view r change
      → ((o : Range) → acks_by who.pass (of_range (change world.truth) o) ≡ acks_by who.pass (of_range world.truth o))
      → IsRangeSettled (change world.truth) r
      → IsStep setting world (at_range world i who.view r change None (stands_on who))
  stands_kept change free changes none settled =
      range_step setting world i who.view r change None (stands_on who) kept changes (inl free) (λ x. settled)
      (ap pass_of (sym is))
      (record {
        part = record { sound = changes.met; within = changes.within };
        unused = record {
          puts = λ l. ap (puts_by who.pass) (changes.leaves l) ∙ own.unused.puts l;
          acks = λ o. none o ∙ own.unused.acks o;
        };
      })

  looks_kept : world.range_holder r.0 ≡ None
      → IsStep setting world (at_range world i who.view r same_view None (stands_on who))
  looks_kept free =
      stands_kept same_view free (meet.quiet_range setting world i kept who.view own.part r) (λ o. refl)
      (kept.settled r free)

  module _ (slot : Slot) (leaf : Leaf) (there : r.0 < length world.truth.seen.ranges)
      (serves : Contains (serving g) (record { slot = slot; leaf = leaf })) (several : 1 < length (serving g)) where
    abbrev e : RangeEntry
    e = range_entry.Retired who.pass slot

    legal : range_spec.IsLegal setting.held setting.zones setting.points r g
    legal = kept.truth.held.legal r there

    slot_in : (xs : List SlotLeaf) (x : SlotLeaf) → Contains xs x → Contains (map (λ (one : SlotLeaf). one.slot) xs) x.slot
    slot_in [] x here = absurd (omega (arith, here.1))
    slot_in (first ∷ xs) x (zero, l, same) = (zero, omega arith, ap (λ (one : SlotLeaf). one.slot) same)
    slot_in (first ∷ xs) x (suc k, l, same) =
        Contains-append_right (first.slot ∷ []) (map (λ (one : SlotLeaf). one.slot) xs) x.slot
        (slot_in xs x (k, omega (arith, l), same))

    may : range_spec.MayFollow setting.held setting.zones setting.points r g e
    may = (slot_in (serving g) (record { slot = slot; leaf = leaf }) serves, several)

    module _ (view : View) (sound : IsSound setting view) (whole : of_range view r ≡ g) where
      here : r.0 < length view.seen.ranges
      here = subst (λ (n : ℕ). r.0 < n) (kept.truth.held.all_ranges ∙ sym sound.held.all_ranges) there

      old_turns : (replica : SlotLeaf) → Contains (serving g) replica
          → BeginsWith (replica_turns r replica.slot (of_leaf view replica.leaf)) (turns_since replica.slot g)
      old_turns = subst (λ (history : List RangeEntry). (replica : SlotLeaf) → Contains (serving history) replica
          → BeginsWith (replica_turns r replica.slot (of_leaf view replica.leaf)) (turns_since replica.slot history)) whole
          (sound.held.borne_out r here).kept

      retired_sound : IsSound setting (with_range_entry r e view)
      retired_sound =
          range_entry_sound view r e here setting sound
          (subst (λ (h : List RangeEntry). (replica : SlotLeaf) → Contains (serving (h ++ e ∷ [])) replica
          → BeginsWith (replica_turns r replica.slot (of_leaf view replica.leaf))
          (turns_since replica.slot (h ++ e ∷ []))) (sym whole)
          (retired_kept setting.held setting.zones setting.points r view.seen g legal old_turns who.pass slot))
          tt
          (subst (λ (h : List RangeEntry). range_spec.MayFollow setting.held setting.zones setting.points r h e)
          (sym whole) may)

    met_whole : of_range met r ≡ g
    met_whole = meet.met_whole setting world i kept who.view own.part r

    met_sound : IsSound setting met
    met_sound = meet.met_sound setting world i kept who.view own.part r

    there_met : r.0 < length met.seen.ranges
    there_met = here met met_sound met_whole

    changes : ChangesRange setting world i who.view r (with_range_entry r e)
    changes = record {
      truth = retired_sound world.truth kept.truth refl;
      met = retired_sound met met_sound met_whole;
      within = range_entry_within r e met world.truth there_met there met_whole
          (meet.met_within setting world i kept who.view own.part r);
      grows = range_entry_up world.truth r e there;
      count = length-set world.truth.seen.ranges r.0 (g ++ e ∷ []);
      whole = range_entry_same met.seen r e there_met ∙ ap (λ history. history ++ e ∷ []) met_whole
          ∙ sym (range_entry_same world.truth.seen r e there);
      others = range_entry_other world.truth.seen r e;
      leaves = λ l. refl;
      acks = λ pass apart. acks_stay pass world.truth r e there refl;
    }

    same_opened : opened_slots (g ++ e ∷ []) ≡ opened_slots g
    same_opened = flat_map-append opened_slot g (e ∷ []) ∙ append-nil (opened_slots g)

    -- whoever serves then has had the turns that it had
    settled_then : world.range_holder r.0 ≡ None → IsRangeSettled (with_range_entry r e world.truth) r
    settled_then free = record {
      rows = subst (λ (h : List RangeEntry). (replica : SlotLeaf) → Contains (serving h) replica
          → HasTurns (with_range_entry r e world.truth) r replica (turns_since replica.slot h)) (sym told)
          (λ replica among.
          (let before = contains_filter (not_slot slot) (serving g) replica
          (subst (λ (xs : List SlotLeaf). Contains xs replica) (serving-retired g who.pass slot) among) in
          let has = (kept.settled r free).rows replica before.0 in
          record {
            opened = has.opened;
            all = has.all ∙ sym (serving_since setting.held setting.zones setting.points r world.truth.seen g legal
                replica before.0 e ∙ append-nil (turns_since replica.slot g));
          }));
      fresh = subst (λ (h : List RangeEntry). IsUnopened (with_range_entry r e world.truth) r (length (opened_slots h)))
          (sym told)
          (subst (λ (n : ℕ). IsUnopened (with_range_entry r e world.truth) r n) (sym (ap length same_opened))
          (kept.settled r free).fresh);
    }
      where
        told : of_range (with_range_entry r e world.truth) r ≡ g ++ e ∷ []
        told = range_entry_same world.truth.seen r e there

    retire : world.range_holder r.0 ≡ None
        → IsStep setting world (at_range world i who.view r (with_range_entry r e) None (stands_on who))
    retire free =
        stands_kept (with_range_entry r e) free changes (acks_stay who.pass world.truth r e there refl) (settled_then free)

  stander_retires : (leaf : Leaf) (told : Retirement) → CanRetire world who r leaf told
      → IsStep setting world (at_range world i who.view r (retires_with r who.pass told) None (stands_on who))
  stander_retires leaf (WasRetired slot) can = retire slot leaf can.there can.tells.0 can.tells.1 can.free
  stander_retires leaf NotServing can = looks_kept can.free
  stander_retires leaf (LastServing slot) can = looks_kept can.free

-- whoever stands by may retire a replica of a range that nobody holds
pub retire_kept : (setting : Setting) (world : World) → IsKept setting world → (i : ℕ) (actor : Actor)
    → world.actors i ≡ actor → (r : Range) (leaf : Leaf) (told : Retirement) → MayRetire world actor r leaf told
    → IsStep setting world (retired world i actor r leaf told)
retire_kept setting world kept i (Writes writer) is r leaf told can = absurd can
retire_kept setting world kept i (Recovers recovery) is r leaf told can = absurd can
retire_kept setting world kept i (Stands who) is r leaf told can = stander_retires setting world kept i who is r leaf told can
