-- A recovery opens its replica and tells its range, so all its events keep the invariant.
use Rattle.std.proofs.Common.{◌≡◌, ◌≢◌, ℕ, suc, ◌+◌, ◌<◌, ◌≤◌, true, false, ◌||◌, Some, None, List, [], ◌∷◌, ◌++◌}
use Rattle.std.proofs.Common.{length, refl, sym, ap, subst, ◌∙◌, append-nil, length-append, arith, inl, inr}
use Rattle.std.specs.Prelude.{nat_eq, Contains}
use Rattle.std.proofs.lemmas.Bool.{and_from, and_left, and_right, eq-eqb, ne_eqb, or_right}
use Rattle.std.proofs.lemmas.List.{length-set, take_at}
use Rattle.std.proofs.lemmas.List.Elements.{Contains-push, Contains-push_cases}
use Rattle.mon_hints.specs.Formulas.{is_among}
use Rattle.mon_value.specs.LeafHistories as leaf_spec
use Rattle.mon_value.specs.LeafHistories.{is_opened, replica_turns, IsSource}
use Rattle.mon_value.proofs.KeptRowLemmas.{in_turn, replica_turns-push}
use Rattle.mon_topo.proofs.HeldSteps.{opened_kept, serving_since}
use Rattle.mon_topo.proofs.TurnsSinceLemmas.{since_opened}
use Rattle.mon_value.specs.declared.histories.Entry.{Entry}
use Rattle.mon_value.specs.declared.histories.RangeEntry.{RangeEntry}
use Rattle.mon_value.specs.declared.histories.RangeEntry.TheVariants as range_entry
use Rattle.mon_value.specs.declared.positions.Leaf.{Leaf}
use Rattle.mon_value.specs.declared.positions.Range.{Range}
use Rattle.mon_value.specs.declared.positions.Slot.{Slot}
use Rattle.mon_value.specs.declared.positions.SlotLeaf.{SlotLeaf}
use Rattle.mon_value.specs.declared.rows.Row.{Row}
use Rattle.mon_value.proofs.LeafHistoryLemmas.{opened_more}
use Rattle.mon_topo.specs.HeldHistories.{BeginsWith, IsBorneOut, IsOpened}
use Rattle.mon_topo.specs.RangeHistories as range_spec
use Rattle.mon_topo.specs.RangeHistories.{left_rows, opened_slots, serving, turns_since}
use Rattle.mon_topo.specs.Settings.{Setting, zone_of_leaf}
use Rattle.mon_topo.proofs.FrontLemmas.{contains_on}
use Rattle.mon_topo.proofs.HeldLemmas.{leaf_entry_by, leaf_entry_other, leaf_entry_same, range_entry_other}
use Rattle.mon_topo.proofs.HeldLemmas.{range_entry_same}
use Rattle.mon_topo.proofs.RangeHistoryLemmas.{all_from, numbered, slot_below}
use Rattle.mon_hints.specs.Covers.{StaysSet, Bits, Covers}
use Rattle.mon_hints.specs.Hints.{history_buckets, rows_buckets}
use Rattle.write_core.specs.CopySteps.{CanCopyAt, IsDeniedFor, IsToldWithin, copied_in, copy_at, copy_of, new_replica}
use Rattle.write_core.specs.CopySteps.{next_slot, opening_of, told_range}
use Rattle.write_core.specs.Invariant.{HasCause, HasCopied, HasLocked, HasOpened, HasTurns, HaveFound, IsCopyAt}
use Rattle.write_core.specs.Invariant.{IsInside, IsKept, IsRecovery, IsRangeSettled, IsTelling, IsUnopened}
use Rattle.write_core.specs.Recovering.{Beginning, Carrying, CopyStage, CopyTold, Copying, Denied, Nearing, NoSource}
use Rattle.write_core.specs.Recovering.{NoTarget, Opens, Outcome, Over, Telling, Within}
use Rattle.write_core.specs.Steps.{same_view}
use Rattle.mon_topo.specs.Views.{IsSound, IsViewWithin, View, joined_view, of_leaf, of_range, with_entry}
use Rattle.mon_topo.specs.Views.{with_range_entry, with_root_bit, with_zone_bit}
use Rattle.write_core.specs.World.{Recovers, Recovery, World, at_leaf, at_range, copied_on, recovers_on}
use Rattle.write_core.proofs.ChangeLemmas.{entry_sound, entry_up, entry_within, range_entry_sound, range_entry_up}
use Rattle.write_core.proofs.ChangeLemmas.{range_entry_within, root_bit_up, zone_bit_up}
use Rattle.write_core.proofs.CopyAsking.{ask_kept, begin_kept, carry_kept, copied_moves, down_moves, found_moves}
use Rattle.write_core.proofs.CopyAsking.{near_kept}
use Rattle.write_core.proofs.DeedLemmas.{acks_stay, puts_stay}
use Rattle.write_core.proofs.KeepsLemmas.{changed_same, opened_moves, opened_with}
use Rattle.write_core.proofs.MeetLemmas as meet
use Rattle.write_core.proofs.MeetLemmas.{base_range, base_sound, base_up, base_whole, base_within, inside_root}
use Rattle.write_core.proofs.MeetLemmas.{inside_zone, raised_all, root_bit, zone_bit}
use Rattle.write_core.proofs.OpeningLemmas.{left_source, opened-opened, serving-opened}
use Rattle.write_core.proofs.StepLemmas.{IsStep, ChangesLeaf, ChangesRange, recover_at_leaf, recover_at_range}
use Rattle.write_core.proofs.StepLemmas.{recovery_of}

module _ (setting : Setting) (world : World) (i : ℕ) (who : Recovery) (is : world.actors i ≡ Recovers who)
    (kept : IsKept setting world) where
  own : IsRecovery setting world i who
  own = recovery_of setting world i who kept is

  abbrev r : Range
  r = who.range

  abbrev g : List RangeEntry
  g = of_range world.truth r

  abbrev l : Leaf
  l = who.leaf

  -- ---- inside its leaf

  module _ (rows : List Row) (at : HasCopied setting world i who rows) where
    abbrev needed : List ℕ
    needed = rows_buckets setting.buckets_of rows

    copy_root : (bucket : ℕ) (at_root in_zone : List ℕ)
        → IsInside setting world i who.view l needed (bucket ∷ at_root) in_zone
        → IsStep setting world
        (copied_in setting world i who rows (bucket ∷ at_root) in_zone (Within rows at_root in_zone))
    copy_root bucket at_root in_zone inside =
        let zone = zone_of_leaf setting l in
        let stage = Within rows at_root in_zone in
        let next = at_leaf world i who.view l (with_root_bit zone bucket) (Some i) (recovers_on who stage) in
        recover_at_leaf setting world i who is kept l (with_root_bit zone bucket) (Some i) stage
        (root_bit setting world i kept who.view own.part l zone bucket) (inr inside.holder) (
          copied_moves setting world i who is kept next (root_bit_up bucket zone world.truth)
              (record { holder = at.copying.locked.holder; history = refl; rows = λ s x. refl; opened = λ s x. refl })
              stage (with_root_bit zone bucket (joined_view who.view (world.leaves l.0)))
              (base_range setting world i kept who.view own.part l r at.copying.locked.whole) rows at,
          inside_root setting world i kept who.view own.part l next needed bucket at_root in_zone
              (changed_same world.leaf_holder l.0 (Some i)) refl inside,
        )

    copy_zone : (bucket : ℕ) (in_zone : List ℕ) → IsInside setting world i who.view l needed [] (bucket ∷ in_zone)
        → IsStep setting world (copied_in setting world i who rows [] (bucket ∷ in_zone) (Within rows [] in_zone))
    copy_zone bucket in_zone inside =
        let stage = Within rows [] in_zone in
        let next = at_leaf world i who.view l (with_zone_bit l bucket) (Some i) (recovers_on who stage) in
        recover_at_leaf setting world i who is kept l (with_zone_bit l bucket) (Some i) stage
        (zone_bit setting world i kept who.view own.part l bucket) (inr inside.holder) (
          copied_moves setting world i who is kept next (zone_bit_up bucket l world.truth)
              (record { holder = at.copying.locked.holder; history = refl; rows = λ s x. refl; opened = λ s x. refl })
              stage (with_zone_bit l bucket (joined_view who.view (world.leaves l.0)))
              (base_range setting world i kept who.view own.part l r at.copying.locked.whole) rows at,
          inside_zone setting world i kept who.view own.part l next needed bucket in_zone
              (changed_same world.leaf_holder l.0 (Some i)) refl inside,
        )

    -- ---- the replica is opened

    module _ (inside : IsInside setting world i who.view l needed [] []) where
      abbrev met : View
      met = joined_view who.view (world.leaves l.0)

      abbrev s : Slot
      s = next_slot g

      abbrev e : Entry
      e = copy_of who g rows

      abbrev locked : HasLocked world i who
      locked = at.copying.locked

      up : IsViewWithin who.view met
      up = base_up setting world i kept who.view own.part l

      in_truth : l.0 < length world.truth.seen.leaves
      in_truth = subst (λ (n : ℕ). l.0 < n) (sym kept.truth.held.all_leaves) own.aimed.leaf_there

      in_met : l.0 < length met.seen.leaves
      in_met = subst (λ (n : ℕ). l.0 < n) (sym (base_sound setting world i kept who.view own.part l).held.all_leaves)
          own.aimed.leaf_there

      legal : range_spec.IsLegal setting.held setting.zones setting.points r g
      legal = kept.truth.held.legal r
          (subst (λ (n : ℕ). r.0 < n) (sym kept.truth.held.all_ranges) own.aimed.range_there)

      never : (o : Leaf) → is_opened r s (of_leaf world.truth o) ≡ false
      never o = locked.settled.fresh s o (omega arith)

      may_truth : leaf_spec.MayFollow (of_leaf world.truth l) e
      may_truth = (
        inside.up,
        never l,
        subst IsSource (sym at.all) (left_source setting.held setting.zones setting.points r g legal),
      )

      may_met : leaf_spec.MayFollow (of_leaf met l) e
      may_met = subst (λ (history : List Entry). leaf_spec.MayFollow history e)
          (sym (base_whole setting world i kept who.view own.part l)) may_truth

      covers_in : (bits : Bits) → StaysSet who.view.bits.root bits.root → StaysSet who.view.bits.zone bits.zone
          → Covers bits (zone_of_leaf setting l) l (history_buckets setting.buckets_of (e ∷ []))
      covers_in bits root zone bucket there =
          let its : is_among bucket needed ≡ true = ap (λ xs. is_among bucket (rows_buckets setting.buckets_of xs))
          (sym (append-nil rows)) ∙ there in
          record {
            at_root = raised_all who.view.bits.root bits.root (zone_of_leaf setting l).0 bucket root
                (inside.root bucket its);
            in_zone = raised_all who.view.bits.zone bits.zone l.0 bucket zone (inside.zone bucket its);
          }

      -- no replica has a turn more
      turns_stay : (o : Range) (place : Slot) (leaf : Leaf)
          → replica_turns o place (of_leaf (with_entry l e world.truth) leaf)
          ≡ replica_turns o place (of_leaf world.truth leaf)
      turns_stay o place leaf =
          leaf_entry_by world.truth.seen l e in_truth
          (λ x history. replica_turns o place history ≡ replica_turns o place (of_leaf world.truth x)) leaf
          (replica_turns-push o place (of_leaf world.truth l) e
          ∙ append-nil (replica_turns o place (of_leaf world.truth l)))
          refl

      -- another replica is not opened
      module _ (o : Range) (place : Slot) (other : leaf_spec.same_replica o place r s ≡ false) where
        opened_elsewhere : (leaf : Leaf) → is_opened o place (of_leaf (with_entry l e world.truth) leaf)
            ≡ is_opened o place (of_leaf world.truth leaf)
        opened_elsewhere leaf =
            leaf_entry_by world.truth.seen l e in_truth
            (λ x history. is_opened o place history ≡ is_opened o place (of_leaf world.truth x)) leaf
            (opened_with o place (of_leaf world.truth l) e (ap (λ b. b || false) other))
            refl

      other_range : (o : Range) (place : Slot) → (world.range_holder o.0 ≡ Some i → ⊥)
          → leaf_spec.same_replica o place r s ≡ false
      other_range o place free = and_left (nat_eq o.0 r.0) (nat_eq place.0 s.0)
          (ne_eqb o.0 r.0 (λ same. free (ap world.range_holder same ∙ locked.holder)))

      other_slot : (place : Slot) → place.0 ≢ s.0 → leaf_spec.same_replica r place r s ≡ false
      other_slot place apart = and_right (nat_eq r.0 r.0) (nat_eq place.0 s.0) (ne_eqb place.0 s.0 apart)

      this_slot : leaf_spec.same_replica r s r s ≡ true
      this_slot = and_from (nat_eq r.0 r.0) (nat_eq s.0 s.0) (eq-eqb r.0 r.0 refl) (eq-eqb s.0 s.0 refl)

      changes : ChangesLeaf setting world i who.view l (with_entry l e)
      changes = record {
        truth = entry_sound world.truth l e in_truth setting kept.truth may_truth at.at_home
            (covers_in world.truth.bits own.part.within.bits.root own.part.within.bits.zone);
        met = entry_sound met l e in_met setting (base_sound setting world i kept who.view own.part l) may_met
            at.at_home (covers_in met.bits up.bits.root up.bits.zone);
        within = entry_within l e met world.truth in_met in_truth (base_whole setting world i kept who.view own.part l)
            (base_within setting world i kept who.view own.part l);
        grows = entry_up world.truth l e in_truth;
        count = refl;
        whole = leaf_entry_same met.seen l e in_met
            ∙ ap (λ history. history ++ e ∷ []) (base_whole setting world i kept who.view own.part l)
            ∙ sym (leaf_entry_same world.truth.seen l e in_truth);
        others = leaf_entry_other world.truth.seen l e;
        ranges = λ o. refl;
        rows = λ o free place. turns_stay o place;
        opened = λ o free place. opened_elsewhere o place (other_range o place free);
        puts = λ pass apart. puts_stay pass world.truth l e in_truth refl;
      }

      abbrev next : World
      next = at_leaf world i who.view l (with_entry l e) None (recovers_on who (Telling (Opens s)))

      -- the replicas that serve are as they were
      still_serve : (replica : SlotLeaf) → Contains (serving g) replica
          → HasTurns next.truth r replica (turns_since replica.slot g)
      still_serve replica there =
          let has = locked.settled.rows replica there in
          record {
            opened = opened_moves world next changes.grows r replica.slot replica.leaf has.opened;
            all = turns_stay r replica.slot replica.leaf ∙ has.all;
          }

      none_then : replica_turns r s (of_leaf next.truth l) ≡ []
      none_then = turns_stay r s l
          ∙ ((in_turn r s (of_leaf world.truth l) (kept.truth.held.formed l in_truth)).none (never l)).1

      open_then : is_opened r s (of_leaf next.truth l) ≡ true
      open_then =
          ap (is_opened r s) (leaf_entry_same world.truth.seen l e in_truth)
          ∙ opened_more r s (of_leaf world.truth l) (e ∷ [])
          ∙ ap (λ b. is_opened r s (of_leaf world.truth l) || (b || false)) this_slot
          ∙ or_right (is_opened r s (of_leaf world.truth l)) true refl

      fresh_then : IsUnopened next.truth r (suc (length (opened_slots g)))
      fresh_then slot leaf beyond =
          opened_elsewhere r slot (other_slot slot (λ same. omega arith)) leaf
          ∙ locked.settled.fresh slot leaf (omega arith)

      pub open_replica : IsStep setting world next
      open_replica =
          recover_at_leaf setting world i who is kept l (with_entry l e) None (Telling (Opens s)) changes
          (inr inside.holder) (
            record {
              holder = locked.holder;
              whole = base_range setting world i kept who.view own.part l r locked.whole;
              rows = still_serve;
              fresh = fresh_then;
              may = at.copying.may;
              has = record { opened = open_then; all = none_then };
              entered = subst (λ (xs : List Row). Contains (of_leaf (with_entry l e met) l) (copy_of who g xs)) at.all
                  (subst (λ (history : List Entry). Contains history e) (sym (leaf_entry_same met.seen l e in_met))
                  (Contains-push (of_leaf met l) e));
            },
            refl,
          )

    inside_kept : (at_root in_zone : List ℕ) (told : CopyTold)
        → IsInside setting world i who.view l needed at_root in_zone → IsToldWithin g at_root in_zone told
        → IsStep setting world (copy_at setting world i who (Within rows at_root in_zone) told)
    inside_kept (bucket ∷ at_root) in_zone told inside can =
        subst
        (λ (x : CopyTold). IsStep setting world
        (copy_at setting world i who (Within rows (bucket ∷ at_root) in_zone) x))
        (sym can) (copy_root bucket at_root in_zone inside)
    inside_kept [] (bucket ∷ in_zone) told inside can =
        subst
        (λ (x : CopyTold). IsStep setting world (copy_at setting world i who (Within rows [] (bucket ∷ in_zone)) x))
        (sym can) (copy_zone bucket in_zone inside)
    inside_kept [] [] told inside can =
        subst (λ (x : CopyTold). IsStep setting world (copy_at setting world i who (Within rows [] []) x)) (sym can)
        (open_replica inside)

  -- ---- it tells its range

  -- nothing, where it opened none; what was in its way has been seen
  tell_nothing : (outcome : Outcome) → HasLocked world i who
      → HasCause (copied_on who (Over outcome) (joined_view who.view (world.ranges r.0))) outcome
      → IsStep setting world (at_range world i who.view r same_view None (recovers_on who (Over outcome)))
  tell_nothing outcome h cause =
      recover_at_range setting world i who is kept r same_view None (Over outcome)
      (meet.quiet_range setting world i kept who.view own.part r) (inr h.holder) (λ x. h.settled) cause

  -- it has seen then of its range what it had seen
  same_range : HasLocked world i who → of_range who.view r ≡ of_range (joined_view who.view (world.ranges r.0)) r
  same_range h = h.whole ∙ sym (meet.met_whole setting world i kept who.view own.part r)

  range_up : IsViewWithin who.view (joined_view who.view (world.ranges r.0))
  range_up = meet.met_up setting world i kept who.view own.part r

  module _ (h : HasOpened setting world i who) where
    abbrev last : RangeEntry
    last = opening_of who g

    abbrev new : SlotLeaf
    new = new_replica who g

    serve_then : serving (g ++ last ∷ []) ≡ serving g ++ new ∷ []
    serve_then = serving-opened g who.pass new.slot new.leaf

    g_legal : range_spec.IsLegal setting.held setting.zones setting.points r g
    g_legal = kept.truth.held.legal r
        (subst (λ (n : ℕ). r.0 < n) (sym kept.truth.held.all_ranges) own.aimed.range_there)

    module _ (view : View) (sound : IsSound setting view) (upper : IsViewWithin who.view view)
        (whole : of_range view r ≡ g) where
      here : r.0 < length view.seen.ranges
      here = subst (λ (n : ℕ). r.0 < n) (sym sound.held.all_ranges) own.aimed.range_there

      old_turns : (replica : SlotLeaf) → Contains (serving g) replica
          → BeginsWith (replica_turns r replica.slot (of_leaf view replica.leaf)) (turns_since replica.slot g)
      old_turns = subst (λ (history : List RangeEntry). (replica : SlotLeaf) → Contains (serving history) replica
          → BeginsWith (replica_turns r replica.slot (of_leaf view replica.leaf)) (turns_since replica.slot history)) whole
          (sound.held.borne_out r here).kept

      keeps_turns : (replica : SlotLeaf) → Contains (serving (g ++ last ∷ [])) replica
          → BeginsWith (replica_turns r replica.slot (of_leaf view replica.leaf))
          (turns_since replica.slot (g ++ last ∷ []))
      keeps_turns = opened_kept setting.held setting.zones setting.points r view.seen g g_legal old_turns who.pass new refl

      borne_out : IsBorneOut view.seen r (g ++ last ∷ []) (length g) last
      borne_out =
          subst (λ (front : List RangeEntry). IsOpened r new (left_rows front) (of_leaf view l))
          (sym (take_at g (last ∷ []) (length g) refl))
          (record {
            pass = who.pass;
            entered = contains_on (of_leaf view l) (of_leaf who.view l) (copy_of who g (left_rows g))
                (upper.seen.leaves l) h.entered;
          })

      last_sound : IsSound setting (with_range_entry r last view)
      last_sound =
          range_entry_sound view r last here setting sound
          (subst (λ (x : List RangeEntry). (replica : SlotLeaf) → Contains (serving (x ++ last ∷ [])) replica
          → BeginsWith (replica_turns r replica.slot (of_leaf view replica.leaf))
          (turns_since replica.slot (x ++ last ∷ [])))
          (sym whole) keeps_turns)
          (subst (λ (x : List RangeEntry). IsBorneOut view.seen r (x ++ last ∷ []) (length x) last) (sym whole)
          borne_out)
          (subst (λ (x : List RangeEntry). range_spec.MayFollow setting.held setting.zones setting.points r x last)
          (sym whole) h.may)

    abbrev met_range : View
    met_range = joined_view who.view (world.ranges r.0)

    met_whole : of_range met_range r ≡ g
    met_whole = meet.met_whole setting world i kept who.view own.part r

    met_sound : IsSound setting met_range
    met_sound = meet.met_sound setting world i kept who.view own.part r

    there_truth : r.0 < length world.truth.seen.ranges
    there_truth = here world.truth kept.truth own.part.within refl

    there_met : r.0 < length met_range.seen.ranges
    there_met = here met_range met_sound (meet.met_up setting world i kept who.view own.part r) met_whole

    range_changes : ChangesRange setting world i who.view r (with_range_entry r last)
    range_changes = record {
      truth = last_sound world.truth kept.truth own.part.within refl;
      met = last_sound met_range met_sound (meet.met_up setting world i kept who.view own.part r) met_whole;
      within = range_entry_within r last met_range world.truth there_met there_truth met_whole
          (meet.met_within setting world i kept who.view own.part r);
      grows = range_entry_up world.truth r last there_truth;
      count = length-set world.truth.seen.ranges r.0 (g ++ last ∷ []);
      whole = range_entry_same met_range.seen r last there_met ∙ ap (λ history. history ++ last ∷ []) met_whole
          ∙ sym (range_entry_same world.truth.seen r last there_truth);
      others = range_entry_other world.truth.seen r last;
      leaves = λ o. refl;
      acks = λ pass apart. acks_stay pass world.truth r last there_truth refl;
    }

    abbrev told_truth : View
    told_truth = with_range_entry r last world.truth

    told_history : of_range told_truth r ≡ g ++ last ∷ []
    told_history = range_entry_same world.truth.seen r last there_truth

    -- it has had no turn since it was opened
    none_since : turns_since new.slot (g ++ last ∷ []) ≡ []
    none_since = since_opened new.slot who.pass new g [] refl
        (all_from (λ (one : SlotLeaf). new.slot.0 ≢ one.slot.0) (opened_slots g)
        (λ one known same. (let below : one.slot.0 < length (opened_slots g) =
        slot_below g (numbered setting.held setting.zones setting.points r g g_legal) one known in
        let this : length (opened_slots g) ≡ one.slot.0 = same in
        absurd (omega (arith, below, this)))))

    -- the new replica serves too, and is known
    settled_then : IsRangeSettled told_truth r
    settled_then = record {
      rows = subst (λ (history : List RangeEntry). (replica : SlotLeaf) → Contains (serving history) replica
          → HasTurns told_truth r replica (turns_since replica.slot history)) (sym told_history)
          (λ replica there. elim (Contains-push_cases (serving g) new replica
          (subst (λ (xs : List SlotLeaf). Contains xs replica) serve_then there)) [
            | inl old ↦ record {
              opened = (h.rows replica old).opened;
              all = (h.rows replica old).all
                  ∙ sym (serving_since setting.held setting.zones setting.points r told_truth.seen g g_legal replica old last
                  ∙ append-nil (turns_since replica.slot g));
            }
            | inr same ↦ subst (λ (x : SlotLeaf). HasTurns told_truth r x (turns_since x.slot (g ++ last ∷ []))) same
                (record { opened = h.has.opened; all = h.has.all ∙ sym none_since })
          ]);
      fresh = subst (λ (history : List RangeEntry). IsUnopened told_truth r (length (opened_slots history)))
          (sym told_history)
          (λ slot leaf beyond. h.fresh slot leaf
          (let count : length (opened_slots (g ++ last ∷ [])) ≡ length (opened_slots g) + 1 =
          ap length (opened-opened g who.pass new.slot new.leaf) ∙ length-append (opened_slots g) (new ∷ []) in
          let from : length (opened_slots (g ++ last ∷ [])) ≤ slot.0 = beyond in
          omega arith));
    }

    tell_opened : (slot : Slot) → slot ≡ next_slot g → IsStep setting world
        (at_range world i who.view r (with_range_entry r last) None (recovers_on who (Over (Opens slot))))
    tell_opened slot same =
        recover_at_range setting world i who is kept r (with_range_entry r last) None (Over (Opens slot)) range_changes
        (inr h.holder) (λ x. settled_then)
        (subst (λ (history : List RangeEntry). Contains history (range_entry.Opened who.pass slot l))
        (sym (range_entry_same met_range.seen r last there_met))
        (subst (λ (one : Slot). Contains (of_range met_range r ++ last ∷ []) (range_entry.Opened who.pass one l))
        (sym same) (Contains-push (of_range met_range r) last)))

  tell_kept : (outcome : Outcome) → IsTelling setting world i who outcome
      → IsStep setting world (at_range world i who.view r (told_range who g outcome) None
      (recovers_on who (Over outcome)))
  tell_kept (Opens slot) h = tell_opened h.0 slot h.1
  tell_kept (Denied why) h =
      tell_nothing (Denied why) h.0
      (subst (λ (history : List RangeEntry). IsDeniedFor history l why) (same_range h.0) h.1)
  tell_kept (NoSource founds) h =
      tell_nothing (NoSource founds) h.0
      (subst (λ (history : List RangeEntry). HaveFound (joined_view who.view (world.ranges r.0)) (serving history)
      founds) (same_range h.0)
      (found_moves who.view (joined_view who.view (world.ranges r.0)) range_up (serving (of_range who.view r)) founds
      h.1))
  tell_kept (NoTarget cut) h =
      tell_nothing (NoTarget cut) h.0
      (down_moves who.view (joined_view who.view (world.ranges r.0)) range_up l cut h.1)

  -- whatever a recovery is told, the invariant stays
  pub recovery_kept : (stage : CopyStage) (told : CopyTold) → IsCopyAt setting world i who stage
      → CanCopyAt setting world who stage told → IsStep setting world (copy_at setting world i who stage told)
  recovery_kept Beginning told at can = begin_kept setting world i who is kept told can.0 can.1
  recovery_kept (Copying founds sources) told at can = ask_kept setting world i who is kept founds sources told at can
  recovery_kept (Carrying rows) told at can = carry_kept setting world i who is kept rows told at can.0 can.1
  recovery_kept (Nearing rows) told at can = near_kept setting world i who is kept rows told at can.0 can.1
  recovery_kept (Within rows at_root in_zone) told at can = inside_kept rows at.0 at_root in_zone told at.1 can
  recovery_kept (Telling outcome) told at can =
      subst (λ (x : CopyTold). IsStep setting world (copy_at setting world i who (Telling outcome) x)) (sym can)
      (tell_kept outcome at)
  recovery_kept (Over outcome) told at can = absurd can
