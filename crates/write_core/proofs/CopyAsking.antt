-- A recovery takes its lock, asks the replicas that serve for their rows, and comes to its own leaf.
use Rattle.std.proofs.Common.{◌≡◌, ℕ, ◌<◌, length, Some, None, Option, List, [], ◌∷◌, ◌++◌, refl, sym, ap, subst, ◌∙◌}
use Rattle.std.proofs.Common.{append-nil, arith, inl, append_assoc}
use Rattle.std.specs.Prelude.{Contains}
use Rattle.std.specs.List.{AllByRecursion as All}
use Rattle.std.proofs.lemmas.List.{map-append, take_all}
use Rattle.std.proofs.lemmas.List.Elements.{Contains-append_left, Contains-push}
use Rattle.mon_value.specs.LeafHistories.{IsDownAt, is_down, kept_rows}
use Rattle.mon_topo.proofs.LeftLemmas.{kept_is_left}
use Rattle.mon_value.specs.declared.histories.Entry.{Entry}
use Rattle.mon_value.specs.declared.histories.RangeEntry.{RangeEntry}
use Rattle.mon_value.specs.declared.positions.FoundDown.{FoundDown}
use Rattle.mon_value.specs.declared.positions.Leaf.{Leaf}
use Rattle.mon_value.specs.declared.positions.Range.{Range}
use Rattle.mon_value.specs.declared.positions.SlotLeaf.{SlotLeaf}
use Rattle.mon_value.specs.declared.rows.Row.{Row}
use Rattle.mon_topo.specs.RangeHistories.{left_rows, serving}
use Rattle.mon_topo.specs.Settings.{Setting}
use Rattle.mon_topo.proofs.HeldLemmas.{down_on}
use Rattle.mon_topo.proofs.RangeHistoryLemmas.{all_append}
use Rattle.mon_hints.specs.Hints.{rows_buckets}
use Rattle.write_core.specs.CopySteps.{CanAsk, IsDeniedFor, IsToldAtTarget, IsToldByTarget, IsToldDown, IsToldOfRange}
use Rattle.write_core.specs.CopySteps.{MayOpen, copy_at}
use Rattle.write_core.specs.Invariant.{HasCopied, HasLocked, HaveFound, IsAskingSources, IsCopyAt, IsCopying, IsKept}
use Rattle.write_core.specs.Invariant.{IsRecovery}
use Rattle.write_core.specs.Recovering.{Admits, Beginning, Carrying, CopyStage, CopyTold, Copying, Denial, Denied}
use Rattle.write_core.specs.Recovering.{Denies, Gives, HasRoom, Nearing, NoSource, NoTarget, Sources, Telling, WasDone}
use Rattle.write_core.specs.Recovering.{WasDown, WasOpened, Within, copying, found_on}
use Rattle.write_core.specs.Steps.{same_view}
use Rattle.mon_topo.specs.Views.{IsViewWithin, View, joined_view, of_leaf, of_range}
use Rattle.write_core.specs.World.{Recovers, Recovery, World, at_leaf, at_range, copied_on, recovers_on}
use Rattle.write_core.proofs.KeepsLemmas.{KeepsRange, changed_same, settled_moves}
use Rattle.write_core.proofs.MeetLemmas as meet
use Rattle.write_core.proofs.MeetLemmas.{base_range, base_up, base_whole, inside_from, quiet}
use Rattle.write_core.proofs.OpeningLemmas.{kept_at_home}
use Rattle.write_core.proofs.InsideLemmas.{opened_there}
use Rattle.write_core.proofs.StepLemmas.{IsStep, recover_at_leaf, recover_at_range, recovery_of}
use Rattle.write_core.proofs.ViewLemmas.{within_itself}

pub some_is_not_none : (i : ℕ) → Some i ≡ None → ⊥
some_is_not_none i e = cc

-- ---- what was found down

pub down_moves : (view more : View) → IsViewWithin view more → (leaf : Leaf) (cut : ℕ)
    → IsDownAt (of_leaf view leaf) cut → IsDownAt (of_leaf more leaf) cut
down_moves view more up leaf cut = down_on (of_leaf more leaf) (of_leaf view leaf) cut (up.seen.leaves leaf)

all_down_move : (view more : View) → IsViewWithin view more → (founds : List FoundDown)
    → All (λ found. IsDownAt (of_leaf view found.leaf) found.cut) founds
    → All (λ found. IsDownAt (of_leaf more found.leaf) found.cut) founds
all_down_move view more up [] h = tt
all_down_move view more up (found ∷ founds) h =
    (down_moves view more up found.leaf found.cut h.0, all_down_move view more up founds h.1)

pub found_moves : (view more : View) → IsViewWithin view more → (replicas : List SlotLeaf) (founds : List FoundDown)
    → HaveFound view replicas founds → HaveFound more replicas founds
found_moves view more up replicas founds h =
    record { leaves = h.leaves; down = all_down_move view more up founds h.down }

-- one more
found_push : (view : View) (replicas : List SlotLeaf) (founds : List FoundDown) (replica : SlotLeaf) (cut : ℕ)
    → HaveFound view replicas founds → IsDownAt (of_leaf view replica.leaf) cut
    → HaveFound view (replicas ++ replica ∷ []) (founds ++ found_on replica cut ∷ [])
found_push view replicas founds replica cut h down = record {
  leaves = map-append (λ (found : FoundDown). found.leaf) founds (found_on replica cut ∷ [])
      ∙ ap (λ leaves. leaves ++ replica.leaf ∷ []) h.leaves
      ∙ sym (map-append (λ (one : SlotLeaf). one.leaf) replicas (replica ∷ []));
  down = all_append (λ (found : FoundDown). IsDownAt (of_leaf view found.leaf) found.cut) founds
      (found_on replica cut ∷ []) h.down (down, tt);
}

-- a leaf that is down is so at the whole of its history
down_whole : (history : List Entry) (cut : ℕ) → IsToldDown history cut → IsDownAt history cut
down_whole history cut h = record {
  seen_by_then = omega arith;
  down = ap is_down (take_all cut history (omega arith)) ∙ h.0;
}

module _ (setting : Setting) (world : World) (i : ℕ) (who : Recovery) (is : world.actors i ≡ Recovers who)
    (kept : IsKept setting world) where
  own : IsRecovery setting world i who
  own = recovery_of setting world i who kept is

  abbrev r : Range
  r = who.range

  abbrev g : List RangeEntry
  g = of_range world.truth r

  abbrev l : Leaf
  l = who.leaf

  -- ---- it goes on, with its range left to it

  module _ (after : World) (grows : IsViewWithin world.truth after.truth) (its : KeepsRange world after (Some i) r)
      (stage : CopyStage) (view : View) (whole : of_range view r ≡ of_range after.truth r) where
    locked_moves : HasLocked world i who → HasLocked after i (copied_on who stage view)
    locked_moves h = record {
      holder = its.holder;
      whole = whole;
      settled = settled_moves world after grows (Some i) r its h.settled;
    }

    copying_moves : IsCopying setting world i who → IsCopying setting after i (copied_on who stage view)
    copying_moves h = record {
      locked = locked_moves h.locked;
      may = subst (λ (history : List RangeEntry). MayOpen setting history who) (sym its.history) h.may;
    }

    pub copied_moves : (rows : List Row) → HasCopied setting world i who rows
        → HasCopied setting after i (copied_on who stage view) rows
    copied_moves rows h = record {
      copying = copying_moves h.copying;
      all = h.all ∙ ap left_rows (sym its.history);
      at_home = h.at_home;
    }

  -- ---- the lock

  module _ (free : world.range_holder r.0 ≡ None) where
    -- it holds its range then
    begun_locked : (stage : CopyStage)
        → HasLocked (at_range world i who.view r same_view (Some i) (recovers_on who stage)) i
        (copied_on who stage (joined_view who.view (world.ranges r.0)))
    begun_locked stage = record {
      holder = changed_same world.range_holder r.0 (Some i);
      whole = meet.met_whole setting world i kept who.view own.part r;
      settled = kept.settled r free;
    }

    begin_at : (stage : CopyStage)
        → IsCopyAt setting (at_range world i who.view r same_view (Some i) (recovers_on who stage)) i
        (copied_on who stage (joined_view who.view (world.ranges r.0))) stage
        → IsStep setting world (at_range world i who.view r same_view (Some i) (recovers_on who stage))
    begin_at stage at =
        recover_at_range setting world i who is kept r same_view (Some i) stage
        (meet.quiet_range setting world i kept who.view own.part r) (inl free)
        (λ e. absurd (some_is_not_none i e)) at

    -- it asks the next replica, or gives up
    begin_sources : (replicas : List SlotLeaf) → replicas ≡ serving g → MayOpen setting g who
        → IsStep setting world (at_range world i who.view r same_view (Some i) (recovers_on who (copying [] replicas)))
    begin_sources [] all may = begin_at (Telling (NoSource [])) (
      begun_locked (Telling (NoSource [])),
      subst (λ (history : List RangeEntry). HaveFound (joined_view who.view (world.ranges r.0)) (serving history) [])
          (sym (meet.met_whole setting world i kept who.view own.part r))
          (subst (λ (some : List SlotLeaf). HaveFound (joined_view who.view (world.ranges r.0)) some []) all
          (record { leaves = refl; down = tt })),
    )
    begin_sources (source ∷ left) all may =
        let stage = Copying [] (source ∷ left) in
        begin_at stage (
          record { locked = begun_locked stage; may = may },
          record { asked = []; all = all; found = record { leaves = refl; down = tt } },
        )

    begin_denied : (why : Denial) → IsDeniedFor g l why
        → IsStep setting world (at_range world i who.view r same_view (Some i) (recovers_on who (Telling (Denied why))))
    begin_denied why cause = begin_at (Telling (Denied why)) (
      begun_locked (Telling (Denied why)),
      subst (λ (history : List RangeEntry). IsDeniedFor history l why)
          (sym (meet.met_whole setting world i kept who.view own.part r)) cause,
    )

  pub begin_kept : (told : CopyTold) → world.range_holder r.0 ≡ None → IsToldOfRange setting g who told
      → IsStep setting world (copy_at setting world i who Beginning told)
  begin_kept (Sources replicas) free can = begin_sources free replicas can.0 can.1
  begin_kept (Denies why) free can = begin_denied free why can
  begin_kept (Gives rows) free can = absurd can
  begin_kept HasRoom free can = absurd can
  begin_kept (Admits buckets) free can = absurd can
  begin_kept (WasDown cut) free can = absurd can
  begin_kept (WasOpened slot) free can = absurd can
  begin_kept WasDone free can = absurd can

  -- ---- at leaves

  -- an event at a leaf that leaves all histories as they are
  module _ (o : Leaf) (holder : Option ℕ) (stage : CopyStage) (locked : HasLocked world i who) where
    abbrev quietly : World
    quietly = at_leaf world i who.view o same_view holder (recovers_on who stage)

    abbrev wiser_then : Recovery
    wiser_then = copied_on who stage (joined_view who.view (world.leaves o.0))

    quiet_range : KeepsRange world quietly (Some i) r
    quiet_range = record { holder = locked.holder; history = refl; rows = λ s x. refl; opened = λ s x. refl }

    quiet_whole : of_range (joined_view who.view (world.leaves o.0)) r ≡ g
    quiet_whole = base_range setting world i kept who.view own.part o r locked.whole

    quiet_locked : HasLocked quietly i wiser_then
    quiet_locked = locked_moves quietly (within_itself world.truth) quiet_range stage
        (joined_view who.view (world.leaves o.0)) quiet_whole locked

    quiet_copying : IsCopying setting world i who → IsCopying setting quietly i wiser_then
    quiet_copying = copying_moves quietly (within_itself world.truth) quiet_range stage
        (joined_view who.view (world.leaves o.0)) quiet_whole

    quiet_copied : (rows : List Row) → HasCopied setting world i who rows → HasCopied setting quietly i wiser_then rows
    quiet_copied = copied_moves quietly (within_itself world.truth) quiet_range stage
        (joined_view who.view (world.leaves o.0)) quiet_whole

  quiet_step : (o : Leaf) (holder : Option ℕ) (stage : CopyStage) → world.leaf_holder o.0 ≡ None
      → IsCopyAt setting (at_leaf world i who.view o same_view holder (recovers_on who stage)) i
      (copied_on who stage (joined_view who.view (world.leaves o.0))) stage
      → IsStep setting world (at_leaf world i who.view o same_view holder (recovers_on who stage))
  quiet_step o holder stage free at =
      recover_at_leaf setting world i who is kept o same_view holder stage
      (quiet setting world i kept who.view own.part o) (inl free) at

  -- a leaf was found down: so far, all of it has been seen
  seen_down : (o : Leaf) (cut : ℕ) → IsToldDown (of_leaf world.truth o) cut
      → IsDownAt (of_leaf (joined_view who.view (world.leaves o.0)) o) cut
  seen_down o cut told =
      subst (λ (history : List Entry). IsDownAt history cut) (sym (base_whole setting world i kept who.view own.part o))
      (down_whole (of_leaf world.truth o) cut told)

  -- its own leaf is down
  give_up : (cut : ℕ) → world.leaf_holder l.0 ≡ None → HasLocked world i who → IsToldDown (of_leaf world.truth l) cut
      → IsStep setting world (at_leaf world i who.view l same_view None (recovers_on who (Telling (NoTarget cut))))
  give_up cut free locked told =
      quiet_step l None (Telling (NoTarget cut)) free
      (quiet_locked l None (Telling (NoTarget cut)) locked, seen_down l cut told)

  -- the next replica is asked, or none is left
  ask_on : (o : Leaf) (asked left : List SlotLeaf) (founds : List FoundDown) → world.leaf_holder o.0 ≡ None
      → IsCopying setting world i who → asked ++ left ≡ serving g
      → HaveFound (joined_view who.view (world.leaves o.0)) asked founds
      → IsStep setting world (at_leaf world i who.view o same_view None (recovers_on who (copying founds left)))
  ask_on o asked [] founds free at all found =
      let stage = Telling (NoSource founds) in
      quiet_step o None stage free (
        quiet_locked o None stage at.locked,
        subst (λ (some : List SlotLeaf). HaveFound (joined_view who.view (world.leaves o.0)) some founds)
            (sym (append-nil asked) ∙ all ∙ ap serving (sym (quiet_whole o None stage at.locked))) found,
      )
  ask_on o asked (source ∷ left) founds free at all found =
      let stage = Copying founds (source ∷ left) in
      quiet_step o None stage free
      (quiet_copying o None stage at.locked at, record { asked = asked; all = all; found = found })

  -- the rows that a replica keeps which serves are those that are left, and at home
  has_copied : (source : SlotLeaf) (rows : List Row) → IsCopying setting world i who → Contains (serving g) source
      → rows ≡ kept_rows r source.slot (of_leaf world.truth source.leaf) → HasCopied setting world i who rows
  has_copied source rows h there same =
      let range_there : r.0 < length world.truth.seen.ranges =
      subst (λ (n : ℕ). r.0 < n) (sym kept.truth.held.all_ranges) own.aimed.range_there in
      let legal = kept.truth.held.legal r range_there in
      let formed = kept.truth.held.formed source.leaf
      (opened_there world.truth.seen.leaves source.leaf.0 r source.slot (h.locked.settled.rows source there).opened) in
      record {
        copying = h;
        all = same
            ∙ kept_is_left setting.held setting.zones setting.points r world.truth.seen g legal
            (kept.truth.held.borne_out r range_there) source there formed (h.locked.settled.rows source there).all;
        at_home = λ row among. kept_at_home setting.held setting.zones r source.slot (of_leaf world.truth source.leaf) formed
            (kept.truth.held.at_home source.leaf) row (subst (λ (xs : List Row). Contains xs row) same among);
      }

  source_serves : (founds : List FoundDown) (source : SlotLeaf) (left : List SlotLeaf)
      → IsAskingSources world who founds (source ∷ left) → Contains (serving g) source
  source_serves founds source left h =
      subst (λ (some : List SlotLeaf). Contains some source)
      (append_assoc h.asked (source ∷ []) left ∙ h.all)
      (Contains-append_left (h.asked ++ source ∷ []) left source (Contains-push h.asked source))

  pub ask_kept : (founds : List FoundDown) (sources : List SlotLeaf) (told : CopyTold)
      → IsCopyAt setting world i who (Copying founds sources) → CanAsk world who sources told
      → IsStep setting world (copy_at setting world i who (Copying founds sources) told)
  ask_kept founds [] told at can = absurd can
  ask_kept founds (source ∷ left) (Gives rows) at can =
      quiet_step source.leaf None (Carrying rows) can.0
      (quiet_copied source.leaf None (Carrying rows) at.0.locked rows
      (has_copied source rows at.0 (source_serves founds source left at.1) can.1.1))
  ask_kept founds (source ∷ left) (WasDown cut) at can =
      ask_on source.leaf (at.1.asked ++ source ∷ []) left (founds ++ found_on source cut ∷ []) can.0 at.0
      (append_assoc at.1.asked (source ∷ []) left ∙ at.1.all)
      (found_push (joined_view who.view (world.leaves source.leaf.0)) at.1.asked founds source cut
      (found_moves who.view (joined_view who.view (world.leaves source.leaf.0))
      (base_up setting world i kept who.view own.part source.leaf) at.1.asked founds at.1.found)
      (seen_down source.leaf cut can.1))
  ask_kept founds (source ∷ left) (Sources replicas) at can = absurd can.1
  ask_kept founds (source ∷ left) (Denies why) at can = absurd can.1
  ask_kept founds (source ∷ left) HasRoom at can = absurd can.1
  ask_kept founds (source ∷ left) (Admits buckets) at can = absurd can.1
  ask_kept founds (source ∷ left) (WasOpened slot) at can = absurd can.1
  ask_kept founds (source ∷ left) WasDone at can = absurd can.1

  pub carry_kept : (rows : List Row) (told : CopyTold) → HasCopied setting world i who rows
      → world.leaf_holder l.0 ≡ None → IsToldByTarget (of_leaf world.truth l) told
      → IsStep setting world (copy_at setting world i who (Carrying rows) told)
  carry_kept rows HasRoom at free can =
      quiet_step l None (Nearing rows) free (quiet_copied l None (Nearing rows) at.copying.locked rows at)
  carry_kept rows (WasDown cut) at free can = give_up cut free at.copying.locked can
  carry_kept rows (Sources replicas) at free can = absurd can
  carry_kept rows (Denies why) at free can = absurd can
  carry_kept rows (Gives more) at free can = absurd can
  carry_kept rows (Admits buckets) at free can = absurd can
  carry_kept rows (WasOpened slot) at free can = absurd can
  carry_kept rows WasDone at free can = absurd can

  pub near_kept : (rows : List Row) (told : CopyTold) → HasCopied setting world i who rows
      → world.leaf_holder l.0 ≡ None → IsToldAtTarget setting (of_leaf world.truth l) rows told
      → IsStep setting world (copy_at setting world i who (Nearing rows) told)
  near_kept rows (Admits buckets) at free can =
      let stage = Within rows buckets buckets in
      quiet_step l (Some i) stage free (
        quiet_copied l (Some i) stage at.copying.locked rows at,
        inside_from setting world i kept who.view own.part l (quietly l (Some i) stage at.copying.locked)
            (rows_buckets setting.buckets_of rows) buckets (changed_same world.leaf_holder l.0 (Some i)) refl can.0
            can.1,
      )
  near_kept rows (WasDown cut) at free can = give_up cut free at.copying.locked can
  near_kept rows (Sources replicas) at free can = absurd can
  near_kept rows (Denies why) at free can = absurd can
  near_kept rows (Gives more) at free can = absurd can
  near_kept rows HasRoom at free can = absurd can
  near_kept rows (WasOpened slot) at free can = absurd can
  near_kept rows WasDone at free can = absurd can
