-- A write's turn at its range's lock.
use Rattle.std.proofs.Common.{◌≡◌, ℕ, Bool, true, false, Some, List, refl, sym, ap, subst, ◌∙◌}
use Rattle.std.specs.Prelude.{◌≢◌, is_some}
use Rattle.mon_config.specs.declared.config.Config.{Config}
use Rattle.mon_topo.specs.Settings.{Setting}
use Rattle.mon_value.specs.declared.histories.RangeEntry.{RangeEntry}
use Rattle.mon_value.specs.declared.positions.Range.{Range}
use Rattle.core_store.proofs.AtWorkLemmas.{below_locked, going_locked, none_locked, own, range_in_truth}
use Rattle.core_store.proofs.LockLemmas.{lock_true}
use Rattle.core_store.proofs.MeetingLemmas.{range_met}
use Rattle.core_store.proofs.SeatLemmas.{same_at_range, shared_at_range}
use Rattle.core_store.proofs.WriteTurnLemmas.{can_come, not_mine_range, step_is, waits_so, went_so, writer_then}
use Rattle.core_store.specs.Writers.{change_turn, writer_of}
use Rattle.core_store.specs.Agreements.{IsRangeSo}
use Rattle.core_store.specs.Holders.{HoldsRange, IsHolding, leaf_inside}
use Rattle.core_store.specs.Meetings.{sight_at_range}
use Rattle.mon_topo.specs.Sights.{sight_of}
use Rattle.core_store.specs.NextAsks.{holder_for_actor, holder_for_write}
use Rattle.core_store.specs.Agreements.{store_of}
use Rattle.core_store.specs.WriteEvents.{ChangesRange, IsHeldUp, Locks, LocksIf, turn_answer}
use Rattle.core_store.specs.WriteTurns.{IsAtWork, WentSo, WriteWaits, WriteWent}
use Rattle.core_store.specs.declared.ranges.RangeSeat.{RangeSeat}
use Rattle.mon_topo.specs.declared.sights.Sight.{Sight}
use Rattle.core_store.specs.declared.store.Store.{Store}
use Rattle.core_store.specs.declared.writes.Writing.{Writing}
use Rattle.write_core.proofs.KeepsLemmas.{changed_same}
use Rattle.write_core.specs.Program.{Locking, Stage, after, ask_of}
use Rattle.write_core.specs.Replays.{HasAckRoom}
use Rattle.write_core.specs.Steps.{IsToldByRange, same_view}
use Rattle.mon_topo.specs.Views.{View, joined_view, of_range}
use Rattle.write_core.specs.World.{Actor, World, Writer, Writes, at_range, view_of, writes_on}
use Rattle.write_core.specs.declared.asks.WriteAsk.TheVariants as ask
use Rattle.write_core.specs.declared.asks.WriteTold.{WriteTold}

module _ (config : Config) (world : World) (i : ℕ) (store : Store) (writing : Writing) (sight : Sight)
    (work : IsAtWork config world i store writing sight) (at : writing.machine.stage ≡ Locking) (seat : RangeSeat)
    (so : IsRangeSo world writing.range.0 seat) where
  abbrev setting : Setting
  setting = store_of config

  abbrev view : View
  view = view_of (world.actors i)

  abbrev writer : Writer
  writer = writer_of i writing view

  abbrev range : Range
  range = writing.range

  -- ---- it takes the lock

  module _ (new : Store) (taken : RangeSeat) (next : Writing) (now : Sight) (changes : ChangesRange range taken store
      new)
      (locks : Locks config.range_points seat taken writing next sight now) where
    abbrev answer : WriteTold
    answer = turn_answer config.range_points seat.state.history (change_turn writing.change)

    abbrev then' : World
    then' = at_range world i view range same_view (Some i) (writes_on writer (after Locking answer))

    told_truly : IsToldByRange setting (of_range world.truth range) (change_turn writing.change) answer
    told_truly =
        subst (λ (history : List RangeEntry). IsToldByRange setting (of_range world.truth range)
        (change_turn writing.change)
        (turn_answer config.range_points history (change_turn writing.change))) (sym so.history)
        (lock_true setting range (of_range world.truth range) (change_turn writing.change)
        (work.kept.truth.held.legal range (range_in_truth config world i store writing sight work)))

    seen_is : now ≡ sight_of (joined_view view (world.ranges range.0)).seen
    seen_is =
        locks.seen
        ∙ (λ k. sight_at_range range (so.history k) (work.writer.seen k) (so.sight k))
        ∙ range_met setting world view range work.kept (own config world i store writing sight work).part

    holder_is : taken.holder ≡ Some i
    holder_is = locks.holder ∙ ap (λ (n : ℕ). Some n) work.writer.number

    pub locked : WriteWent config world i new writing next now
    locked =
        went_so config world i store writing sight work answer then' new next now
        (step_is config world i store writing sight work Locking answer at)
        (can_come config world i store writing sight work Locking answer at (sym so.holder ∙ locks.free, told_truly))
        (shared_at_range config world i view range same_view refl (λ leaf. refl) (λ n apart. refl) (Some i)
        (writes_on writer (after Locking answer)) store new taken work.shared changes (locks.history ∙ so.history)
        holder_is
        (locks.sight_there ∙ seen_is) (λ held. locks.room))
        (writer_then config world i store writing sight work (then'.actors i) (after Locking answer)
        (joined_view view (world.ranges range.0)) answer writing.inside next now
        (changed_same world.actors i (writes_on writer (after Locking answer)
        (joined_view view (world.ranges range.0))))
        (ap (λ (stage : Stage). after stage answer) at) locks.told_so
        (work.writer.inside ∙ ap leaf_inside at ∙ sym (none_locked answer)) (below_locked config.buckets answer)
        seen_is)
        (subst (λ (stage : Stage). ask_of stage ≢ ask.Finished)
        (sym (locks.told_so.stage ∙ ap (λ (stage : Stage). after stage answer) at)) (going_locked answer))
        locks.told_so.stage

  -- ---- or it waits

  module _ (new : Store) (left : RangeSeat) (next : Writing) (now : Sight) (changes : ChangesRange range left store new)
      (held : IsHeldUp seat.holder seat left writing next sight now) where
    not_holding : HoldsRange range.0 (Writes writer) → ⊥
    not_holding h = absurd (subst (λ (stage : Stage). IsHolding stage) at h.1)

    needs : holder_for_actor world (world.actors i) ≡ seat.holder
    needs =
        ap (λ (actor : Actor). holder_for_actor world actor) work.writer.writer
        ∙ ap (λ (stage : Stage). holder_for_write world writer (ask_of stage)) at
        ∙ sym so.holder

    pub held_up : WriteWaits config world i new writing next sight now
    held_up =
        waits_so config world i store writing sight work seat.holder new next now held.held needs
        (λ e. not_mine_range config world i store writing sight work range.0 not_holding (sym so.holder ∙ e))
        (same_at_range config world range store new left work.shared changes (record {
          history = ap (λ (s : RangeSeat). s.state.history) held.seat ∙ so.history;
          holder = ap (λ (s : RangeSeat). s.holder) held.seat ∙ so.holder;
          sight = ap (λ (s : RangeSeat). s.sight) held.seat ∙ so.sight;
          room = subst (λ (s : RangeSeat). is_some s.holder ≡ true → HasAckRoom s.state) (sym held.seat) so.room;
        }))
        held.writing held.seen

  -- it does one or the other
  pub lock_turn : (limit : ℕ) (new : Store) (other : RangeSeat) (next : Writing) (now : Sight) (went : Bool)
      → limit ≡ config.range_points → ChangesRange range other store new
      → LocksIf limit seat other writing next sight now went → WentSo config world i writing new sight now next went
  lock_turn limit new other next now true same changes h =
      locked new other next now changes
      (subst (λ (n : ℕ). Locks n seat other writing next sight now) same h)
  lock_turn limit new other next now false same changes h = held_up new other next now changes h
