-- A write's turn at its acknowledgement: its range is told what became of what it brought.
use Rattle.std.proofs.Common.{◌≡◌, ℕ, ◌<◌, ◌≢◌, Bool, true, false, cond, None, Some, List, [], ◌∷◌, ◌++◌, length, refl}
use Rattle.std.proofs.Common.{sym, ap, subst, ◌∙◌}
use Rattle.std.specs.Prelude.{is_some}
use Rattle.std.specs.List.{flat_map}
use Rattle.mon_config.specs.declared.config.Config.{Config}
use Rattle.mon_topo.proofs.HeldLemmas.{range_entry_other, range_entry_same}
use Rattle.mon_topo.specs.Settings.{Setting}
use Rattle.mon_value.specs.Histories.{range_numbered}
use Rattle.mon_value.specs.declared.histories.Ack.{Ack}
use Rattle.mon_value.specs.declared.histories.RangeEntry.{RangeEntry}
use Rattle.mon_topo.specs.RangeHistories.{turn_ack}
use Rattle.mon_value.specs.Turns.{Turn}
use Rattle.mon_value.specs.declared.positions.FoundDown.{FoundDown}
use Rattle.mon_value.specs.declared.positions.Leaf.{Leaf}
use Rattle.mon_value.specs.declared.positions.Range.{Range}
use Rattle.core_store.proofs.AtWorkLemmas.{own, range_in_truth}
use Rattle.core_store.proofs.MeetingLemmas.{range_met}
use Rattle.core_store.proofs.SeatLemmas.{shared_at_range}
use Rattle.mon_topo.proofs.SightLemmas.{range_noted_over, range_seen}
use Rattle.core_store.proofs.WriteTurnLemmas.{can_come, step_is}
use Rattle.core_store.specs.Agreements.{AreShared, IsRangeSo}
use Rattle.core_store.specs.Meetings.{sight_at_range}
use Rattle.mon_topo.specs.Sights.{range_sight, sight_of, with_range_sight}
use Rattle.core_store.specs.Agreements.{store_of}
use Rattle.core_store.specs.WriteEvents.{ChangesRange, LetsGo}
use Rattle.core_store.specs.WriteEvents as events
use Rattle.core_store.specs.WriteTurns.{IsAtWork, WriteEnded, ended_write}
use Rattle.core_store.specs.Writers.{change_turn, writer_of}
use Rattle.core_store.specs.declared.ranges.RangeSeat.{RangeSeat}
use Rattle.mon_topo.specs.declared.sights.Sight.{Sight}
use Rattle.core_store.specs.declared.store.Store.{Store}
use Rattle.core_store.specs.declared.writes.Writing.{Writing}
use Rattle.write_core.proofs.KeepsLemmas.{changed_same}
use Rattle.write_core.proofs.ViewLemmas.{joined_whole_range}
use Rattle.write_core.specs.Invariant.{IsAcking, IsAt}
use Rattle.write_core.specs.Marks.{ack_of, found_in_mark, some_took}
use Rattle.write_core.specs.Program.{Acking, Ended, Marked, Not, Stage, Verdict, end_of_verdict}
use Rattle.write_core.specs.Replays.{HasAckRoom}
use Rattle.write_core.specs.Steps.{with_acknowledgement, step}
use Rattle.mon_topo.specs.Views.{View, joined_view, of_leaf, of_range, with_range_entry}
use Rattle.write_core.specs.World.{World, Writer, Writes, at_range, view_of, writes_on}
use Rattle.write_core.specs.declared.asks.WriteEnd.{WriteEnd}
use Rattle.write_core.specs.declared.asks.WriteEnd.TheVariants as end
use Rattle.write_core.specs.declared.asks.WriteTold.TheVariants as told
use Rattle.write_core.specs.declared.refusals.Refused.TheVariants as refused

module _ (config : Config) (world : World) (i : ℕ) (store : Store) (writing : Writing) (sight : Sight)
    (work : IsAtWork config world i store writing sight) (verdict : Verdict) (at : writing.machine.stage
    ≡ Acking verdict)
    (seat : RangeSeat) (so : IsRangeSo world writing.range.0 seat) where
  abbrev setting : Setting
  setting = store_of config

  abbrev view : View
  view = view_of (world.actors i)

  abbrev writer : Writer
  writer = writer_of i writing view

  abbrev range : Range
  range = writing.range

  abbrev turn : Turn
  turn = change_turn writing.change

  abbrev met : View
  met = joined_view view (world.ranges range.0)

  acking : IsAcking world i setting writer verdict
  acking =
      let own_at : IsAt setting world i writer writing.machine.stage
      = (own config world i store writing sight work).at in
      subst (λ (s : Stage). IsAt setting world i writer s) at own_at

  -- ---- room was made for what it appends

  holds_by : (one : Verdict) → IsAcking world i setting writer one → world.range_holder range.0 ≡ Some i
  holds_by (Not why) h = h.holds.holder
  holds_by (Marked marks) h = h.going.holds.holder

  pub has_room : HasAckRoom seat.state
  has_room = so.room (ap is_some (so.holder ∙ holds_by verdict acking))

  -- ---- what it appends

  -- a change of what is seen is what this end appends
  record IsChangeSo (change : View → View) (last : WriteEnd) : Type 0 where
    bits : (change world.truth).bits ≡ world.truth.bits
    leaves_same : (leaf : Leaf) → of_leaf (change world.truth) leaf ≡ of_leaf world.truth leaf
    ranges_same : (n : ℕ) → n ≢ range.0
        → of_range (change world.truth) (range_numbered n) ≡ of_range world.truth (range_numbered n)
    history : events.with_end_entry seat.state.history writing.number turn last
        ≡ of_range (change world.truth) range
    seen : sight_at_range range (events.with_end_entry seat.state.history writing.number turn last) sight
        seat.sight
        ≡ sight_of (change met).seen

  met_is : sight_at_range range (of_range world.truth range) (sight_of view.seen) (sight_of (world.ranges range.0).seen)
      ≡ sight_of met.seen
  met_is = range_met setting world view range work.kept (own config world i store writing sight work).part

  quiet : (last : WriteEnd)
      → events.with_end_entry seat.state.history writing.number turn last ≡ seat.state.history
      → IsChangeSo (λ seen. seen) last
  quiet last same = record {
    bits = refl;
    leaves_same = λ leaf. refl;
    ranges_same = λ n apart. refl;
    history = same ∙ so.history;
    seen = (λ k. sight_at_range range ((same ∙ so.history) k) (work.writer.seen k) (so.sight k)) ∙ met_is;
  }

  appends : (ack : Ack) → IsChangeSo (with_range_entry range (turn_ack i turn ack)) (end.Written ack)
  appends ack =
      let entry : RangeEntry = turn_ack i turn ack in
      let there : range.0 < length world.truth.seen.ranges = range_in_truth config world i store writing sight work in
      let grown : seat.state.history ++ turn_ack writing.number turn ack ∷ []
      ≡ of_range world.truth range ++ entry ∷ []
      = (λ k. so.history k ++ turn_ack (work.writer.number k) turn ack ∷ []) in
      let whole : of_range met range ≡ of_range world.truth range
      = joined_whole_range view (world.ranges range.0) world.truth
      (own config world i store writing sight work).part.within (work.kept.ranges range).within range
      (work.kept.whole_ranges range) in
      record {
        bits = refl;
        leaves_same = λ leaf. refl;
        ranges_same = λ n apart. range_entry_other world.truth.seen range entry (range_numbered n) apart;
        history = grown ∙ sym (range_entry_same world.truth.seen range entry there);
        seen =
            (λ k. sight_at_range range (grown k) (work.writer.seen k) (so.sight k))
            ∙ range_noted_over range (range_sight (of_range world.truth range))
            (range_sight (of_range world.truth range ++ entry ∷ [])) (sight_of view.seen)
            (sight_of (world.ranges range.0).seen) (sight_of met.seen) met_is
            ∙ ap (λ (history : List RangeEntry). with_range_sight range (range_sight (history ++ entry ∷ []))
            (sight_of met.seen))
            (sym whole)
            ∙ sym (range_seen range entry met.seen);
      }

  change_by : (b : Bool) (ack : Ack) (founds : List FoundDown)
      → IsChangeSo (λ seen. cond b (with_range_entry range (turn_ack i turn ack) seen) seen)
      (cond b (end.Written ack) (end.Unavailable founds))
  change_by true ack founds = appends ack
  change_by false ack founds = quiet (end.Unavailable founds) refl

  change_is : (one : Verdict) → IsChangeSo (with_acknowledgement writer one) (end_of_verdict range one)
  change_is (Not (refused.OldPoint last)) = quiet (end.OldPoint last) refl
  change_is (Not (refused.RangeFull count)) = quiet (end.RangeFull count) refl
  change_is (Marked marks) = change_by (some_took marks) (ack_of range marks) (flat_map found_in_mark marks)

  -- ---- it has ended

  module _ (last : WriteEnd) (last_is : last ≡ end_of_verdict range verdict) (new : Store) (other : RangeSeat)
      (now : Sight)
      (changes : ChangesRange range other store new)
      (goes : LetsGo last writing.number turn range seat other sight now) where
    abbrev change : View → View
    change = with_acknowledgement writer verdict

    is_change : IsChangeSo change last
    is_change = subst (λ (e : WriteEnd). IsChangeSo change e) (sym last_is) (change_is verdict)

    abbrev then' : World
    then' = at_range world i view range change None (writes_on writer (Ended verdict))

    is_then : step setting world i told.Done ≡ then'
    is_then = step_is config world i store writing sight work (Acking verdict) told.Done at

    seen_is : now ≡ sight_of (change met).seen
    seen_is =
        goes.seen ∙ ap (λ (history : List RangeEntry). sight_at_range range history sight seat.sight) goes.history
        ∙ is_change.seen

    doer_is : (step setting world i told.Done).actors i ≡ Writes (ended_write i writing verdict (change met))
    doer_is =
        ap (λ (w : World). w.actors i) is_then
        ∙ changed_same world.actors i (writes_on writer (Ended verdict) (change met))

    view_is : view_of ((step setting world i told.Done).actors i) ≡ change met
    view_is = ap view_of doer_is

    pub acknowledge_turn : WriteEnded config world i new writing now range last
    acknowledge_turn = record {
      answer = told.Done;
      came = record {
        can = can_come config world i store writing sight work (Acking verdict) told.Done at refl;
        shared = subst (λ (w : World). AreShared config w new) (sym is_then)
            (shared_at_range config world i view range change is_change.bits is_change.leaves_same
            is_change.ranges_same None
            (writes_on writer (Ended verdict)) store new other work.shared changes (goes.history ∙ is_change.history)
            goes.holder
            (goes.sight_there ∙ seen_is) (λ held. absurd cc));
      };
      verdict = verdict;
      writer = doer_is ∙ (λ k. Writes (ended_write i writing verdict (sym view_is k)));
      sight_is = seen_is ∙ ap (λ (seen : View). sight_of seen.seen) (sym view_is);
      range_is = refl;
      end_is = last_is;
    }
