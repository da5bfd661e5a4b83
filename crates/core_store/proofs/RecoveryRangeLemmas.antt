-- The events of a recovery at its range, as the core has them: its lock, and what it tells the range at its end.
use Rattle.std.proofs.Common.{◌≡◌, ◌≢◌, ◌∙◌, ℕ, Option, Some, None, List, [], ◌∷◌, ◌++◌, refl, sym, ap}
use Rattle.std.proofs.Common.{subst}
use Rattle.std.specs.Prelude.{slice_get}
use Rattle.core_store.proofs.MeetingLemmas.{range_met}
use Rattle.core_store.specs.Meetings.{sight_at_range}
use Rattle.mon_config.specs.declared.config.Config.{Config}
use Rattle.mon_topo.proofs.HeldLemmas.{range_entry_other, range_entry_same}
use Rattle.mon_topo.proofs.SightLemmas.{range_noted_over, range_seen}
use Rattle.mon_topo.specs.Settings.{Setting}
use Rattle.mon_topo.specs.Sights.{range_sight, sight_of, with_range_sight}
use Rattle.mon_topo.specs.Views.{View, joined_view, of_leaf, of_range, with_range_entry}
use Rattle.mon_topo.specs.declared.sights.Sight.{Sight}
use Rattle.mon_value.specs.Histories.{range_numbered}
use Rattle.mon_value.specs.declared.histories.RangeEntry.{RangeEntry}
use Rattle.mon_value.specs.declared.histories.RangeEntry.TheVariants as range_entry
use Rattle.mon_value.specs.declared.positions.Leaf.{Leaf}
use Rattle.mon_value.specs.declared.positions.Range.{Range}
use Rattle.mon_value.specs.declared.positions.Slot.{Slot}
use Rattle.core_store.proofs.OpeningToldLemmas.{opening_true}
use Rattle.core_store.proofs.RecoveryLeafLemmas.{below_copying}
use Rattle.core_store.proofs.RecoveryLemmas.{at_ask, came_so, copy_is, needs, not_mine_range, own, own_at}
use Rattle.core_store.proofs.RecoveryLemmas.{range_in_truth, waits_for}
use Rattle.core_store.proofs.SeatLemmas.{same_at_range, shared_at_range}
use Rattle.core_store.specs.Agreements.{IsRangeSo}
use Rattle.core_store.specs.WriteEvents.{IsHeldFrom}
use Rattle.core_store.specs.Recoverers.{OpensBelow, recovery_of}
use Rattle.core_store.specs.RecoverTurns.{AnswersSo, HasCopied, IsOpening, RecoverEnded, RecoverWaits, over_recovery}
use Rattle.core_store.specs.RecoveryEvents as events
use Rattle.core_store.specs.RecoveryEvents.{LocksRangeAt, LocksToOpen, TellsRange, TellsRangeAt, opening_told}
use Rattle.core_store.specs.RecoveryEvents.{told_by_denial}
use Rattle.core_store.specs.Agreements.{store_of}
use Rattle.core_store.specs.WriteEvents.{ChangesRange}
use Rattle.core_store.specs.declared.ranges.RangeSeat.{RangeSeat}
use Rattle.core_store.specs.declared.recoveries.Recovering.{Recovering}
use Rattle.core_store.specs.declared.store.Store.{Store}
use Rattle.write_core.proofs.KeepsLemmas.{changed_same}
use Rattle.write_core.proofs.ViewLemmas.{joined_whole_range}
use Rattle.write_core.specs.CopyPhases.{copy_ask_of}
use Rattle.write_core.specs.CopySteps.{IsToldOfRange, next_slot, opening_of, told_range}
use Rattle.write_core.specs.Invariant.{IsTelling}
use Rattle.write_core.specs.Recovering.{denial_of, Beginning, CopyStage, Over, Telling, copied_after}
use Rattle.write_core.specs.declared.copies.CopyTold.{CopyTold}
use Rattle.write_core.specs.declared.copies.CopyTold.TheVariants.{WasDone}
use Rattle.write_core.specs.declared.copies.Denial.{Denial}
use Rattle.write_core.specs.declared.copies.Outcome.{Outcome}
use Rattle.write_core.specs.declared.copies.Outcome.TheVariants.{Denied, NoSource, NoTarget, Opens}
use Rattle.write_core.specs.Steps.{same_view}
use Rattle.write_core.specs.World.{Actor, Recovers, Recovery, World, at_range, recovers_on, view_of}
use Rattle.write_core.specs.declared.copies.CopyAsk.TheVariants as ask

below_told : (count : ℕ) (history : List RangeEntry) (why : Option Denial)
    → OpensBelow count (copied_after Beginning (told_by_denial history why))
below_told count history (Some why) = tt
below_told count history None = below_copying count [] _

module _ (config : Config) (world : World) (i : ℕ) (store : Store) (recovering : Recovering) (sight : Sight)
    (opening : IsOpening config world i store recovering sight) where
  abbrev setting : Setting
  setting = store_of config

  abbrev view : View
  view = view_of (world.actors i)

  abbrev who : Recovery
  who = recovery_of i recovering view

  abbrev range : Range
  range = recovering.range

  abbrev met : View
  met = joined_view view (world.ranges range.0)

  met_is : sight_at_range range (of_range world.truth range) (sight_of view.seen) (sight_of (world.ranges range.0).seen)
      ≡ sight_of met.seen
  met_is = range_met setting world view range opening.kept (own config world i store recovering sight opening).part

  module _ (before : RangeSeat) (was : slice_get store.ranges.items range.0 ≡ Some before) where
    so : IsRangeSo world range.0 before
    so = opening.shared.ranges.each range.0 before was

    -- ---- the lock

    module _ (at : recovering.machine ≡ Beginning) (new : Store) (seat : RangeSeat) (now : Sight)
        (changes : ChangesRange range seat store new) where
      told_truly : IsToldOfRange setting (of_range world.truth range) who
          (opening_told (of_range world.truth range) recovering.leaf)
      told_truly =
          let mine = own config world i store recovering sight opening in
          opening_true setting range view.seen world.truth.seen who refl
          (opening.shared.served.replicas range.0 mine.aimed.range_there) mine.aimed.zoned mine.aimed.range_there
          (opening.recoverer.since at) mine.part.within.seen
          (opening.kept.truth.held.legal range (range_in_truth config world i store recovering sight opening))

      module _ (answer : CopyTold)
          (locks : LocksToOpen recovering.number range recovering.leaf before seat sight now answer) where
        abbrev lock_next : View → Actor
        lock_next = recovers_on who (copied_after Beginning answer)

        answer_is : answer ≡ opening_told (of_range world.truth range) recovering.leaf
        answer_is = locks.told_so
            ∙ ap (λ (history : List RangeEntry). opening_told history recovering.leaf) so.history

        lock_seen : now ≡ sight_of met.seen
        lock_seen = locks.seen
            ∙ (λ k. sight_at_range range (so.history k) (opening.recoverer.seen k) (so.sight k)) ∙ met_is

        pub locked : AnswersSo config world i recovering new sight now (Some answer)
        locked = (
          came_so config world i store recovering sight opening Beginning answer at (
            sym so.holder ∙ locks.free,
            subst (λ (a : CopyTold). IsToldOfRange setting (of_range world.truth range) who a) (sym answer_is)
                told_truly,
          )
              (at_range world i view range same_view (Some i) lock_next) refl new now
              (shared_at_range config world i view range same_view refl (λ leaf. refl) (λ n apart. refl) (Some i)
              lock_next store new seat opening.shared changes (locks.history ∙ so.history)
              (locks.holder ∙ ap (λ (n : ℕ). Some n) opening.recoverer.number) (locks.sight_there ∙ lock_seen)
              (λ held. locks.room))
              (lock_seen ∙ ap (λ (d : Actor). sight_of (view_of d).seen)
              (sym (changed_same world.actors i (lock_next met)))),
          subst (λ (s : CopyStage). OpensBelow config.buckets (copied_after s answer)) (sym at)
              (subst (λ (a : CopyTold). OpensBelow config.buckets (copied_after Beginning a)) (sym answer_is)
              (below_told config.buckets (of_range world.truth range)
              (denial_of (of_range world.truth range) recovering.leaf))),
        )

      pub range_held : IsHeldFrom before.holder before seat sight now → RecoverWaits config world i new sight now
      range_held held =
          waits_for config world i store recovering sight opening before.holder new now held.held
          (needs config world i store recovering sight opening Beginning at ∙ sym so.holder)
          (λ e. not_mine_range config world i store recovering sight opening Beginning at (λ none. none)
          (sym so.holder ∙ e))
          (same_at_range config world range store new seat opening.shared changes
          (subst (λ (s : RangeSeat). IsRangeSo world range.0 s) (sym held.seat) so)) held.seen

    -- ---- the end

    -- a change of what is seen is what this outcome appends
    record IsChangeSo (change : View → View) (last : Outcome) : Type 0 where
      bits : (change world.truth).bits ≡ world.truth.bits
      leaves_same : (leaf : Leaf) → of_leaf (change world.truth) leaf ≡ of_leaf world.truth leaf
      ranges_same : (n : ℕ) → n ≢ range.0
          → of_range (change world.truth) (range_numbered n) ≡ of_range world.truth (range_numbered n)
      history : events.with_outcome before.state.history recovering.number recovering.leaf last
          ≡ of_range (change world.truth) range
      seen : sight_at_range range (events.with_outcome before.state.history recovering.number recovering.leaf last)
          sight before.sight
          ≡ sight_of (change met).seen

    quiet : (last : Outcome)
        → events.with_outcome before.state.history recovering.number recovering.leaf last ≡ before.state.history
        → IsChangeSo (λ seen. seen) last
    quiet last same = record {
      bits = refl;
      leaves_same = λ leaf. refl;
      ranges_same = λ n apart. refl;
      history = same ∙ so.history;
      seen = (λ k. sight_at_range range ((same ∙ so.history) k) (opening.recoverer.seen k) (so.sight k)) ∙ met_is;
    }

    opens : (slot : Slot) → slot ≡ next_slot (of_range world.truth range)
        → IsChangeSo (with_range_entry range (opening_of who (of_range world.truth range))) (Opens slot)
    opens slot slot_is =
        let e : RangeEntry = opening_of who (of_range world.truth range) in
        let there = range_in_truth config world i store recovering sight opening in
        let grown : before.state.history ++ range_entry.Opened recovering.number slot recovering.leaf ∷ []
        ≡ of_range world.truth range ++ e ∷ []
        = (λ k. so.history k ++ range_entry.Opened (opening.recoverer.number k) (slot_is k) recovering.leaf ∷ []) in
        let whole : of_range met range ≡ of_range world.truth range
        = joined_whole_range view (world.ranges range.0) world.truth
        (own config world i store recovering sight opening).part.within (opening.kept.ranges range).within range
        (opening.kept.whole_ranges range) in
        record {
          bits = refl;
          leaves_same = λ leaf. refl;
          ranges_same = λ n apart. range_entry_other world.truth.seen range e (range_numbered n) apart;
          history = grown ∙ sym (range_entry_same world.truth.seen range e there);
          seen =
              (λ k. sight_at_range range (grown k) (opening.recoverer.seen k) (so.sight k))
              ∙ range_noted_over range (range_sight (of_range world.truth range))
              (range_sight (of_range world.truth range ++ e ∷ [])) (sight_of view.seen)
              (sight_of (world.ranges range.0).seen) (sight_of met.seen) met_is
              ∙ ap (λ (history : List RangeEntry). with_range_sight range (range_sight (history ++ e ∷ []))
              (sight_of met.seen)) (sym whole)
              ∙ sym (range_seen range e met.seen);
        }

    change_is : (last : Outcome) → IsTelling setting world i who last
        → IsChangeSo (told_range who (of_range world.truth range) last) last
    change_is (Opens slot) telling = opens slot telling.1
    change_is (Denied why) telling = quiet (Denied why) refl
    change_is (NoSource founds) telling = quiet (NoSource founds) refl
    change_is (NoTarget cut) telling = quiet (NoTarget cut) refl

    module _ (outcome : Outcome) (at : recovering.machine ≡ Telling outcome) (new : Store) (seat : RangeSeat)
        (now : Sight) (changes : ChangesRange range seat store new)
        (tells : TellsRange outcome recovering.number range recovering.leaf before seat sight now) where
      abbrev change : View → View
      change = told_range who (of_range world.truth range) outcome

      is_change : IsChangeSo change outcome
      is_change = change_is outcome (own_at config world i store recovering sight opening (Telling outcome) at)

      abbrev tell_next : View → Actor
      tell_next = recovers_on who (Over outcome)

      abbrev told_world : World
      told_world = at_range world i view range change None tell_next

      tell_seen : now ≡ sight_of (change met).seen
      tell_seen =
          tells.seen
          ∙ ap (λ (history : List RangeEntry). sight_at_range range history sight before.sight) tells.history
          ∙ is_change.seen

      came : HasCopied config world i new now WasDone
      came = came_so config world i store recovering sight opening (Telling outcome) WasDone at refl told_world refl new
          now
          (shared_at_range config world i view range change is_change.bits is_change.leaves_same is_change.ranges_same
          None tell_next store new seat opening.shared changes (tells.history ∙ is_change.history) tells.holder
          (tells.sight_there ∙ tell_seen) (λ held. absurd cc))
          (tell_seen ∙ ap (λ (d : Actor). sight_of (view_of d).seen)
          (sym (changed_same world.actors i (tell_next (change met)))))

      over_is : told_world.actors i ≡ Recovers (over_recovery i recovering outcome (view_of (told_world.actors i)))
      over_is =
          let e = changed_same world.actors i (tell_next (change met)) in
          e ∙ ap (λ (v : View). Recovers (over_recovery i recovering outcome v)) (sym (ap view_of e))

      pub ended_here : RecoverEnded config world i new recovering now range recovering.leaf outcome
      ended_here = record {
        answer = WasDone;
        came = came;
        over = subst (λ (w : World). w.actors i
            ≡ Recovers (over_recovery i recovering outcome (view_of (w.actors i))))
            (sym (copy_is config world i store recovering sight opening (Telling outcome) WasDone at)) over_is;
        range_is = refl;
        leaf_is = refl;
      }

  -- ---- by what it asks

  lock_by : (at : recovering.machine ≡ Beginning) (new : Store) (now : Sight) (answer : Option CopyTold)
      → LocksRangeAt recovering.number range recovering.leaf store new sight now answer
      → AnswersSo config world i recovering new sight now answer
  lock_by at new now (Some answer) did = locked did.before did.was at new did.seat now did.changes answer did.locks
  lock_by at new now None did = range_held did.before did.was at new did.seat now did.changes did.locks

  pub lock_answers : copy_ask_of recovering.machine ≡ ask.Lock → (new : Store) (now : Sight) (answer : Option CopyTold)
      → LocksRangeAt recovering.number range recovering.leaf store new sight now answer
      → AnswersSo config world i recovering new sight now answer
  lock_answers e new now answer did =
      lock_by (at_ask config world i store recovering sight opening ask.Lock e) new now answer did

  pub tell_ends : (outcome : Outcome) → recovering.machine ≡ Telling outcome → (new : Store) (now : Sight)
      → TellsRangeAt outcome recovering.number range recovering.leaf store new sight now
      → RecoverEnded config world i new recovering now range recovering.leaf outcome
  tell_ends outcome at new now did = ended_here did.before did.was outcome at new did.seat now did.changes did.tells
