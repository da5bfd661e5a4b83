-- What a store's calls for the events of a recovery come to, by the claims of what they do to the seats.
use Rattle.std.proofs.Common.{◌≡◌, ◌∙◌, ℕ, ◌<◌, List, [], length, Some, Result, Ok, Err, IfOk, sym, ap, subst}
use Rattle.std.specs.Prelude.{OnOk, slice_get}
use Rattle.core_store.specs.Meetings.{sight_at_leaf}
use Rattle.leaf_store.specs.LeafStates.{LeafView}
use Rattle.mon_config.specs.declared.config.Config.{Config}
use Rattle.mon_topo.specs.RangeHistories.{opened_slots}
use Rattle.mon_topo.specs.Views.{of_range}
use Rattle.mon_topo.specs.declared.limits.TheConstants.{MOST_SLOTS}
use Rattle.mon_topo.specs.declared.sights.Sight.{Sight}
use Rattle.mon_value.specs.declared.histories.RangeEntry.{RangeEntry}
use Rattle.mon_value.specs.declared.positions.Leaf.{Leaf}
use Rattle.core_store.proofs.RecoveryLemmas.{at_ask, own_at}
use Rattle.core_store.proofs.RecoveryRangeLemmas.{tell_ends}
use Rattle.core_store.proofs.RecoveryTurnLemmas.{went}
use Rattle.core_store.specs.Agreements.{IsRangeSo}
use Rattle.core_store.specs.RecoverTurns.{AnswersSo, IsOpening, IsOpeningSomewhere, RecoversSo, recovering_then}
use Rattle.core_store.specs.RecoveryEvents.{MeetsLeaf, TellsRangeAt}
use Rattle.core_store.specs.declared.leaves.LeafSeat.{LeafSeat}
use Rattle.core_store.specs.declared.ranges.RangeSeat.{RangeSeat}
use Rattle.core_store.specs.declared.recoveries.RecoverTurn.{RecoverTurn}
use Rattle.core_store.specs.declared.recoveries.RecoverTurn.TheVariants as turn
use Rattle.core_store.specs.declared.recoveries.Recovering.{Recovering}
use Rattle.core_store.specs.declared.store.Store.{Store}
use Rattle.write_core.specs.CopyPhases.{CopyEndsSo, copy_ask_of}
use Rattle.write_core.specs.CopySteps.{next_slot}
use Rattle.write_core.specs.Recovering.{CopyStage, Over, Telling, Within, copied_after}
use Rattle.write_core.specs.declared.copies.CopyTold.{CopyTold}
use Rattle.write_core.specs.declared.copies.CopyTold.TheVariants.{WasDone}
use Rattle.write_core.specs.declared.copies.Outcome.{Outcome}
use Rattle.write_core.specs.World.{World}
use Rattle.write_core.specs.declared.copies.CopyAsk.TheVariants as ask

-- a machine that was told that its range knows, and that comes out so
pub over_then : (store : Store) (recovering : Recovering) (sight : Sight) → IsOpeningSomewhere store recovering sight
    → copy_ask_of recovering.machine ≡ ask.Ack → (stage : CopyStage)
    → stage ≡ copied_after recovering.machine WasDone → copy_ask_of stage ≡ ask.Finished
over_then store recovering sight some e stage is =
    let at = at_ask some.config some.world some.i store recovering sight some.opening ask.Ack e in
    ap copy_ask_of (is ∙ ap (λ (s : CopyStage). copied_after s WasDone) at.1)

module _ (config : Config) (world : World) (i : ℕ) (store : Store) (recovering : Recovering) (sight : Sight)
    (opening : IsOpening config world i store recovering sight) (e : copy_ask_of recovering.machine ≡ ask.Ack)
    (stage : CopyStage) (is : stage ≡ copied_after recovering.machine WasDone) (outcome : Outcome)
    (ends : CopyEndsSo stage outcome) where
  -- it was told as it comes out
  telling : recovering.machine ≡ Telling outcome
  telling =
      let at = at_ask config world i store recovering sight opening ask.Ack e in
      let over : stage ≡ Over at.0 = is ∙ ap (λ (s : CopyStage). copied_after s WasDone) at.1 in
      let same : outcome ≡ at.0 = subst (λ (s : CopyStage). CopyEndsSo s outcome) over ends in
      at.1 ∙ ap (λ (o : Outcome). Telling o) (sym same)

  pub ended_so : {E : Type 0} (result : Result RecoverTurn E) (new : Store) (now : Sight)
      → IfOk result (λ one. one ≡ turn.Ended recovering.range recovering.leaf outcome)
      → IfOk result (λ one. TellsRangeAt outcome recovering.number recovering.range recovering.leaf store new sight now)
      → IfOk result (RecoversSo config world i recovering new sight now)
  ended_so (Err why) new now turned told = tt
  ended_so (Ok one) new now turned told =
      subst (λ (t : RecoverTurn). RecoversSo config world i recovering new sight now t) (sym turned)
      (tell_ends config world i store recovering sight opening outcome telling new now told)

-- ---- seats

-- someone looks at a leaf
pub met_leaf : (leaf : Leaf) (old new : LeafSeat) (sight sight_after : Sight) → new.state ≡ old.state
    → new.holder ≡ old.holder → new.zone ≡ old.zone → new.place ≡ old.place → new.sight ≡ sight_after
    → sight_after ≡ sight_at_leaf leaf old.state.history sight old.sight
    → MeetsLeaf leaf old.state.history old.holder old new sight sight_after
met_leaf leaf old new sight sight_after state holder zone place there seen = record {
  stays = record {
    schemas = ap (λ (s : LeafView). s.schemas) state;
    buckets = ap (λ (s : LeafView). s.buckets) state;
    promised = ap (λ (s : LeafView). s.promised) state;
    zone = zone;
    place = place;
    sight_there = there;
  };
  history_is = ap (λ (s : LeafView). s.history) state;
  holder_is = holder;
  seen = seen;
}

pub on_ok : {X E P Q : Type 0} (result : Result X E) → (P → Q) → OnOk result P → OnOk result Q
on_ok (Ok x) from h = from h
on_ok (Err why) from h = tt

-- ---- a turn that goes on

pub went_so : (config : Config) (world : World) (i : ℕ) (store : Store) (recovering : Recovering) (sight : Sight)
    → IsOpening config world i store recovering sight → (copy_ask_of recovering.machine ≡ ask.Ack → ⊥)
    → (new : Store) (now : Sight) (answer : CopyTold)
    → AnswersSo config world i recovering new sight now (Some answer) → {E : Type 0} (result : Result RecoverTurn E)
    → IfOk result (λ one. one ≡ turn.Went (recovering_then recovering answer))
    → IfOk result (RecoversSo config world i recovering new sight now)
went_so config world i store recovering sight opening more new now answer answered (Ok one) turned =
    subst (λ (t : RecoverTurn). RecoversSo config world i recovering new sight now t) (sym turned)
    (went config world i store recovering sight opening new now answer more answered)
went_so config world i store recovering sight opening more new now answer answered (Err why) turned = tt

-- what a range's next slot is, and that there is one more
module _ (config : Config) (world : World) (i : ℕ) (store : Store) (recovering : Recovering) (sight : Sight)
    (opening : IsOpening config world i store recovering sight) (e : copy_ask_of recovering.machine ≡ ask.Put) where
  pub slot_is_free : (seat : RangeSeat) → slice_get store.ranges.items recovering.range.0 ≡ Some seat
      → length (opened_slots seat.state.history) < MOST_SLOTS
  slot_is_free seat was =
      let at = at_ask config world i store recovering sight opening ask.Put e in
      let so : IsRangeSo world recovering.range.0 seat = opening.shared.ranges.each recovering.range.0 seat was in
      let mine = own_at config world i store recovering sight opening (Within at.0 [] []) at.1 in
      subst (λ (history : List RangeEntry). length (opened_slots history) < MOST_SLOTS) (sym so.history)
      mine.0.copying.may.1

  pub slot_so : (seat : RangeSeat) → slice_get store.ranges.items recovering.range.0 ≡ Some seat
      → next_slot seat.state.history ≡ next_slot (of_range world.truth recovering.range)
  slot_so seat was =
      let so : IsRangeSo world recovering.range.0 seat = opening.shared.ranges.each recovering.range.0 seat was in
      ap next_slot so.history
