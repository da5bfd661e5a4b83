-- A write's turn inside a leaf: what it brings comes to a replica.
use Rattle.std.proofs.Common.{◌≡◌, ℕ, ◌+◌, ◌<◌, None, List, [], ◌∷◌, ◌++◌, length, refl, sym, ap, subst, ◌∙◌}
use Rattle.std.proofs.Common.{length-append}
use Rattle.mon_config.specs.declared.config.Config.{Config}
use Rattle.mon_topo.proofs.HeldLemmas.{leaf_entry_other, leaf_entry_same}
use Rattle.mon_value.specs.Histories.{leaf_history, leaf_numbered}
use Rattle.mon_topo.specs.Settings.{Setting}
use Rattle.mon_value.specs.LeafHistories.{IsWellFormed, turn_entry}
use Rattle.mon_value.specs.declared.histories.Entry.{Entry}
use Rattle.mon_value.specs.declared.positions.Leaf.{Leaf}
use Rattle.mon_value.specs.declared.positions.Slot.{Slot}
use Rattle.core_store.proofs.AtWorkLemmas.{IsGoingOn, StandsBefore, below_entering, going_entering, leaf_in_truth}
use Rattle.core_store.proofs.AtWorkLemmas.{none_entering, own}
use Rattle.core_store.proofs.MeetingLemmas.{leaf_met}
use Rattle.core_store.proofs.SeatLemmas.{leaf_so_then, shared_at_leaf}
use Rattle.mon_topo.proofs.SightLemmas.{leaf_seen, noted_over}
use Rattle.core_store.proofs.WriteTurnLemmas.{can_come, step_is, went_so, writer_then}
use Rattle.core_store.specs.Agreements.{IsLeafSo}
use Rattle.core_store.specs.Meetings.{sight_at_leaf}
use Rattle.mon_topo.specs.Sights.{sight_of, with_leaf_sight}
use Rattle.core_store.specs.Agreements.{store_of}
use Rattle.core_store.specs.WriteEvents.{ChangesLeaf, Puts}
use Rattle.core_store.specs.WriteTurns.{IsAtWork, WriteWent}
use Rattle.core_store.specs.Writers.{change_turn, writer_of}
use Rattle.core_store.specs.declared.leaves.LeafSeat.{LeafSeat}
use Rattle.mon_topo.specs.declared.sights.Sight.{Sight}
use Rattle.core_store.specs.declared.store.Store.{Store}
use Rattle.core_store.specs.declared.writes.Writing.{Writing}
use Rattle.write_core.proofs.KeepsLemmas.{changed_same}
use Rattle.write_core.proofs.KeptLemmas.{run_kept}
use Rattle.write_core.proofs.ViewLemmas.{joined_whole_leaf}
use Rattle.write_core.specs.Events.{Goes}
use Rattle.write_core.specs.Invariant.{IsAt, IsEntering, IsKept}
use Rattle.write_core.specs.Program.{Inside, Stage, after, entering}
use Rattle.write_core.specs.Rounds.{Round, after_look}
use Rattle.write_core.specs.Steps.{step}
use Rattle.mon_topo.specs.Views.{View, joined_view, of_leaf, with_entry}
use Rattle.write_core.specs.World.{World, Writer, at_leaf, put_of, view_of, writes_on}
use Rattle.write_core.specs.declared.asks.WriteTold.TheVariants as told
use Rattle.write_core.specs.declared.marks.Fate.TheVariants as fate
use Rattle.write_core.specs.declared.marks.Mark.{Mark}

module _ (config : Config) (world : World) (i : ℕ) (store : Store) (writing : Writing) (sight : Sight)
    (work : IsAtWork config world i store writing sight) (done left : List Mark) (mark : Mark)
    (at : writing.machine.stage ≡ Inside (record { done = done; left = mark ∷ left }) [] []) where
  abbrev setting : Setting
  setting = store_of config

  abbrev view : View
  view = view_of (world.actors i)

  abbrev writer : Writer
  writer = writer_of i writing view

  abbrev round : Round
  round = record { done = done; left = mark ∷ left }

  abbrev stage : Stage
  stage = entering (after_look round fate.Took)

  -- the entry that the core's write puts, and the one that is put
  abbrev last : Entry
  last = put_of writer mark

  abbrev pub last_kept : Entry
  last_kept = turn_entry writing.number writing.range mark.slot (change_turn writing.change)

  last_is : last_kept ≡ last
  last_is = ap (λ (n : ℕ). turn_entry n writing.range mark.slot (change_turn writing.change)) work.writer.number

  abbrev then' : World
  then' = at_leaf world i view mark.leaf (with_entry mark.leaf last) None (writes_on writer stage)

  is_then : step setting world i told.Done ≡ then'
  is_then = step_is config world i store writing sight work (Inside round [] []) told.Done at

  entering_here : IsEntering world i setting writer round
  entering_here =
      let own_at : IsAt setting world i writer writing.machine.stage
      = (own config world i store writing sight work).at in
      let here : IsAt setting world i writer (Inside round [] []) = subst (λ (s : Stage). IsAt setting world i writer
      s) at own_at in
      here.0

  pub leaf_here : mark.leaf.0 < length world.truth.seen.leaves
  leaf_here = leaf_in_truth config world i store writing sight work done left mark entering_here.going

  history_then : of_leaf (with_entry mark.leaf last world.truth) mark.leaf ≡ of_leaf world.truth mark.leaf ++ last ∷ []
  history_then = leaf_entry_same world.truth.seen mark.leaf last leaf_here

  kept_then : IsKept setting (step setting world i told.Done)
  kept_then =
      run_kept setting world (Goes i told.Done ∷ [])
      (can_come config world i store writing sight work (Inside round [] []) told.Done at refl, tt) work.kept

  formed_then : IsWellFormed (of_leaf world.truth mark.leaf ++ last ∷ [])
  formed_then =
      let kept : IsKept setting then' = subst (λ (w : World). IsKept setting w) is_then kept_then in
      let grown : length then'.truth.seen.leaves ≡ length world.truth.seen.leaves
      = kept.truth.held.all_leaves ∙ sym work.kept.truth.held.all_leaves in
      subst (λ (history : List Entry). IsWellFormed history) history_then
      (kept.truth.held.formed mark.leaf (subst (λ (n : ℕ). mark.leaf.0 < n) (sym grown) leaf_here))

  module _ (seat : LeafSeat) (so : IsLeafSo config world mark.leaf seat) where
    pub put_follows : IsWellFormed (seat.state.history ++ last_kept ∷ [])
    put_follows =
        subst (λ (e : Entry). IsWellFormed (seat.state.history ++ e ∷ [])) (sym last_is)
        (subst (λ (history : List Entry). IsWellFormed (history ++ last ∷ [])) (sym so.history) formed_then)

    module _ (new : Store) (other : LeafSeat) (next : Writing) (now : Sight) (changes : ChangesLeaf mark.leaf other
        store new)
        (puts : Puts mark.slot mark.leaf seat other writing next sight now) where
      abbrev met : View
      met = joined_view view (world.leaves mark.leaf.0)

      other_history : other.state.history ≡ of_leaf world.truth mark.leaf ++ last ∷ []
      other_history = puts.history ∙ (λ k. so.history k ++ last_is k ∷ [])

      met_whole : of_leaf met mark.leaf ≡ of_leaf world.truth mark.leaf
      met_whole = joined_whole_leaf view (world.leaves mark.leaf.0) world.truth
          (own config world i store writing sight work).part.within (work.kept.leaves mark.leaf).within mark.leaf
          (work.kept.whole_leaves mark.leaf)

      length_then : length (of_leaf world.truth mark.leaf ++ last ∷ []) ≡ length (leaf_history met.seen mark.leaf) + 1
      length_then = length-append (of_leaf world.truth mark.leaf) (last ∷ [])
          ∙ ap (λ (history : List Entry). length history + 1) (sym met_whole)

      -- noting a longer history writes over what was noted of a shorter one
      seen_is : now ≡ sight_of (with_entry mark.leaf last met).seen
      seen_is =
          puts.seen
          ∙ (λ k. sight_at_leaf mark.leaf (other_history k) (work.writer.seen k) (so.sight k))
          ∙ noted_over mark.leaf (of_leaf world.truth mark.leaf) (of_leaf world.truth mark.leaf ++ last ∷ [])
          (sight_of view.seen) (sight_of (world.leaves mark.leaf.0).seen) (sight_of met.seen)
          (leaf_met setting world view mark.leaf work.kept (own config world i store writing sight work).part)
          ∙ ap (λ (n : ℕ). with_leaf_sight mark.leaf n (sight_of met.seen)) length_then
          ∙ sym (leaf_seen mark.leaf last met.seen)

      pub put_here : WriteWent config world i new writing next now
      put_here =
          went_so config world i store writing sight work told.Done then' new next now is_then
          (can_come config world i store writing sight work (Inside round [] []) told.Done at refl)
          (shared_at_leaf config world i view mark.leaf (with_entry mark.leaf last)
          (λ n apart. leaf_entry_other world.truth.seen mark.leaf last (leaf_numbered n) apart) (λ range. refl) refl
          None
          (writes_on writer stage) store new other work.shared changes
          (leaf_so_then config world i view mark.leaf (with_entry mark.leaf last) None (writes_on writer stage) seat
          other now so
          puts.stays (other_history ∙ sym history_then) puts.holder seen_is))
          (writer_then config world i store writing sight work (then'.actors i) stage (with_entry mark.leaf last met)
          told.Done
          None next now
          (changed_same world.actors i (writes_on writer stage (with_entry mark.leaf last met)))
          (ap (λ (s : Stage). after s told.Done) at) puts.told_so (sym (none_entering (after_look round fate.Took)))
          (below_entering config.buckets (after_look round fate.Took)) seen_is)
          (subst IsGoingOn (sym (puts.told_so.stage ∙ ap (λ (s : Stage). after s told.Done) at))
          (going_entering (after_look round fate.Took))) puts.told_so.stage

-- what is asked of a put, by the slot and the leaf that the write asks for
module _ (config : Config) (world : World) (i : ℕ) (store : Store) (writing : Writing) (sight : Sight)
    (work : IsAtWork config world i store writing sight) (slot : Slot) (leaf : Leaf)
    (at : StandsBefore (λ round. Inside round [] []) writing.machine.stage slot leaf) (seat : LeafSeat) where
  pub follows : IsLeafSo config world leaf seat
      → IsWellFormed (seat.state.history ++ turn_entry writing.number writing.range slot (change_turn writing.change) ∷ [])
  follows so =
      subst (λ (s : Slot). IsWellFormed (seat.state.history
      ++ turn_entry writing.number writing.range s (change_turn writing.change) ∷ []))
      at.slot_is
      (put_follows config world i store writing sight work at.done at.left at.mark at.is seat
      (subst (λ (l : Leaf). IsLeafSo config world l seat) (sym at.leaf_is) so))

  pub put_turn : IsLeafSo config world leaf seat → (new : Store) (other : LeafSeat) (next : Writing) (now : Sight)
      → ChangesLeaf leaf other store new → Puts slot leaf seat other writing next sight now
      → WriteWent config world i new writing next now
  put_turn so new other next now changes puts =
      subst (λ (l : Leaf). IsLeafSo config world l seat → ChangesLeaf l other store new
      → Puts slot l seat other writing next sight now → WriteWent config world i new writing next now) at.leaf_is
      (λ so' changes' puts'. put_here config world i store writing sight work at.done at.left at.mark at.is seat so'
      new other
      next now changes'
      (subst (λ (s : Slot). Puts s at.mark.leaf seat other writing next sight now) (sym at.slot_is) puts')) so changes
      puts
