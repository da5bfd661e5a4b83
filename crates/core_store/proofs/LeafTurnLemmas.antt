-- A write's turn at a leaf: it asks for room there, or enters it.
use Rattle.std.proofs.Common.{◌≡◌, ℕ, Bool, true, false, cond, Option, Some, None, List, [], ◌∷◌, length, refl, sym}
use Rattle.std.proofs.Common.{ap, arith, subst, ◌∙◌}
use Rattle.std.specs.Prelude.{option_map}
use Rattle.std.proofs.lemmas.Option.{none-some}
use Rattle.mon_config.specs.declared.config.Config.{Config}
use Rattle.mon_topo.specs.Settings.{Setting}
use Rattle.mon_value.specs.LeafHistories.{is_down}
use Rattle.mon_value.specs.declared.histories.Entry.{Entry}
use Rattle.mon_value.specs.declared.positions.Leaf.{Leaf}
use Rattle.mon_value.specs.declared.positions.Slot.{Slot}
use Rattle.leaf_store.specs.LeafStates.{is_unraised}
use Rattle.core_store.proofs.AtWorkLemmas.{IsGoingOn, StandsBefore, below_entering, below_reserving, going_entering}
use Rattle.core_store.proofs.AtWorkLemmas.{going_inside, going_reserving, none_entering, none_reserving, own}
use Rattle.core_store.proofs.MeetingLemmas.{leaf_met}
use Rattle.core_store.proofs.SeatLemmas.{leaf_so_then, same_at_leaf, shared_at_leaf}
use Rattle.leaf_store.proofs.BucketLemmas.{AllBelow}
use Rattle.core_store.proofs.RaiseLemmas.{all_below}
use Rattle.mon_value.specs.Turns.{Turn, Adds, Hides}
use Rattle.core_store.proofs.WriteTurnLemmas.{can_come, not_mine_leaf, step_is, waits_so, went_so, writer_then}
use Rattle.core_store.specs.Agreements.{IsLeafSo, IsServed}
use Rattle.core_store.specs.Holders.{leaf_inside}
use Rattle.core_store.specs.Meetings.{sight_at_leaf}
use Rattle.mon_topo.specs.Sights.{sight_of}
use Rattle.core_store.specs.NextAsks.{holder_for_actor, holder_for_write}
use Rattle.core_store.specs.Agreements.{store_of}
use Rattle.core_store.specs.WriteEvents.{AreTurnsToRaise, ChangesLeaf, Enters, EntersIf, IsHeldUp, Reserves}
use Rattle.core_store.specs.WriteEvents.{ReservesIf, up_or_down}
use Rattle.core_store.specs.WriteTurns.{IsAtWork, WentSo, WriteWaits, WriteWent}
use Rattle.core_store.specs.Writers.{RaisesBelow, change_turn, writer_of}
use Rattle.core_store.specs.declared.leaves.LeafSeat.{LeafSeat}
use Rattle.mon_topo.specs.declared.sights.Sight.{Sight}
use Rattle.core_store.specs.declared.store.Store.{Store}
use Rattle.core_store.specs.declared.writes.Writing.{Writing}
use Rattle.write_core.proofs.KeepsLemmas.{changed_same}
use Rattle.write_core.specs.Program.{Entering, Reserving, Stage, after, ask_of}
use Rattle.write_core.specs.Rounds.{Round, after_look}
use Rattle.write_core.specs.Steps.{AreUnraised, IsToldAtEntry, IsToldByLeaf, entrant, same_view, turn_buckets}
use Rattle.mon_topo.specs.Views.{View, joined_view, of_leaf}
use Rattle.write_core.specs.World.{Actor, World, Writer, at_leaf, view_of, writes_on}
use Rattle.write_core.specs.declared.asks.WriteTold.{WriteTold}
use Rattle.write_core.specs.declared.asks.WriteTold.TheVariants as told
use Rattle.write_core.specs.declared.marks.Fate.TheVariants as fate
use Rattle.write_core.specs.declared.marks.Mark.{Mark}

module _ (config : Config) (world : World) (i : ℕ) (store : Store) (writing : Writing) (sight : Sight)
    (work : IsAtWork config world i store writing sight) (leaf : Leaf) (seat : LeafSeat)
    (so : IsLeafSo config world leaf seat) where
  abbrev setting : Setting
  setting = store_of config

  abbrev view : View
  view = view_of (world.actors i)

  abbrev writer : Writer
  writer = writer_of i writing view

  pub met_is : sight_at_leaf leaf seat.state.history sight seat.sight
      ≡ sight_of (joined_view view (world.leaves leaf.0)).seen
  met_is =
      (λ k. sight_at_leaf leaf (so.history k) (work.writer.seen k) (so.sight k))
      ∙ leaf_met setting world view leaf work.kept (own config world i store writing sight work).part

  -- it waits
  pub held_up : (stage : Stage) → writing.machine.stage ≡ stage → leaf_inside stage ≡ None
      → holder_for_write world writer (ask_of stage) ≡ world.leaf_holder leaf.0 → (new : Store) (left : LeafSeat)
      (next : Writing) (now : Sight) → ChangesLeaf leaf left store new
      → IsHeldUp seat.holder seat left writing next sight now → WriteWaits config world i new writing next sight now
  held_up stage at outside needs new left next now changes held =
      waits_so config world i store writing sight work seat.holder new next now held.held
      (ap (λ (actor : Actor). holder_for_actor world actor) work.writer.writer
      ∙ ap (λ (s : Stage). holder_for_write world writer (ask_of s)) at ∙ needs ∙ sym so.holder)
      (λ e. not_mine_leaf config world i store writing sight work leaf.0
      (λ inside. none-some leaf.0 (sym (ap (option_map (λ (l : Leaf). l.0)) (ap leaf_inside at ∙ outside)) ∙ inside))
      (sym so.holder ∙ e))
      (same_at_leaf config world leaf store new left work.shared changes (record {
        schemas = ap (λ (s : LeafSeat). s.state.schemas) held.seat ∙ so.schemas;
        buckets = ap (λ (s : LeafSeat). s.state.buckets) held.seat ∙ so.buckets;
        history = ap (λ (s : LeafSeat). s.state.history) held.seat ∙ so.history;
        promised = ap (λ (s : LeafSeat). s.state.promised) held.seat ∙ so.promised;
        holder = ap (λ (s : LeafSeat). s.holder) held.seat ∙ so.holder;
        sight = ap (λ (s : LeafSeat). s.sight) held.seat ∙ so.sight;
        zone = ap (λ (s : LeafSeat). s.zone) held.seat ∙ so.zone;
        place = ap (λ (s : LeafSeat). s.place) held.seat ∙ so.place;
      }))
      held.writing held.seen

-- ---- room

told_by_leaf : (b : Bool) (history : List Entry) (buckets : List ℕ) → is_down history ≡ b
    → IsToldByLeaf history (cond b (told.Down (length history)) (told.Up buckets))
told_by_leaf true history buckets down = (down, refl)
told_by_leaf false history buckets up = up

going_reserved : (b : Bool) (round : Round) (n : ℕ) (buckets : List ℕ)
    → IsGoingOn (after (Reserving round) (cond b (told.Down n) (told.Up buckets)))
going_reserved true round n buckets = going_reserving (after_look round (fate.Missed n))
going_reserved false round n buckets = going_reserving (after_look round fate.Ready)

none_reserved : (b : Bool) (round : Round) (n : ℕ) (buckets : List ℕ)
    → leaf_inside (after (Reserving round) (cond b (told.Down n) (told.Up buckets))) ≡ None
none_reserved true round n buckets = none_reserving (after_look round (fate.Missed n))
none_reserved false round n buckets = none_reserving (after_look round fate.Ready)

below_reserved : (count : ℕ) (b : Bool) (round : Round) (n : ℕ) (buckets : List ℕ)
    → RaisesBelow count (after (Reserving round) (cond b (told.Down n) (told.Up buckets)))
below_reserved count true round n buckets = below_reserving count (after_look round (fate.Missed n))
below_reserved count false round n buckets = below_reserving count (after_look round fate.Ready)

module _ (config : Config) (world : World) (i : ℕ) (store : Store) (writing : Writing) (sight : Sight)
    (work : IsAtWork config world i store writing sight) (done left : List Mark) (mark : Mark)
    (at : writing.machine.stage ≡ Reserving (record { done = done; left = mark ∷ left })) (seat : LeafSeat)
    (so : IsLeafSo config world mark.leaf seat) where
  abbrev round : Round
  round = record { done = done; left = mark ∷ left }

  module _ (new : Store) (other : LeafSeat) (next : Writing) (now : Sight) (changes : ChangesLeaf mark.leaf other store
      new)
      (reserves : Reserves mark.leaf seat other writing next sight now) where
    abbrev own_view : View
    own_view = view_of (world.actors i)

    abbrev who : Writer
    who = writer_of i writing own_view

    abbrev answer : WriteTold
    answer = up_or_down seat.state.history []

    abbrev stage : Stage
    stage = after (Reserving round) answer

    abbrev then' : World
    then' = at_leaf world i own_view mark.leaf same_view None (writes_on who stage)

    seen_is : now ≡ sight_of (joined_view own_view (world.leaves mark.leaf.0)).seen
    seen_is = reserves.seen ∙ met_is config world i store writing sight work mark.leaf seat so

    told_truly : IsToldByLeaf (of_leaf world.truth mark.leaf) answer
    told_truly = subst (λ (history : List Entry). IsToldByLeaf history answer) so.history
        (told_by_leaf (is_down seat.state.history) seat.state.history [] refl)

    pub reserved : WriteWent config world i new writing next now
    reserved =
        went_so config world i store writing sight work answer then' new next now
        (step_is config world i store writing sight work (Reserving round) answer at)
        (can_come config world i store writing sight work (Reserving round) answer at
        (sym so.holder ∙ reserves.free, told_truly))
        (shared_at_leaf config world i own_view mark.leaf same_view (λ n apart. refl) (λ range. refl) refl None
        (writes_on who stage) store new other work.shared changes
        (leaf_so_then config world i own_view mark.leaf same_view None (writes_on who stage) seat other now so
        reserves.stays
        (reserves.history ∙ so.history) reserves.holder seen_is))
        (writer_then config world i store writing sight work (then'.actors i) stage
        (joined_view own_view (world.leaves mark.leaf.0)) answer writing.inside next now
        (changed_same world.actors i (writes_on who stage (joined_view own_view (world.leaves mark.leaf.0))))
        (ap (λ (s : Stage). after s answer) at) reserves.told_so
        (work.writer.inside ∙ ap leaf_inside at
        ∙ sym (none_reserved (is_down seat.state.history) round (length seat.state.history) []))
        (below_reserved config.buckets (is_down seat.state.history) round (length seat.state.history) []) seen_is)
        (subst IsGoingOn (sym (reserves.told_so.stage ∙ ap (λ (s : Stage). after s answer) at))
        (going_reserved (is_down seat.state.history) round (length seat.state.history) [])) reserves.told_so.stage

  reserve_here : (new : Store) (other : LeafSeat) (next : Writing) (now : Sight) (went : Bool)
      → ChangesLeaf mark.leaf other store new → ReservesIf mark.leaf seat other writing next sight now went
      → WentSo config world i writing new sight now next went
  reserve_here new other next now true changes h = reserved new other next now changes h
  reserve_here new other next now false changes h =
      held_up config world i store writing sight work mark.leaf seat so (Reserving round) at refl refl new other next
      now
      changes h

pub reserve_turn : (config : Config) (world : World) (i : ℕ) (store : Store) (writing : Writing) (sight : Sight)
    → IsAtWork config world i store writing sight → (slot : Slot) (leaf : Leaf)
    → StandsBefore Reserving writing.machine.stage slot leaf → (seat : LeafSeat) → IsLeafSo config world leaf seat
    → (new : Store) (other : LeafSeat) (next : Writing) (now : Sight) (went : Bool) → ChangesLeaf leaf other store new
    → ReservesIf leaf seat other writing next sight now went → WentSo config world i writing new sight now next went
reserve_turn config world i store writing sight work slot leaf at seat so new other next now went changes h =
    subst (λ (l : Leaf). IsLeafSo config world l seat → ChangesLeaf l other store new
    → ReservesIf l seat other writing next sight now went → WentSo config world i writing new sight now next went)
    at.leaf_is
    (λ so' changes' h'. reserve_here config world i store writing sight work at.done at.left at.mark at.is seat so' new
    other
    next now went changes' h') so changes h

-- ---- entering

told_at_entry : (store : Setting) (b : Bool) (history : List Entry) (turn : Turn) (buckets : List ℕ)
    → is_down history ≡ b
    → (is_down history ≡ false → AreUnraised store history (turn_buckets store turn) buckets)
    → IsToldAtEntry store history turn (cond b (told.Down (length history)) (told.Up buckets))
told_at_entry store true history turn buckets down unraised = (down, refl)
told_at_entry store false history turn buckets up unraised = (up, unraised up)

-- the buckets that a leaf's seat tells for a turn are those that are still to be raised, and there are such buckets
module _ (config : Config) (world : World) (leaf : Leaf) (seat : LeafSeat) (so : IsLeafSo config world leaf seat) where
  turns_unraised : (turn : Turn) (buckets : List ℕ) → AreTurnsToRaise seat.state turn buckets
      → AreUnraised (store_of config) seat.state.history (turn_buckets (store_of config) turn) buckets
  turns_unraised (Adds row) buckets raise = record {
    rising = raise.rising;
    same = λ bucket. raise.same bucket ∙ (λ k. is_unraised (so.buckets k) (so.schemas k) seat.state.history row.key bucket);
  }
  turns_unraised (Hides before) buckets none =
      subst (AreUnraised (store_of config) seat.state.history []) (sym none)
      (record { rising = λ k l. absurd (omega (arith, l)); same = λ bucket. refl })

  turns_below : IsServed config → (turn : Turn) (buckets : List ℕ) → AreTurnsToRaise seat.state turn buckets
      → AllBelow config.buckets buckets
  turns_below served (Adds row) buckets raise = all_below config seat row.key buckets served so.buckets raise
  turns_below served (Hides before) buckets none = subst (AllBelow config.buckets) (sym none) tt

going_entered : (b : Bool) (done left : List Mark) (n : ℕ) (buckets : List ℕ)
    → IsGoingOn (after (Entering (record { done = done; left = left })) (cond b (told.Down n) (told.Up buckets)))
going_entered true done left n buckets =
    going_entering (after_look (record { done = done; left = left }) (fate.Missed n))
going_entered false done left n buckets = going_inside done left buckets buckets

inside_entered : (b : Bool) (done left : List Mark) (mark : Mark) (n : ℕ) (buckets : List ℕ) (inside : Option Leaf)
    → inside ≡ None → cond b inside (Some mark.leaf)
    ≡ leaf_inside (after (Entering (record { done = done; left = mark ∷ left }))
    (cond b (told.Down n) (told.Up buckets)))
inside_entered true done left mark n buckets inside none =
    none ∙ sym (none_entering (after_look (record { done = done; left = mark ∷ left }) (fate.Missed n)))
inside_entered false done left mark n buckets inside none = refl

below_entered : (count : ℕ) (b : Bool) (at : Round) (n : ℕ) (buckets : List ℕ)
    → (b ≡ false → AllBelow count buckets)
    → RaisesBelow count (after (Entering at) (cond b (told.Down n) (told.Up buckets)))
below_entered count true at n buckets all = below_entering count (after_look at (fate.Missed n))
below_entered count false at n buckets all = (all refl, all refl)

holder_entered : (b : Bool) (i number n : ℕ) (buckets : List ℕ) → number ≡ i
    → cond b None (Some number) ≡ entrant i (cond b (told.Down n) (told.Up buckets))
holder_entered true i number n buckets same = refl
holder_entered false i number n buckets same = ap (λ (k : ℕ). Some k) same

module _ (config : Config) (world : World) (i : ℕ) (store : Store) (writing : Writing) (sight : Sight)
    (work : IsAtWork config world i store writing sight) (done left : List Mark) (mark : Mark)
    (at : writing.machine.stage ≡ Entering (record { done = done; left = mark ∷ left })) (seat : LeafSeat)
    (so : IsLeafSo config world mark.leaf seat) where
  abbrev entered_round : Round
  entered_round = record { done = done; left = mark ∷ left }

  module _ (new : Store) (other : LeafSeat) (next : Writing) (now : Sight) (changes : ChangesLeaf mark.leaf other store
      new)
      (enters : Enters mark.leaf seat other writing next sight now) where
    abbrev entrant_view : View
    entrant_view = view_of (world.actors i)

    abbrev entrant_writer : Writer
    entrant_writer = writer_of i writing entrant_view

    abbrev entry_answer : WriteTold
    entry_answer = up_or_down seat.state.history enters.buckets

    abbrev entry_stage : Stage
    entry_stage = after (Entering entered_round) entry_answer

    abbrev entered_world : World
    entered_world = at_leaf world i entrant_view mark.leaf same_view (entrant i entry_answer)
        (writes_on entrant_writer entry_stage)

    entry_seen : now ≡ sight_of (joined_view entrant_view (world.leaves mark.leaf.0)).seen
    entry_seen = enters.seen ∙ met_is config world i store writing sight work mark.leaf seat so

    abbrev turn : Turn
    turn = change_turn writing.change

    unraised_there : is_down seat.state.history ≡ false
        → AreUnraised (store_of config) seat.state.history (turn_buckets (store_of config) turn) enters.buckets
    unraised_there up = turns_unraised config world mark.leaf seat so turn enters.buckets (enters.to_raise up)

    entry_told : IsToldAtEntry (store_of config) (of_leaf world.truth mark.leaf) turn entry_answer
    entry_told = subst (λ (history : List Entry). IsToldAtEntry (store_of config) history turn entry_answer)
        so.history
        (told_at_entry (store_of config) (is_down seat.state.history) seat.state.history turn enters.buckets refl
        unraised_there)

    pub entered : WriteWent config world i new writing next now
    entered =
        went_so config world i store writing sight work entry_answer entered_world new next now
        (step_is config world i store writing sight work (Entering entered_round) entry_answer at)
        (can_come config world i store writing sight work (Entering entered_round) entry_answer at
        (sym so.holder ∙ enters.free, entry_told))
        (shared_at_leaf config world i entrant_view mark.leaf same_view (λ n apart. refl) (λ range. refl) refl
        (entrant i entry_answer) (writes_on entrant_writer entry_stage) store new other work.shared changes
        (leaf_so_then config world i entrant_view mark.leaf same_view (entrant i entry_answer)
        (writes_on entrant_writer entry_stage) seat other now so enters.stays (enters.history ∙ so.history)
        (enters.holder ∙ holder_entered (is_down seat.state.history) i writing.number (length seat.state.history)
        enters.buckets work.writer.number) entry_seen))
        (writer_then config world i store writing sight work (entered_world.actors i) entry_stage
        (joined_view entrant_view (world.leaves mark.leaf.0)) entry_answer
        (cond (is_down seat.state.history) writing.inside (Some mark.leaf)) next now
        (changed_same world.actors i (writes_on entrant_writer entry_stage
        (joined_view entrant_view (world.leaves mark.leaf.0))))
        (ap (λ (s : Stage). after s entry_answer) at) enters.told_so
        (inside_entered (is_down seat.state.history) done left mark (length seat.state.history) enters.buckets
        writing.inside
        (work.writer.inside ∙ ap leaf_inside at))
        (below_entered config.buckets (is_down seat.state.history) entered_round (length seat.state.history)
        enters.buckets
        (λ up. turns_below config world mark.leaf seat so work.shared.served turn enters.buckets (enters.to_raise up)))
        entry_seen)
        (subst IsGoingOn (sym (enters.told_so.stage ∙ ap (λ (s : Stage). after s entry_answer) at))
        (going_entered (is_down seat.state.history) done (mark ∷ left) (length seat.state.history) enters.buckets))
        enters.told_so.stage

  enter_here : (new : Store) (other : LeafSeat) (next : Writing) (now : Sight) (went : Bool)
      → ChangesLeaf mark.leaf other store new → EntersIf mark.leaf seat other writing next sight now went
      → WentSo config world i writing new sight now next went
  enter_here new other next now true changes h = entered new other next now changes h
  enter_here new other next now false changes h =
      held_up config world i store writing sight work mark.leaf seat so (Entering entered_round) at refl refl new other
      next
      now changes h

pub enter_turn : (config : Config) (world : World) (i : ℕ) (store : Store) (writing : Writing) (sight : Sight)
    → IsAtWork config world i store writing sight → (slot : Slot) (leaf : Leaf)
    → StandsBefore Entering writing.machine.stage slot leaf → (seat : LeafSeat) → IsLeafSo config world leaf seat
    → (new : Store) (other : LeafSeat) (next : Writing) (now : Sight) (went : Bool) → ChangesLeaf leaf other store new
    → EntersIf leaf seat other writing next sight now went → WentSo config world i writing new sight now next went
enter_turn config world i store writing sight work slot leaf at seat so new other next now went changes h =
    subst (λ (l : Leaf). IsLeafSo config world l seat → ChangesLeaf l other store new
    → EntersIf l seat other writing next sight now went → WentSo config world i writing new sight now next went)
    at.leaf_is
    (λ so' changes' h'. enter_here config world i store writing sight work at.done at.left at.mark at.is seat so' new
    other
    next now went changes' h') so changes h
