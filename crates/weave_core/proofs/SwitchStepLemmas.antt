-- A step of an actor that switches a leaf.
use Rattle.std.proofs.Common.{◌≡◌, ◌≢◌, ◌∙◌, ◌<◌, ◌+◌, ℕ, Bool, true, Option, Some, None, List, [], ◌∷◌, ◌++◌, length}
use Rattle.std.proofs.Common.{refl, sym, ap, subst, inl, inr, length-append}
use Rattle.std.specs.Prelude.{slice_get}
use Rattle.std.proofs.lemmas.List.{length-map}
use Rattle.mon_config.specs.declared.config.Config.{Config}
use Rattle.mon_topo.proofs.HeldLemmas.{leaf_entry_other, leaf_entry_same}
use Rattle.mon_topo.proofs.SightLemmas.{leaf_seen, noted_over}
use Rattle.mon_topo.specs.Sights.{AreAlike, sight_of, with_leaf_sight}
use Rattle.mon_topo.specs.Views.{View, joined_view, of_leaf, of_range}
use Rattle.mon_topo.specs.Zones.{leaves_in}
use Rattle.mon_topo.specs.declared.sights.Sight.{Sight}
use Rattle.mon_topo.specs.declared.zones.ZoneSpec.{ZoneSpec}
use Rattle.mon_value.specs.Histories.{leaf_history, leaf_numbered}
use Rattle.mon_value.specs.declared.histories.Entry.{Entry}
use Rattle.mon_value.specs.declared.positions.Leaf.{Leaf}
use Rattle.mon_value.specs.declared.positions.Range.{Range}
use Rattle.core_store.proofs.MeetingLemmas.{leaf_met}
use Rattle.core_theory.specs.Core.{Happens, Reader}
use Rattle.core_store.specs.Holders.{HoldsLeaf}
use Rattle.core_store.specs.Meetings.{sight_at_leaf}
use Rattle.weave_core.proofs.DeclareLemmas.{stands_so}
use Rattle.weave_core.proofs.ReachedLemmas.{part_of}
use Rattle.core_store.proofs.SeatLemmas.{leaf_so_then, parts_alike, same_at_leaf, shared_at_leaf}
use Rattle.weave_core.proofs.TaskLemmas.{no_fault}
use Rattle.weave_core.specs.ActorAgreements.{IsActorSo, IsDismissed, IsSwitching, IsTaskSo}
use Rattle.weave_core.specs.ActorSteps.{ActorSteps, HasStepped, IsIn, SwitchedSo}
use Rattle.core_store.specs.Agreements.{AreShared, IsLeafSo}
use Rattle.weave_core.specs.EndTexts.{switch_text}
use Rattle.core_store.specs.WriteEvents.{IsHeldFrom}
use Rattle.weave_core.specs.States.{Asking, Dismissed, Eventless, Recovering, Retiring, Role, State, Switching}
use Rattle.weave_core.specs.States.{Undeclared, Writing}
use Rattle.weave_core.specs.States.{holder_in}
use Rattle.core_store.specs.Agreements.{store_of}
use Rattle.weave_core.specs.Steps.{StepsIn, with_event, with_role}
use Rattle.core_store.specs.Switches.{IsSeatedToSwitch, SwitchesAt, SwitchesLeaf, history_switched, switch_told}
use Rattle.core_store.specs.WriteEvents.{ChangesLeaf}
use Rattle.weave_core.specs.declared.actors.Actor.{Actor}
use Rattle.weave_core.specs.declared.actors.Task.TheVariants as task
use Rattle.weave_core.specs.declared.stepped.Stepped.{Stepped}
use Rattle.weave_core.specs.declared.stepped.Stepped.TheVariants as stepped
use Rattle.core_store.specs.declared.leaves.LeafSeat.{LeafSeat}
use Rattle.core_store.specs.declared.store.Store.{Store}
use Rattle.core_store.specs.declared.switches.Switched.{Switched}
use Rattle.core_store.specs.declared.switches.Switching.{Switching as Switch}
use Rattle.write_core.proofs.KeepsLemmas.{changed_same}
use Rattle.write_core.proofs.ViewLemmas.{joined_whole_leaf}
use Rattle.core_store.proofs.WriteTurnLemmas.{some_of}
use Rattle.write_core.specs.Events.{IsToldOfSwitch, MaySwitch, SwitchTold, Switches, SwitchesSpent, WasDownAlready}
use Rattle.write_core.specs.Events.{WasSwitched, WasUpAlready, after_switch, switch_of, switched, switches_with}
use Rattle.write_core.specs.Invariant.{IsKept}
use Rattle.write_core.specs.World.{Actor as Doer, IsPart, World, at_leaf, met_at_leaf, stands_on, view_of}

-- ---- what a switch changes

module _ (config : Config) (world : World) (i : ℕ) (view : View) (leaf : Leaf) (down : Bool)
    (kept : IsKept (store_of config) world) (part : IsPart (store_of config) world view)
    (there : leaf.0 < length world.truth.seen.leaves) where
  abbrev Change : SwitchTold → View → View
  Change = switches_with leaf down i

  -- the leaf's history and how far it is seen, and nothing else
  record ChangesSo (answer : SwitchTold) : Type 0 where
    pub bits : (Change answer world.truth).bits ≡ world.truth.bits
    pub leaves : (n : ℕ) → n ≢ leaf.0
        → of_leaf (Change answer world.truth) (leaf_numbered n) ≡ of_leaf world.truth (leaf_numbered n)
    pub ranges : (range : Range) → of_range (Change answer world.truth) range ≡ of_range world.truth range
    pub history : history_switched down i answer (of_leaf world.truth leaf)
        ≡ of_leaf (Change answer world.truth) leaf
    pub seen : sight_at_leaf leaf (history_switched down i answer (of_leaf world.truth leaf)) (sight_of view.seen)
        (sight_of (world.leaves leaf.0).seen)
        ≡ sight_of (met_at_leaf world view leaf (Change answer)).seen

  abbrev last : Entry
  last = switch_of down i

  abbrev met : View
  met = joined_view view (world.leaves leaf.0)

  met_whole : of_leaf met leaf ≡ of_leaf world.truth leaf
  met_whole = joined_whole_leaf view (world.leaves leaf.0) world.truth part.within (kept.leaves leaf).within leaf
      (kept.whole_leaves leaf)

  length_then : length (of_leaf world.truth leaf ++ last ∷ []) ≡ length (leaf_history met.seen leaf) + 1
  length_then = length-append (of_leaf world.truth leaf) (last ∷ [])
      ∙ ap (λ (history : List Entry). length history + 1) (sym met_whole)

  changes_so : (answer : SwitchTold) → ChangesSo answer
  changes_so (WasSwitched cut) = record {
    bits = refl;
    leaves = λ n apart. leaf_entry_other world.truth.seen leaf last (leaf_numbered n) apart;
    ranges = λ range. refl;
    history = sym (leaf_entry_same world.truth.seen leaf last there);
    seen = noted_over leaf (of_leaf world.truth leaf) (of_leaf world.truth leaf ++ last ∷ []) (sight_of view.seen)
        (sight_of (world.leaves leaf.0).seen) (sight_of met.seen) (leaf_met (store_of config) world view leaf kept part)
        ∙ ap (λ (n : ℕ). with_leaf_sight leaf n (sight_of met.seen)) length_then
        ∙ sym (leaf_seen leaf last met.seen);
  }
  changes_so (WasDownAlready cut) = record {
    bits = refl;
    leaves = λ n apart. refl;
    ranges = λ range. refl;
    history = refl;
    seen = leaf_met (store_of config) world view leaf kept part;
  }
  changes_so (WasUpAlready cut) = record {
    bits = refl;
    leaves = λ n apart. refl;
    ranges = λ range. refl;
    history = refl;
    seen = leaf_met (store_of config) world view leaf kept part;
  }
  changes_so (SwitchesSpent count) = record {
    bits = refl;
    leaves = λ n apart. refl;
    ranges = λ range. refl;
    history = refl;
    seen = leaf_met (store_of config) world view leaf kept part;
  }

-- ---- an actor that switches a leaf

abbrev pub switch_by_number : ℕ → Leaf → Bool → Switch
switch_by_number i leaf down = record { number = i; leaf = leaf; down = down }

module _ (config : Config) (state : State (store_of config)) (i : ℕ) (store : Store) (leaf : Leaf) (down : Bool)
    (sight : Sight) (begun : Bool)
    (here : IsIn config state i store
    (record { task = task.Switches (switch_by_number i leaf down); sight = sight; begun = begun })) where
  abbrev world : World
  world = state.core.world

  abbrev doer : Doer
  doer = world.actors i

  abbrev reader : Reader (store_of config)
  reader = state.core.readers i

  abbrev view : View
  view = view_of doer

  abbrev own : Switch
  own = switch_by_number i leaf down

  abbrev before : Actor
  before = record { task = task.Switches own; sight = sight; begun = begun }

  module _ (role_is : state.roles i ≡ Switching leaf down)
      (so : IsSwitching config i doer reader leaf down own begun sight) where
    part : IsPart (store_of config) world view
    part = part_of (store_of config) world i doer (here.woven.world.actors i)

    in_truth : leaf.0 < length world.truth.seen.leaves
    in_truth = subst (λ (n : ℕ). leaf.0 < n) (sym here.woven.world.truth.held.all_leaves) so.there

    pub switch_there : leaf.0 < length store.leaves.items
    switch_there = subst (λ (n : ℕ). leaf.0 < n) (sym here.shared.leaves.count) so.there

    pub switch_seated : IsSeatedToSwitch leaf store.leaves.items sight
    switch_seated seat was =
        let seat_so : IsLeafSo config world leaf seat = here.shared.leaves.each leaf.0 seat was in
        let parts = parts_alike (store_of config) world view (world.leaves leaf.0) part
        (here.woven.world.leaves leaf) in
        let same : length seat.sight.leaves ≡ length (world.leaves leaf.0).seen.leaves
        = ap (λ (s : Sight). length s.leaves) seat_so.sight ∙ length-map (world.leaves leaf.0).seen.leaves length in
        let all : length (world.leaves leaf.0).seen.leaves ≡ length (leaves_in config.topology)
        = (here.woven.world.leaves leaf).sound.held.all_leaves in (
          subst (λ (s : Sight). AreAlike s seat.sight) (sym so.seen)
              (subst (λ (s : Sight). AreAlike (sight_of view.seen) s) (sym seat_so.sight) parts),
          subst (λ (n : ℕ). leaf.0 < n) (sym (same ∙ all)) so.there,
        )

    module _ (new : Store) (now : Sight) (seat left : LeafSeat)
        (was : slice_get store.leaves.items leaf.0 ≡ Some seat) (changes : ChangesLeaf leaf left store new) where
      seat_so : IsLeafSo config world leaf seat
      seat_so = here.shared.leaves.each leaf.0 seat was

      -- it is switched, or found as it is to be

      module _ (what : Switched) (did : SwitchesLeaf own seat left sight now what) where
        abbrev answer : SwitchTold
        answer = switch_told what

        abbrev change : View → View
        change = switches_with leaf down i answer

        abbrev next : View → Doer
        next = stands_on (record { pass = i; view = view })

        abbrev then' : World
        then' = at_leaf world i view leaf change None next

        abbrev After : State (store_of config)
        After = with_role (store_of config)
            (with_event (store_of config) state (Happens (Switches i leaf down answer))) i Dismissed

        is_then : after_switch world i leaf down answer ≡ then'
        is_then = ap (λ (d : Doer). switched world i d leaf down answer) so.stands

        can : MaySwitch world doer leaf down answer
        can = subst (λ (d : Doer). MaySwitch world d leaf down answer) (sym so.stands) (record {
          there = in_truth;
          free = sym seat_so.holder ∙ did.free;
          tells = subst (λ (history : List Entry). IsToldOfSwitch history down answer) seat_so.history did.told_so;
        })

        changed : ChangesSo config world i view leaf down here.woven.world part in_truth answer
        changed = changes_so config world i view leaf down here.woven.world part in_truth answer

        history_is : left.state.history ≡ history_switched down i answer (of_leaf world.truth leaf)
        history_is = did.history ∙ ap (history_switched down i answer) seat_so.history

        seen_then : now ≡ sight_of (met_at_leaf world view leaf change).seen
        seen_then = did.seen ∙ (λ k. sight_at_leaf leaf (history_is k) (so.seen k) (seat_so.sight k)) ∙ changed.seen

        shared_then : AreShared config then' new
        shared_then =
            shared_at_leaf config world i view leaf change changed.leaves changed.ranges changed.bits None next store
            new left here.shared changes
            (leaf_so_then config world i view leaf change None next seat left now seat_so did.stays
            (history_is ∙ changed.history) (did.holder ∙ did.free) seen_then)

        doer_then : After.core.world.actors i ≡ next (met_at_leaf world view leaf change)
        doer_then = ap (λ (w : World). w.actors i) is_then
            ∙ changed_same world.actors i (next (met_at_leaf world view leaf change))

        dismissed : IsDismissed config i (After.core.world.actors i) reader now
        dismissed = record {
          stands = stands_so i (met_at_leaf world view leaf change) (After.core.world.actors i) doer_then;
          seen = seen_then ∙ ap (λ (d : Doer). sight_of (view_of d).seen) (sym doer_then);
        }

        switched_so : HasStepped config state i new (record { task = task.Ended; sight = now; begun = true })
            (stepped.Ended (switch_text config.topology leaf down answer))
        switched_so = record {
          fault = no_fault config state i store before here refl;
          after = After;
          steps = subst (λ (role : Role). StepsIn (store_of config) role state i
              (stepped.Ended (switch_text config.topology leaf down answer)) After) (sym role_is)
              (inr (record { answer = answer; can = can; went = refl; becomes = refl }));
          shared = subst (λ (w : World). AreShared config w new) (sym is_then) shared_then;
          actor = subst (λ (role : Role). IsActorSo config i (After.core.world.actors i) reader role
              (Some (record { task = task.Ended; sight = now; begun = true })))
              (sym (changed_same state.roles i Dismissed)) dismissed;
        }

      -- or someone is inside of it

      waits_so : IsHeldFrom seat.holder seat left sight now
          → HasStepped config state i new (record { task = task.Switches own; sight = now; begun = begun })
          stepped.Waits
      waits_so held =
          let other = some_of seat.holder held.held in
          let holds : world.leaf_holder leaf.0 ≡ Some other.0 = sym seat_so.holder ∙ other.1 in
          record {
            fault = no_fault config state i store before here refl;
            after = state;
            steps = subst (λ (role : Role). StepsIn (store_of config) role state i stepped.Waits state) (sym role_is)
                (inl (record {
                  other = other.0;
                  holds = ap (holder_in (store_of config) state i) role_is ∙ holds;
                  another = λ same. subst (λ (d : Doer). HoldsLeaf leaf.0 d) so.stands
                      (subst (λ (n : ℕ). HoldsLeaf leaf.0 (world.actors n)) same
                      (here.holders.leaf leaf.0 other.0 holds));
                  waits = refl;
                  same = refl;
                }));
            shared = same_at_leaf config world leaf store new left here.shared changes
                (subst (λ (s : LeafSeat). IsLeafSo config world leaf s) (sym held.seat) seat_so);
            actor = subst (λ (s : Sight). IsActorSo config i doer reader (state.roles i)
                (Some (record { task = task.Switches own; sight = s; begun = begun }))) (sym held.seen) here.actor;
          }

    pub switch_steps : (zones : List ZoneSpec) (new : Store) (now : Sight) (what : Option Switched) (after : Actor)
        (how : Option Stepped) → zones ≡ config.topology → SwitchesAt own store new sight now what
        → SwitchedSo zones own what now begun after how → ActorSteps config state i new before after how
    switch_steps zones new now (Some what) after how same did h =
        subst (λ (o : Option Stepped). ActorSteps config state i new before after o)
        (sym (h.1 ∙ (λ k. Some (stepped.Ended (switch_text (same k) leaf down (switch_told what))))))
        (subst (λ (a : Actor). HasStepped config state i new a
        (stepped.Ended (switch_text config.topology leaf down (switch_told what)))) (sym h.0)
        (switched_so new now did.before did.seat did.was did.changes what did.switches))
    switch_steps zones new now None after how same did h =
        subst (λ (o : Option Stepped). ActorSteps config state i new before after o) (sym h.1)
        (subst (λ (a : Actor). HasStepped config state i new a stepped.Waits) (sym h.0)
        (waits_so new now did.before did.seat did.was did.changes did.switches))

-- ---- by the role of an actor

module _ (config : Config) (i : ℕ) (doer : Doer) (reader : Reader (store_of config)) (switching : Switch) (begun : Bool)
    (sight : Sight) where
  -- its role is to switch its leaf
  pub record HasSwitchRole (role : Role) : Type 0 where
    pub leaf : Leaf
    pub down : Bool
    pub is : role ≡ Switching leaf down
    pub so : IsSwitching config i doer reader leaf down switching begun sight

  pub switch_role : (role : Role) → IsTaskSo config i doer reader role (task.Switches switching) begun sight
      → HasSwitchRole role
  switch_role Undeclared h = absurd h
  switch_role (Eventless text) h = absurd h
  switch_role (Switching leaf down) h = record { leaf = leaf; down = down; is = refl; so = h }
  switch_role (Retiring range leaf) h = absurd h
  switch_role Dismissed h = absurd h
  switch_role Recovering h = absurd h
  switch_role Writing h = absurd h
  switch_role Asking h = absurd h

module _ (config : Config) (state : State (store_of config)) (i : ℕ) (store : Store) (switching : Switch)
    (sight : Sight) (begun : Bool)
    (here : IsIn config state i store (record { task = task.Switches switching; sight = sight; begun = begun })) where
  abbrev Doer' : Doer
  Doer' = state.core.world.actors i

  abbrev Reader' : Reader (store_of config)
  Reader' = state.core.readers i

  abbrev InAs : Switch → Type 0
  InAs one = IsIn config state i store (record { task = task.Switches one; sight = sight; begun = begun })

  found : HasSwitchRole config i Doer' Reader' switching begun sight (state.roles i)
  found = switch_role config i Doer' Reader' switching begun sight (state.roles i) here.actor

  same : switching ≡ switch_by_number i found.leaf found.down
  same = found.so.switch_is

  abbrev So : Switch → Type 0
  So one = IsSwitching config i Doer' Reader' found.leaf found.down one begun sight

  here_so : InAs (switch_by_number i found.leaf found.down)
  here_so = subst InAs same here

  own_so : So (switch_by_number i found.leaf found.down)
  own_so = subst So same found.so

  pub asks_there : switching.leaf.0 < length store.leaves.items
  asks_there = subst (λ (one : Switch). one.leaf.0 < length store.leaves.items) (sym same)
      (switch_there config state i store found.leaf found.down sight begun here_so found.is own_so)

  pub asks_seated : IsSeatedToSwitch switching.leaf store.leaves.items sight
  asks_seated = subst (λ (one : Switch). IsSeatedToSwitch one.leaf store.leaves.items sight) (sym same)
      (switch_seated config state i store found.leaf found.down sight begun here_so found.is own_so)

  pub switching_steps : (new : Store) (now : Sight) (what : Option Switched) (after : Actor) (how : Option Stepped)
      → SwitchesAt switching store new sight now what
      → SwitchedSo new.config.topology switching what now begun after how
      → ActorSteps config state i new (record { task = task.Switches switching; sight = sight; begun = begun }) after
      how
  switching_steps new now what after how =
      subst (λ (one : Switch). SwitchesAt one store new sight now what
      → SwitchedSo new.config.topology one what now begun after how
      → ActorSteps config state i new (record { task = task.Switches one; sight = sight; begun = begun }) after how)
      (sym same)
      (λ did h. switch_steps config state i store found.leaf found.down sight begun here_so found.is own_so
      new.config.topology new now what after how
      (ap (λ (c : Config). c.topology) (did.changes.config ∙ here.shared.config_is)) did h)
