-- What a step leaves: the core stays woven, its holders stay true, and all other actors stay as they were.
use Rattle.std.proofs.Common.{◌≡◌, ◌≢◌, ℕ, ℤ, Bool, List, [], ◌∷◌, refl, sym, subst, inl, inr}
use Rattle.mon_topo.specs.Settings.{Setting}
use Rattle.mon_value.specs.declared.positions.Leaf.{Leaf}
use Rattle.mon_value.specs.declared.positions.Range.{Range}
use Rattle.query_traces.specs.Rounds.{QuerySetting}
use Rattle.query_traces.specs.declared.asks.Ask.{Ask}
use Rattle.query_traces.specs.declared.asks.Ask.TheVariants as ask
use Rattle.query_traces.specs.declared.asks.Told.{Told}
use Rattle.query_core.specs.declared.stages.Stage.{Stage as QueryStage}
use Rattle.core_theory.proofs.CoreLemmas.{stays_woven}
use Rattle.core_store.proofs.CopyHolderLemmas.{copy_held}
use Rattle.core_store.proofs.HolderLemmas.{retire_held, step_held, switch_held}
use Rattle.weave_core.proofs.QueryStepLemmas.{actors_stay}
use Rattle.core_theory.specs.Core.{CanCome, Happens, Tells, asked_now, world_then}
use Rattle.core_store.specs.Holders.{AreHolders}
use Rattle.core_theory.specs.Licensed.{IsWoven}
use Rattle.weave_core.specs.States.{Asking, Dismissed, Eventless, Recovering, Retiring, Role, State, Switching}
use Rattle.weave_core.specs.States.{Undeclared, Writing}
use Rattle.weave_core.specs.Steps.{Steps, StepsIn, with_event, with_role}
use Rattle.weave_core.specs.declared.stepped.Stepped.{Stepped}
use Rattle.write_core.proofs.KeepsLemmas.{changed_other}
use Rattle.write_core.specs.CopySteps.{CanRecover, after_copy_event, copy_at, copy_step}
use Rattle.write_core.specs.Events.{Copies, Goes, Retires, SwitchTold, Switches, retired, switched}
use Rattle.write_core.specs.Program.{Acking, Ended, Entering, Inside, Locking, Reserving, Stage, after}
use Rattle.write_core.specs.Steps.{CanGo, after_entering, gone_on_inside, after_reserving, step, step_at, after_answer}
use Rattle.mon_topo.specs.Views.{View}
use Rattle.write_core.specs.Recovering.{Beginning, Carrying, CopyStage, Copying, Nearing, Over, Telling}
use Rattle.write_core.specs.declared.copies.CopyTold.{CopyTold}
use Rattle.write_core.specs.Recovering as copy
use Rattle.write_core.specs.World.{Actor, Recovers, Recovery, Stands, World, Writer, Writes}
use Rattle.write_core.specs.declared.asks.WriteTold.{WriteTold}
use Rattle.write_core.specs.declared.marks.Mark.{Mark}
use Rattle.write_core.specs.declared.retirements.Retirement.{Retirement}

-- ---- other actors of the world

module _ (setting : Setting) (world : World) (i j : ℕ) (apart : j ≢ i) where
  at_reserve : (who : Writer) (left : List Mark) (next : Stage) → (after_reserving world i who left next).actors j
      ≡ world.actors j
  at_reserve who [] next = refl
  at_reserve who (mark ∷ left) next = changed_other world.actors i j _ apart

  at_enter : (who : Writer) (left : List Mark) (answer : WriteTold) (next : Stage)
      → (after_entering world i who left answer next).actors j ≡ world.actors j
  at_enter who [] answer next = refl
  at_enter who (mark ∷ left) answer next = changed_other world.actors i j _ apart

  at_inside : (who : Writer) (left : List Mark) (at_root in_zone : List ℕ) (next : Stage)
      → (gone_on_inside setting world i who left at_root in_zone next).actors j ≡ world.actors j
  at_inside who [] at_root in_zone next = refl
  at_inside who (mark ∷ left) (bucket ∷ at_root) in_zone next = changed_other world.actors i j _ apart
  at_inside who (mark ∷ left) [] (bucket ∷ in_zone) next = changed_other world.actors i j _ apart
  at_inside who (mark ∷ left) [] [] next = changed_other world.actors i j _ apart

  at_stage : (who : Writer) (stage : Stage) (answer : WriteTold)
      → (step_at setting world i who stage answer).actors j ≡ world.actors j
  at_stage who Locking answer = changed_other world.actors i j _ apart
  at_stage who (Reserving round) answer = at_reserve who round.left (after (Reserving round) answer)
  at_stage who (Entering round) answer = at_enter who round.left answer (after (Entering round) answer)
  at_stage who (Inside round at_root in_zone) answer =
      at_inside who round.left at_root in_zone (after (Inside round at_root in_zone) answer)
  at_stage who (Acking verdict) answer = changed_other world.actors i j _ apart
  at_stage who (Ended verdict) answer = refl

  by_actor : (actor : Actor) (answer : WriteTold) → (after_answer setting world i actor answer).actors j
      ≡ world.actors j
  by_actor (Writes who) answer = at_stage who who.stage answer
  by_actor (Recovers recovery) answer = refl
  by_actor (Stands stander) answer = refl

  pub step_others : (answer : WriteTold) → (step setting world i answer).actors j ≡ world.actors j
  step_others answer = by_actor (world.actors i) answer

-- so does a recovery's event
module _ (setting : Setting) (world : World) (i j : ℕ) (apart : j ≢ i) where
  at_copy : (who : Recovery) (stage : CopyStage) (answer : CopyTold)
      → (copy_at setting world i who stage answer).actors j ≡ world.actors j
  at_copy who Beginning answer = changed_other world.actors i j _ apart
  at_copy who (Copying founds []) answer = refl
  at_copy who (Copying founds (source ∷ left)) answer = changed_other world.actors i j _ apart
  at_copy who (Carrying rows) answer = changed_other world.actors i j _ apart
  at_copy who (Nearing rows) answer = changed_other world.actors i j _ apart
  at_copy who (copy.Within rows (bucket ∷ at_root) in_zone) answer = changed_other world.actors i j _ apart
  at_copy who (copy.Within rows [] (bucket ∷ in_zone)) answer = changed_other world.actors i j _ apart
  at_copy who (copy.Within rows [] []) answer = changed_other world.actors i j _ apart
  at_copy who (Telling outcome) answer = changed_other world.actors i j _ apart
  at_copy who (Over outcome) answer = refl

  copier : (actor : Actor) (answer : CopyTold) → (after_copy_event setting world i actor answer).actors j
      ≡ world.actors j
  copier (Writes writer) answer = refl
  copier (Recovers recovery) answer = at_copy recovery recovery.stage answer
  copier (Stands stander) answer = refl

  pub copy_others : (answer : CopyTold) → (copy_step setting world i answer).actors j ≡ world.actors j
  copy_others answer = copier (world.actors i) answer

-- a switch leaves the others as they were
switch_others : (world : World) (i j : ℕ) → j ≢ i → (actor : Actor) (leaf : Leaf) (down : Bool) (answer : SwitchTold)
    → (switched world i actor leaf down answer).actors j ≡ world.actors j
switch_others world i j apart (Writes writer) leaf down answer = refl
switch_others world i j apart (Recovers recovery) leaf down answer = refl
switch_others world i j apart (Stands stander) leaf down answer = changed_other world.actors i j _ apart

-- and so does a retirement
retire_others : (world : World) (i j : ℕ) → j ≢ i → (actor : Actor) (range : Range) (leaf : Leaf)
    (answer : Retirement) → (retired world i actor range leaf answer).actors j ≡ world.actors j
retire_others world i j apart (Writes writer) range leaf answer = refl
retire_others world i j apart (Recovers recovery) range leaf answer = refl
retire_others world i j apart (Stands stander) range leaf answer = changed_other world.actors i j _ apart

-- ---- holders beside a query

queried_held : (store : Setting) (setting : QuerySetting) (moment : ℤ) (world : World) (view : View) (asks : Ask)
    → AreHolders world
    → AreHolders (world_then store setting moment world view asks)
queried_held store setting moment world view (ask.LoadRoot bucket) h = h
queried_held store setting moment world view (ask.LoadZone zone bucket) h = h
queried_held store setting moment world view (ask.Resolve range) h = record { range = h.range; leaf = h.leaf }
queried_held store setting moment world view (ask.Visit leaf) h = record { range = h.range; leaf = h.leaf }
queried_held store setting moment world view ask.Finished h = h

-- ---- steps

module _ (store : Setting) (state : State store) (i : ℕ) where
  -- the other actors are as before
  pub record OthersStay (left : State store) : Type 0 where
    pub actor : (j : ℕ) → j ≢ i → left.core.world.actors j ≡ state.core.world.actors j
    pub reader : (j : ℕ) → j ≢ i → left.core.readers j ≡ state.core.readers j
    pub role : (j : ℕ) → j ≢ i → left.roles j ≡ state.roles j

  pub record Leaves (left : State store) : Type 0 where
    pub woven : IsWoven store left.core
    pub holders : AreHolders left.core.world
    pub others : OthersStay left

  module _ (woven : IsWoven store state.core) (h : AreHolders state.core.world) where
    same_left : Leaves state
    same_left = record {
      woven = woven;
      holders = h;
      others = record { actor = λ j apart. refl; reader = λ j apart. refl; role = λ j apart. refl };
    }

    dismissed_left : Leaves (with_role store state i Dismissed)
    dismissed_left = record {
      woven = woven;
      holders = h;
      others = record {
        actor = λ j apart. refl;
        reader = λ j apart. refl;
        role = λ j apart. changed_other state.roles i j Dismissed apart;
      };
    }

    written_left : (answer : WriteTold) → CanCome store state.core (Happens (Goes i answer))
        → Leaves (with_event store state (Happens (Goes i answer)))
    written_left answer can = record {
      woven = stays_woven store state.core (Happens (Goes i answer) ∷ []) (can, tt) woven;
      holders = write_held (state.core.world.actors i) refl;
      others = record {
        actor = λ j apart. step_others store state.core.world i j apart answer;
        reader = λ j apart. refl;
        role = λ j apart. refl;
      };
    }
      where
        write_held : (actor : Actor) → state.core.world.actors i ≡ actor
            → AreHolders (step store state.core.world i answer)
        write_held (Writes who) is = step_held store state.core.world i who answer is h can
        write_held (Recovers recovery) is =
            absurd (subst (λ (one : Actor). CanGo store state.core.world one answer) is can)
        write_held (Stands stander) is =
            absurd (subst (λ (one : Actor). CanGo store state.core.world one answer) is can)

    recovered_left : (answer : CopyTold) → CanCome store state.core (Happens (Copies i answer))
        → Leaves (with_event store state (Happens (Copies i answer)))
    recovered_left answer can = record {
      woven = stays_woven store state.core (Happens (Copies i answer) ∷ []) (can, tt) woven;
      holders = recover_held (state.core.world.actors i) refl;
      others = record {
        actor = λ j apart. copy_others store state.core.world i j apart answer;
        reader = λ j apart. refl;
        role = λ j apart. refl;
      };
    }
      where
        recover_held : (actor : Actor) → state.core.world.actors i ≡ actor
            → AreHolders (copy_step store state.core.world i answer)
        recover_held (Recovers who) is = copy_held store state.core.world i who answer is h can
        recover_held (Writes writer) is =
            absurd (subst (λ (one : Actor). CanRecover store state.core.world one answer) is can)
        recover_held (Stands stander) is =
            absurd (subst (λ (one : Actor). CanRecover store state.core.world one answer) is can)

    switched_left : (leaf : Leaf) (down : Bool) (answer : SwitchTold)
        → CanCome store state.core (Happens (Switches i leaf down answer))
        → Leaves (with_role store (with_event store state (Happens (Switches i leaf down answer))) i Dismissed)
    switched_left leaf down answer can = record {
      woven = stays_woven store state.core (Happens (Switches i leaf down answer) ∷ []) (can, tt) woven;
      holders = switch_held state.core.world i leaf down answer h;
      others = record {
        actor = λ j apart. switch_others state.core.world i j apart (state.core.world.actors i) leaf down answer;
        reader = λ j apart. refl;
        role = λ j apart. changed_other state.roles i j Dismissed apart;
      };
    }

    retired_left : (range : Range) (leaf : Leaf) (answer : Retirement)
        → CanCome store state.core (Happens (Retires i range leaf answer))
        → Leaves (with_role store (with_event store state (Happens (Retires i range leaf answer))) i Dismissed)
    retired_left range leaf answer can = record {
      woven = stays_woven store state.core (Happens (Retires i range leaf answer) ∷ []) (can, tt) woven;
      holders = retire_held state.core.world i range leaf answer h;
      others = record {
        actor = λ j apart. retire_others state.core.world i j apart (state.core.world.actors i) range leaf answer;
        reader = λ j apart. refl;
        role = λ j apart. changed_other state.roles i j Dismissed apart;
      };
    }

    queried_left : (answer : Told) (stage : QueryStage) → CanCome store state.core (Tells i answer stage)
        → Leaves (with_event store state (Tells i answer stage))
    queried_left answer stage can =
        let reader = state.core.readers i in
        record {
          woven = stays_woven store state.core (Tells i answer stage ∷ []) (can, tt) woven;
          holders = queried_held store reader.setting reader.moment state.core.world reader.view
              (asked_now store reader) h;
          others = record {
            actor = λ j apart. actors_stay store reader.setting reader.moment state.core.world reader.view
                (asked_now store reader) j;
            reader = λ j apart. changed_other state.core.readers i j _ apart;
            role = λ j apart. refl;
          };
        }

    left_by : (role : Role) (how : Stepped) (left : State store) → StepsIn store role state i how left → Leaves left
    left_by Undeclared how left s = absurd s
    left_by (Eventless text) how left s = subst Leaves (sym s.1) dismissed_left
    left_by (Switching leaf down) how left s = elim s [
      | inl waits ↦ subst Leaves (sym waits.same) same_left
      | inr goes ↦ subst Leaves (sym goes.becomes) (switched_left leaf down goes.answer goes.can)
    ]
    left_by (Retiring range leaf) how left s = elim s [
      | inl waits ↦ subst Leaves (sym waits.same) same_left
      | inr goes ↦ subst Leaves (sym goes.becomes) (retired_left range leaf goes.answer goes.can)
    ]
    left_by Dismissed how left s = absurd s
    left_by Recovering how left s = elim s [
      | inl waits ↦ subst Leaves (sym waits.same) same_left
      | inr goes ↦ subst Leaves (sym goes.becomes) (recovered_left goes.answer goes.can)
    ]
    left_by Writing how left s = elim s [
      | inl waits ↦ subst Leaves (sym waits.same) same_left
      | inr goes ↦ subst Leaves (sym goes.becomes) (written_left goes.answer goes.can)
    ]
    left_by Asking how left s = elim s [
      | inl waits ↦ subst Leaves (sym waits.same) same_left
      | inr goes ↦ subst Leaves (sym goes.becomes) (queried_left goes.answer goes.stage goes.can)
    ]

    pub steps_leave : (how : Stepped) (left : State store) → Steps store state i how left → Leaves left
    steps_leave how left s = left_by (state.roles i) how left s
