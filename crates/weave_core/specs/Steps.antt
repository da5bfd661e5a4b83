-- One step of one actor: an event of it and of no other, or nothing where another one is in its way.
use Rattle.std.specs.Prelude.{ℕ, ◌≡◌, ◌≢◌, ◌⊎◌, Bool, List, [], Some}
use Rattle.mon_topo.specs.Settings.{Setting}
use Rattle.mon_topo.specs.declared.zones.ZoneSpec.{ZoneSpec}
use Rattle.mon_value.specs.declared.positions.Leaf.{Leaf}
use Rattle.mon_value.specs.declared.positions.Range.{Range}
use Rattle.query_traces.specs.declared.asks.Told.{Told}
use Rattle.query_core.specs.declared.stages.Stage.{Stage}
use Rattle.query_core.specs.declared.stages.Stage.TheVariants as query
use Rattle.core_theory.specs.Core.{CanCome, CoreEvent, Happens, Tells, came, query_now}
use Rattle.weave_core.specs.EndTexts.{deed_of, query_text, recover_text, retire_text, switch_text, write_end_text}
use Rattle.weave_core.specs.States.{Asking, Dismissed, Eventless, Recovering, Retiring, Role, State, Switching}
use Rattle.weave_core.specs.States.{Undeclared, Writing, holder_at}
use Rattle.weave_core.specs.declared.stepped.Stepped.{Stepped}
use Rattle.weave_core.specs.declared.stepped.Stepped.TheVariants as stepped
use Rattle.write_core.specs.Events.{Copies, Goes, Retires, SwitchTold, Switches}
use Rattle.write_core.specs.Program.{Acking, Ended, Entering, Inside, Locking, Reserving, end_of_verdict}
use Rattle.write_core.specs.Program as write
use Rattle.write_core.specs.Recovering.{Beginning, Carrying, CopyStage, Copying, Nearing, Over, Telling, Within}
use Rattle.write_core.specs.declared.copies.CopyTold.{CopyTold}
use Rattle.write_core.specs.World.{Actor, Recovers, Recovery, Stands, Writer, Writes, with_value_at}
use Rattle.write_core.specs.declared.asks.WriteTold.{WriteTold}
use Rattle.write_core.specs.declared.retirements.Retirement.{Retirement}

-- ---- how a step went that did an event

abbrev pub writer_stepped : List ZoneSpec → Writer → write.Stage → Stepped
writer_stepped zones writer Locking = stepped.Went
writer_stepped zones writer (Reserving round) = stepped.Went
writer_stepped zones writer (Entering round) = stepped.Went
writer_stepped zones writer (Inside round at_root in_zone) = stepped.Went
writer_stepped zones writer (Acking verdict) = stepped.Went
writer_stepped zones writer (Ended verdict) =
    stepped.Ended
    (write_end_text zones (deed_of writer.turn) writer.range (end_of_verdict writer.range verdict))

-- a write or a trim has more events, or has ended with a text (who does not write has nothing left to do)
abbrev pub write_stepped : List ZoneSpec → Actor → Stepped
write_stepped zones (Writes writer) = writer_stepped zones writer writer.stage
write_stepped zones (Recovers recovery) = stepped.Ended []
write_stepped zones (Stands stander) = stepped.Ended []

abbrev pub recovery_stepped : List ZoneSpec → Recovery → CopyStage → Stepped
recovery_stepped zones recovery Beginning = stepped.Went
recovery_stepped zones recovery (Copying founds sources) = stepped.Went
recovery_stepped zones recovery (Carrying rows) = stepped.Went
recovery_stepped zones recovery (Nearing rows) = stepped.Went
recovery_stepped zones recovery (Within rows at_root in_zone) = stepped.Went
recovery_stepped zones recovery (Telling outcome) = stepped.Went
recovery_stepped zones recovery (Over outcome) =
    stepped.Ended (recover_text zones recovery.range recovery.leaf outcome)

-- so has a recovery
abbrev pub recover_stepped : List ZoneSpec → Actor → Stepped
recover_stepped zones (Writes writer) = stepped.Ended []
recover_stepped zones (Recovers recovery) = recovery_stepped zones recovery recovery.stage
recover_stepped zones (Stands stander) = stepped.Ended []

-- and so has a query
abbrev pub query_stepped : List ZoneSpec → Stage → Stepped
query_stepped zones (query.Rooting loading) = stepped.Went
query_stepped zones (query.Entering course round loading) = stepped.Went
query_stepped zones (query.Resolving course round range) = stepped.Went
query_stepped zones (query.Reloading course round loading) = stepped.Went
query_stepped zones (query.Visiting course round visits leaf) = stepped.Went
query_stepped zones (query.Ended end) = stepped.Ended (query_text zones end)

-- ---- steps

module _ (store : Setting) where
  abbrev pub with_role : State store → ℕ → Role → State store
  with_role state k role = record { core = state.core; roles = with_value_at state.roles k role }

  abbrev pub with_event : State store → CoreEvent store → State store
  with_event state event = record { core = came store state.core event; roles = state.roles }

  -- someone else holds what its next event needs: nothing happens
  pub record Waits (state : State store) (k : ℕ) (how : Stepped) (after : State store) : Type 0 where
    pub other : ℕ
    pub holds : holder_at store state k ≡ Some other
    pub another : other ≢ k
    pub waits : how ≡ stepped.Waits
    pub same : after ≡ state

  -- the next event of a write or a trim comes
  pub record WriteGoes (state : State store) (k : ℕ) (how : Stepped) (after : State store) : Type 0 where
    pub answer : WriteTold
    pub can : CanCome store state.core (Happens (Goes k answer))
    pub went : how ≡ write_stepped store.zones (after.core.world.actors k)
    pub becomes : after ≡ with_event state (Happens (Goes k answer))

  -- the next event of a recovery comes
  pub record RecoveryGoes (state : State store) (k : ℕ) (how : Stepped) (after : State store) : Type 0 where
    pub answer : CopyTold
    pub can : CanCome store state.core (Happens (Copies k answer))
    pub went : how ≡ recover_stepped store.zones (after.core.world.actors k)
    pub becomes : after ≡ with_event state (Happens (Copies k answer))

  -- the next event of a query comes
  pub record QueryGoes (state : State store) (k : ℕ) (how : Stepped) (after : State store) : Type 0 where
    pub answer : Told
    pub stage : Stage
    pub can : CanCome store state.core (Tells k answer stage)
    pub went : how ≡ query_stepped store.zones (query_now store (after.core.readers k)).stage
    pub becomes : after ≡ with_event state (Tells k answer stage)

  -- it switches a leaf that nobody holds, and ends with what it is told
  pub record SwitchGoes (leaf : Leaf) (down : Bool) (state : State store) (k : ℕ) (how : Stepped) (after : State store)
      : Type 0 where
    pub answer : SwitchTold
    pub can : CanCome store state.core (Happens (Switches k leaf down answer))
    pub went : how ≡ stepped.Ended (switch_text store.zones leaf down answer)
    pub becomes : after ≡ with_role (with_event state (Happens (Switches k leaf down answer))) k Dismissed

  -- it retires a replica of a range that nobody holds, and ends with what it is told
  pub record RetireGoes (range : Range) (leaf : Leaf) (state : State store) (k : ℕ) (how : Stepped)
      (after : State store) : Type 0 where
    pub answer : Retirement
    pub can : CanCome store state.core (Happens (Retires k range leaf answer))
    pub went : how ≡ stepped.Ended (retire_text store.zones range leaf answer)
    pub becomes : after ≡ with_role (with_event state (Happens (Retires k range leaf answer))) k Dismissed

  abbrev pub StepsIn : Role → State store → ℕ → Stepped → State store → Type 0
  StepsIn Undeclared state k how after = ⊥
  StepsIn (Eventless text) state k how after = (how ≡ stepped.Ended text) × (after ≡ with_role state k Dismissed)
  StepsIn (Switching leaf down) state k how after =
      Waits state k how after ⊎ SwitchGoes leaf down state k how after
  StepsIn (Retiring range leaf) state k how after =
      Waits state k how after ⊎ RetireGoes range leaf state k how after
  StepsIn Dismissed state k how after = ⊥
  StepsIn Recovering state k how after = Waits state k how after ⊎ RecoveryGoes state k how after
  StepsIn Writing state k how after = Waits state k how after ⊎ WriteGoes state k how after
  StepsIn Asking state k how after = Waits state k how after ⊎ QueryGoes state k how after

  -- a step of an actor goes so, and leaves that
  abbrev pub Steps : State store → ℕ → Stepped → State store → Type 0
  Steps state k how after = StepsIn (state.roles k) state k how after
