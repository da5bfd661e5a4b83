-- The core and its actors: what each is to do, and how far it is.
use Rattle.std.specs.Prelude.{ℕ, Bool, true, false, not, is_some, List, Option, Some, None, if◌then◌else◌}
use Rattle.mon_topo.specs.Settings.{Setting}
use Rattle.mon_value.specs.declared.positions.Leaf.{Leaf}
use Rattle.mon_value.specs.declared.positions.Range.{Range}
use Rattle.query_traces.specs.declared.asks.Ask.{Ask}
use Rattle.query_traces.specs.declared.asks.Ask.TheVariants as ask
use Rattle.core_theory.specs.Core.{Core, Reader, asked_now}
use Rattle.core_store.specs.NextAsks.{copy_asks, holder_for_actor, recovers_begun, write_asks, writes_begun}
use Rattle.weave_core.specs.AskedEvents.{event_of_copy, event_of_query, event_of_write}
use Rattle.schedule_lines.specs.declared.calls.WeaveFault.{WeaveFault}
use Rattle.schedule_lines.specs.declared.calls.WeaveFault.TheVariants as fault
use Rattle.schedule_lines.specs.declared.events.Event.{Event}
use Rattle.schedule_lines.specs.declared.events.Event.TheVariants as event
use Rattle.mon_topo.specs.Views.{View}
use Rattle.write_core.specs.World.{Actor, World, view_of}
use Rattle.mon_value.specs.Parts.{is_any}

-- ---- actors

-- what an actor was declared to do: nothing so far; a call that has no event, and ends at its first step with this
-- text; to switch a leaf down, or up, which is one event; to retire a range's replica on a leaf, which is one event;
-- one of these three, when it is done; a recovery, a write or a trim, or a query, which the core has under its number
pub data Role : Type 0 where
  Undeclared : Role
  Eventless : List ℕ → Role
  Switching : Leaf → Bool → Role
  Retiring : Range → Leaf → Role
  Dismissed : Role
  Recovering : Role
  Writing : Role
  Asking : Role

-- the core, and the role of each actor
pub record State (store : Setting) : Type 0 where
  pub core : Core store
  pub roles : ℕ → Role

-- who holds what an event of a query needs
abbrev pub holder_for_query : World → Ask → Option ℕ
holder_for_query world (ask.LoadRoot bucket) = None
holder_for_query world (ask.LoadZone zone bucket) = None
holder_for_query world (ask.Resolve range) = world.range_holder range.0
holder_for_query world (ask.Visit leaf) = world.leaf_holder leaf.0
holder_for_query world ask.Finished = None

module _ (store : Setting) (state : State store) (k : ℕ) where
  abbrev pub actor_at : Actor
  actor_at = state.core.world.actors k

  abbrev pub reader_at : Reader store
  reader_at = state.core.readers k

  abbrev pub next_in : Role → Option Event
  next_in Undeclared = None
  next_in (Eventless text) = None
  next_in (Switching leaf down) = Some event.Switch
  next_in (Retiring range leaf) = Some event.Retire
  next_in Dismissed = None
  next_in Recovering = event_of_copy (copy_asks actor_at)
  next_in Writing = event_of_write (write_asks actor_at)
  next_in Asking = event_of_query (asked_now store reader_at)

  -- the next event of an actor; there is none where it is not declared, has ended, or has none at all
  abbrev pub next_event : Option Event
  next_event = next_in (state.roles k)

  abbrev pub declared_in : Role → Bool
  declared_in Undeclared = false
  declared_in (Eventless text) = true
  declared_in (Switching leaf down) = true
  declared_in (Retiring range leaf) = true
  declared_in Dismissed = true
  declared_in Recovering = true
  declared_in Writing = true
  declared_in Asking = true

  abbrev pub is_declared : Bool
  is_declared = declared_in (state.roles k)

  abbrev pub ended_in : Role → Bool
  ended_in Undeclared = false
  ended_in (Eventless text) = false
  ended_in (Switching leaf down) = false
  ended_in (Retiring range leaf) = false
  ended_in Dismissed = true
  ended_in Recovering = not (is_some (next_in Recovering))
  ended_in Writing = not (is_some (next_in Writing))
  ended_in Asking = not (is_some (next_in Asking))

  -- a recovery, a write, a trim or a query has ended once no event of it is left
  abbrev pub has_ended : Bool
  has_ended = ended_in (state.roles k)

  abbrev pub begun_in : Role → Bool
  begun_in Undeclared = false
  begun_in (Eventless text) = false
  begun_in (Switching leaf down) = false
  begun_in (Retiring range leaf) = false
  begun_in Dismissed = true
  begun_in Recovering = recovers_begun actor_at
  begun_in Writing = writes_begun actor_at
  begun_in Asking = is_any reader_at.session

  -- some event of it went, or it has ended
  abbrev pub has_begun : Bool
  has_begun = begun_in (state.roles k)

  abbrev pub role_fault : Role → Option WeaveFault
  role_fault Undeclared = Some fault.NoActor
  role_fault (Eventless text) = None
  role_fault (Switching leaf down) = None
  role_fault (Retiring range leaf) = None
  role_fault Dismissed = Some fault.Finished
  role_fault Recovering = if ended_in Recovering then Some fault.Finished else None
  role_fault Writing = if ended_in Writing then Some fault.Finished else None
  role_fault Asking = if ended_in Asking then Some fault.Finished else None

  -- why an actor has no next step: it is not declared, or it has ended
  abbrev pub step_fault : Option WeaveFault
  step_fault = role_fault (state.roles k)

  abbrev pub view_in : Role → View
  view_in Undeclared = view_of actor_at
  view_in (Eventless text) = view_of actor_at
  view_in (Switching leaf down) = view_of actor_at
  view_in (Retiring range leaf) = view_of actor_at
  view_in Dismissed = view_of actor_at
  view_in Recovering = view_of actor_at
  view_in Writing = view_of actor_at
  view_in Asking = reader_at.view

  -- what it has seen and knows
  abbrev pub view_at : View
  view_at = view_in (state.roles k)

  abbrev pub holder_in : Role → Option ℕ
  holder_in Undeclared = None
  holder_in (Eventless text) = None
  holder_in (Switching leaf down) = state.core.world.leaf_holder leaf.0
  holder_in (Retiring range leaf) = state.core.world.range_holder range.0
  holder_in Dismissed = None
  holder_in Recovering = holder_for_actor state.core.world actor_at
  holder_in Writing = holder_for_actor state.core.world actor_at
  holder_in Asking = holder_for_query state.core.world (asked_now store reader_at)

  -- who holds what its next event needs
  abbrev pub holder_at : Option ℕ
  holder_at = holder_in (state.roles k)
