-- Lines of a schedule keep the core woven, and each of its queries is asked of the store.
use Rattle.std.proofs.Common.{◌≡◌, ◌≤ℤ◌, ◌⊎◌, inl, inr, ℕ, ℤ, zero, suc, pos, Bool, true, false, List, [], ◌∷◌, Option}
use Rattle.std.proofs.Common.{Some, None, Result, Ok, Err, refl, sym, subst, ◌∙◌}
use Rattle.mon_config.specs.declared.config.Config.{Config}
use Rattle.mon_config.specs.Configs.{range_of_key}
use Rattle.mon_topo.specs.Settings.{Setting}
use Rattle.mon_value.specs.Turns.{Adds, Hides}
use Rattle.mon_value.specs.declared.positions.Leaf.{Leaf}
use Rattle.mon_value.specs.declared.positions.Range.{Range}
use Rattle.mon_value.specs.declared.rows.Row.{Row}
use Rattle.typed_trees.specs.Nodes.{TypedTree}
use Rattle.query_traces.specs.Askings.{IsAskedOf}
use Rattle.query_core.specs.Machine.{new_query}
use Rattle.query_traces.specs.Rounds.{QuerySetting}
use Rattle.query_texts.specs.TextTypes.{text_type}
use Rattle.query_texts.specs.declared.faults.TextFault.{TextFault}
use Rattle.core_theory.proofs.CoreLemmas.{new_woven, stays_woven}
use Rattle.core_theory.proofs.EndedLemmas.{Finds, came_finds, new_finds}
use Rattle.core_theory.specs.Core.{CanCome, CoreEvent, Happens, Hears, Reader, Tells, begun_with, came, told_on}
use Rattle.core_theory.specs.Core.{view_told}
use Rattle.weave_core.specs.Declarations.{Declares, QueryBegins, RecoveryBegins, TrimBegins, WriteBegins, hearing}
use Rattle.weave_core.specs.Declarations.{new_reader, with_reader}
use Rattle.weave_core.specs.EndTexts.{no_plan_line, no_zone_line}
use Rattle.schedule_lines.specs.LawfulLines.{IsLawfulCall, IsLawfulForm}
use Rattle.core_theory.specs.Licensed.{IsReader, IsWoven}
use Rattle.weave_core.specs.Reached.{LinesLead}
use Rattle.weave_core.specs.Schedules.{Does, EndsBy, ActorGoesOn, IsFirstState, Rests, StopsBeforeEvent, Went}
use Rattle.weave_core.specs.States.{Asking, Dismissed, Eventless, Recovering, Retiring, Role, State, Switching}
use Rattle.weave_core.specs.States.{Undeclared, Writing}
use Rattle.weave_core.specs.States.{actor_at}
use Rattle.core_store.specs.Agreements.{store_of}
use Rattle.weave_core.specs.Steps.{StepsIn, with_event, with_role}
use Rattle.schedule_lines.specs.declared.calls.Call.{Call}
use Rattle.schedule_lines.specs.declared.calls.Call.TheVariants as call
use Rattle.weave_core.specs.declared.stepped.Stepped.{Stepped}
use Rattle.weave_core.specs.declared.stepped.Stepped.TheVariants as stepped
use Rattle.schedule_lines.specs.declared.events.Event.{Event}
use Rattle.schedule_lines.specs.declared.lines.LineForm.{LineForm}
use Rattle.schedule_lines.specs.declared.lines.LineForm.TheVariants as form
use Rattle.write_core.proofs.KeepsLemmas.{changed_by}
use Rattle.write_core.specs.Events.{Aims, Begins, CanRun, Copies, Event as WorldEvent, Goes, Retires, Switches}
use Rattle.write_core.specs.Events.{after_events}
use Rattle.write_core.specs.Invariant.{IsActor, IsNewWorld}
use Rattle.write_core.specs.Noted.{AreNoted}
use Rattle.mon_topo.specs.Views.{View, joined_view}
use Rattle.write_core.specs.World.{Actor, IsPart, Recovers, Stands, World, Writes, view_of}

-- what an actor has seen and knows is a part of the truth
pub part_of : (store : Setting) (world : World) (i : ℕ) (actor : Actor) → IsActor store world i actor
    → IsPart store world (view_of actor)
part_of store world i (Writes writer) h = h.part
part_of store world i (Recovers recovery) h = h.part
part_of store world i (Stands stander) h = h.part

-- a query that has not begun
pub fresh_reader : (store : Setting) (world : World) (setting : QuerySetting) (moment : ℤ) (view : View)
    → IsPart store world view
    → IsReader store world (new_reader store setting moment view)
fresh_reader store world setting moment view part = record {
  part = part;
  sound = part.sound;
  licensed = tt;
  now = refl;
}

-- by the law that whatever is said of leaves that were down was noted
module _ (config : Config)
    (law : (world : World) (events : List WorldEvent) → CanRun (store_of config) world events → AreNoted world
    → AreNoted (after_events (store_of config) world events)) where
  abbrev Store' : Setting
  Store' = store_of config

  abbrev State' : Type 0
  State' = State Store'

  -- a query began as a new one, and is asked of the store at a lawful moment
  pub record IsAsked (reader : Reader Store') : Type 0 where
    pub first : reader.first ≡ new_query reader.setting
    pub asked : IsAskedOf Store' reader.setting
    pub moment : pos 0 ≤ℤ reader.moment

  pub record Holds (state : State') : Type 0 where
    pub woven : IsWoven Store' state.core
    pub asked : (k : ℕ) → state.roles k ≡ Asking → IsAsked (state.core.readers k)
    pub found : Finds state.core.world

  -- ---- events

  asked_then : (state : State') (event : CoreEvent Store') → ((k : ℕ) → state.roles k ≡ Asking
      → IsAsked (state.core.readers k))
      → (k : ℕ) → state.roles k ≡ Asking → IsAsked ((came Store' state.core event).readers k)
  asked_then state (Happens event) all = all
  asked_then state (Tells i answer stage) all =
      changed_by state.core.readers i
      (told_on Store' (state.core.readers i) answer (view_told Store' state.core.world (state.core.readers i)) stage)
      (λ (k : ℕ) (reader : Reader Store'). state.roles k ≡ Asking → IsAsked reader)
      (λ is. let h = all i is in record { first = h.first; asked = h.asked; moment = h.moment })
      (λ k apart. all k)
  asked_then state (Hears i view) all =
      changed_by state.core.readers i
      (begun_with Store' (state.core.readers i) (joined_view (state.core.readers i).view view))
      (λ (k : ℕ) (reader : Reader Store'). state.roles k ≡ Asking → IsAsked reader)
      (λ is. let h = all i is in record { first = h.first; asked = h.asked; moment = h.moment })
      (λ k apart. all k)

  event_holds : (state : State') (event : CoreEvent Store') → CanCome Store' state.core event → Holds state
      → Holds (with_event Store' state event)
  event_holds state event can h = record {
    woven = stays_woven Store' state.core (event ∷ []) (can, tt) h.woven;
    asked = asked_then state event h.asked;
    found = came_finds Store' law state.core event can h.woven h.found;
  }

  -- ---- roles

  role_holds : (state : State') (k : ℕ) (role : Role) → (role ≡ Asking → ⊥) → Holds state
      → Holds (with_role Store' state k role)
  role_holds state k role other h = record {
    woven = h.woven;
    asked = changed_by state.roles k role (λ (j : ℕ) (r : Role). r ≡ Asking → IsAsked (state.core.readers j))
        (λ is. absurd (other is)) (λ j apart. h.asked j);
    found = h.found;
  }

  eventless : (text : List ℕ) → Eventless text ≡ Asking → ⊥
  eventless text e = cc

  dismissed : Dismissed ≡ Asking → ⊥
  dismissed e = cc

  switching : (leaf : Leaf) (down : Bool) → Switching leaf down ≡ Asking → ⊥
  switching leaf down e = cc

  retiring : (range : Range) (leaf : Leaf) → Retiring range leaf ≡ Asking → ⊥
  retiring range leaf e = cc

  recovering : Recovering ≡ Asking → ⊥
  recovering e = cc

  writing : Writing ≡ Asking → ⊥
  writing e = cc

  reader_holds : (state : State') (k : ℕ) (setting : QuerySetting) (moment : ℤ) → IsAskedOf Store' setting
      → pos 0 ≤ℤ moment → Holds state
      → Holds (with_reader Store' state k (new_reader Store' setting moment (view_of (actor_at Store' state k))))
  reader_holds state k setting moment asked from h =
      let view = view_of (actor_at Store' state k) in
      let reader : Reader Store' = new_reader Store' setting moment view in
      let part = part_of Store' state.core.world k (actor_at Store' state k) (h.woven.world.actors k) in
      record {
        woven = record {
          world = h.woven.world;
          readers = changed_by state.core.readers k reader (λ (j : ℕ) (one : Reader Store'). IsReader Store'
              state.core.world one)
              (fresh_reader Store' state.core.world setting moment view part) (λ j apart. h.woven.readers j);
        };
        asked = λ j is.
            changed_by state.core.readers k reader
            (λ (i : ℕ) (one : Reader Store'). (state.roles i ≡ Asking ⊎ i ≡ k) → IsAsked one)
            (λ either. record { first = refl; asked = asked; moment = from })
            (λ i apart either. still i apart either) j (was j is);
        found = h.found;
      }
    where
      still : (i : ℕ) → (i ≡ k → ⊥) → (state.roles i ≡ Asking ⊎ i ≡ k) → IsAsked (state.core.readers i)
      still i apart (inl is) = h.asked i is
      still i apart (inr same) = absurd (apart same)

      was : (j : ℕ) → (with_reader Store' state k (new_reader Store' setting moment
          (view_of (actor_at Store' state k)))).roles j ≡ Asking
          → state.roles j ≡ Asking ⊎ j ≡ k
      was = changed_by state.roles k Asking (λ (j : ℕ) (r : Role). r ≡ Asking → state.roles j ≡ Asking ⊎ j ≡ k)
          (λ is. inr refl) (λ j apart is. inl is)

  -- ---- steps

  steps_in : (role : Role) (state : State') (k : ℕ) (how : Stepped) (after : State') → StepsIn Store' role state k how
      after → Holds state
      → Holds after
  steps_in Undeclared state k how after steps h = absurd steps
  steps_in (Eventless text) state k how after steps h = subst Holds (sym steps.1)
      (role_holds state k Dismissed dismissed h)
  steps_in (Switching leaf down) state k how after (inl waits) h = subst Holds (sym waits.same) h
  steps_in (Switching leaf down) state k how after (inr goes) h =
      subst Holds (sym goes.becomes)
      (role_holds (with_event Store' state (Happens (Switches k leaf down goes.answer))) k Dismissed dismissed
      (event_holds state (Happens (Switches k leaf down goes.answer)) goes.can h))
  steps_in (Retiring range leaf) state k how after (inl waits) h = subst Holds (sym waits.same) h
  steps_in (Retiring range leaf) state k how after (inr goes) h =
      subst Holds (sym goes.becomes)
      (role_holds (with_event Store' state (Happens (Retires k range leaf goes.answer))) k Dismissed dismissed
      (event_holds state (Happens (Retires k range leaf goes.answer)) goes.can h))
  steps_in Dismissed state k how after steps h = absurd steps
  steps_in Recovering state k how after (inl waits) h = subst Holds (sym waits.same) h
  steps_in Recovering state k how after (inr goes) h =
      subst Holds (sym goes.becomes) (event_holds state (Happens (Copies k goes.answer)) goes.can h)
  steps_in Writing state k how after (inl waits) h = subst Holds (sym waits.same) h
  steps_in Writing state k how after (inr goes) h =
      subst Holds (sym goes.becomes) (event_holds state (Happens (Goes k goes.answer)) goes.can h)
  steps_in Asking state k how after (inl waits) h = subst Holds (sym waits.same) h
  steps_in Asking state k how after (inr goes) h =
      subst Holds (sym goes.becomes) (event_holds state (Tells k goes.answer goes.stage) goes.can h)

  went_holds : (k : ℕ) (goal : Option Event) (from : State') (count : ℕ) (state : State') → Went Store' k goal from
      count state
      → Holds from → Holds state
  went_holds k goal from zero state went h = subst Holds (sym went) h
  went_holds k goal from (suc count) state (before, went, other, steps) h =
      steps_in (before.roles k) before k stepped.Went state steps (went_holds k goal from count before went h)

  ends_hold : (k : ℕ) (goal : Option Event) (count : ℕ) (state : State') (how : Stepped) (after : State')
      → StopsBeforeEvent Store' k goal state how after ⊎ (EndsBy Store' k goal state how after
      ⊎ Rests Store' count state how after)
      → Holds state → Holds after
  ends_hold k goal count state how after (inl stops) h = subst Holds (sym stops.2) h
  ends_hold k goal count state how after (inr (inl ends)) h = steps_in (state.roles k) state k how after ends.1 h
  ends_hold k goal count state how after (inr (inr rests)) h = subst Holds (sym rests.2) h

  goes_hold : (k : ℕ) (goal : Option Event) (from : State') (how : Stepped) (after : State') → ActorGoesOn Store' k goal
      from how after
      → Holds from → Holds after
  goes_hold k goal from how after goes h =
      ends_hold k goal goes.count goes.state how after goes.ends (went_holds k goal from goes.count goes.state
      goes.went h)

  -- ---- lines

  write_holds : (state : State') (k : ℕ) (row : Row) (range : Option Range) (after : State') → WriteBegins config state
      k row range after
      → Holds state → Holds after
  write_holds state k row None after begins h =
      subst Holds (sym begins) (role_holds state k (Eventless no_zone_line) (eventless no_zone_line) h)
  write_holds state k row (Some range) after begins h =
      subst Holds (sym begins.1)
      (role_holds (with_event Store' state (Happens (Begins k (Adds row) range))) k Writing writing
      (event_holds state (Happens (Begins k (Adds row) range)) begins.0 h))

  trim_holds : (state : State') (k : ℕ) (range : Range) (before : ℤ) (after : State')
      → TrimBegins config state k range before after → Holds state → Holds after
  trim_holds state k range before after begins h =
      subst Holds (sym begins.1)
      (role_holds (with_event Store' state (Happens (Begins k (Hides before) range))) k Writing writing
      (event_holds state (Happens (Begins k (Hides before) range)) begins.0 h))

  recover_holds : (state : State') (k : ℕ) (range : Range) (leaf : Leaf) (after : State')
      → RecoveryBegins config state k range leaf after → Holds state → Holds after
  recover_holds state k range leaf after begins h =
      subst Holds (sym begins.1)
      (role_holds (with_event Store' state (Happens (Aims k range leaf))) k Recovering recovering
      (event_holds state (Happens (Aims k range leaf)) begins.0 h))

  query_holds : (state : State') (k : ℕ) (moment : ℤ) (typed : Result TypedTree TextFault) (after : State')
      → pos 0 ≤ℤ moment
      → QueryBegins config state k moment typed after → Holds state → Holds after
  query_holds state k moment (Err why) after from begins h =
      let line : List ℕ = no_plan_line why in
      subst Holds (sym begins) (role_holds state k (Eventless line) (eventless line) h)
  query_holds state k moment (Ok typed) after from (setting, asked, same) h =
      subst Holds (sym same) (reader_holds state k setting moment asked.asked from h)

  declare_holds : (state : State') (k : ℕ) (what : Call) (after : State')
      → IsLawfulCall config.schemas config.topology what
      → Declares config state k what after → Holds state → Holds after
  declare_holds state k (call.Write row) after lawful declares h =
      write_holds state k row (range_of_key config row.key) after declares h
  declare_holds state k (call.Query moment text) after lawful declares h =
      query_holds state k moment (text_type config.schemas text) after lawful declares h
  declare_holds state k (call.Down leaf) after lawful declares h =
      subst Holds (sym declares) (role_holds state k (Switching leaf true) (switching leaf true) h)
  declare_holds state k (call.Up leaf) after lawful declares h =
      subst Holds (sym declares) (role_holds state k (Switching leaf false) (switching leaf false) h)
  declare_holds state k (call.Recover range leaf) after lawful declares h =
      recover_holds state k range leaf after declares h
  declare_holds state k (call.Trim range before) after lawful declares h =
      trim_holds state k range before after declares h
  declare_holds state k (call.Retire range leaf) after lawful declares h =
      subst Holds (sym declares) (role_holds state k (Retiring range leaf) (retiring range leaf) h)

  does_hold : (state : State') (what : LineForm) (said : List ℕ) (after : State')
      → IsLawfulForm config.schemas config.topology what
      → Does config state what said after → Holds state → Holds after
  does_hold state (form.Declare k what) said after lawful does h = declare_holds state k what after lawful.1 does.1 h
  does_hold state (form.Meet k j) said after lawful does h =
      subst Holds (sym does.1.becomes) (event_holds state (hearing Store' state k j) does.1.can h)
  does_hold state (form.Step k) said after lawful does h = steps_in (state.roles k) state k does.how after does.steps h
  does_hold state (form.Until k event) said after lawful does h = goes_hold k (Some event) state does.how after
      does.goes h
  does_hold state (form.Finish k) said after lawful does h = goes_hold k None state does.how after does.goes h

  leads_hold : (lines : List LineForm) (from to : State') → LinesLead config from lines to → Holds from → Holds to
  leads_hold [] from to leads h = subst Holds (sym leads) h
  leads_hold (what ∷ lines) from to (mid, by, leads) h =
      leads_hold lines mid to leads (does_hold from what by.said mid by.lawful by.does h)

  -- what holds wherever lines lead to
  pub reached : ((world : World) → IsNewWorld Store' world → AreNoted world) → (first state : State')
      (lines : List LineForm) → IsFirstState config first → LinesLead config first lines state → Holds state
  reached begins first state lines is_first leads = leads_hold lines first state leads (record {
    woven = new_woven Store' first.core is_first.new;
    asked = λ k is. let no : Undeclared ≡ Asking = sym (is_first.roles k) ∙ is in absurd cc;
    found = new_finds Store' law begins first.core.world is_first.new.world;
  })
