-- A weave after an actor was declared.
use Rattle.std.proofs.Common.{◌≡◌, ◌≢◌, ℕ, ℤ, ◌<◌, pos, ◌≤ℤ◌, Bool, true, false, cond, Option, Some, None, Result}
use Rattle.std.proofs.Common.{List, [], ◌∷◌, length, set, refl, sym, ap, subst, ◌∙◌, arith, ◌≤◌}
use Rattle.std.proofs.lemmas.List.{length-set}
use Rattle.std.specs.Prelude.{slice_get}
use Rattle.mon_config.specs.declared.config.Config.{Config}
use Rattle.mon_schema.specs.Fits.{fits}
use Rattle.mon_topo.proofs.HeldLemmas.{seen_within_itself}
use Rattle.mon_config.specs.Configs.{range_of_key}
use Rattle.mon_topo.specs.HeldHistories.{AreWithin, first_histories}
use Rattle.mon_topo.specs.Zones.{leaves_in, ranges_in}
use Rattle.mon_value.specs.Turns.{Turn}
use Rattle.mon_value.specs.declared.positions.Leaf.{Leaf}
use Rattle.mon_value.specs.declared.positions.Range.{Range}
use Rattle.mon_value.specs.declared.rows.Row.{Row}
use Rattle.typed_trees.specs.Nodes.{TypedTree}
use Rattle.query_core.specs.Machine.{Query, new_query}
use Rattle.query_core.specs.Program as query
use Rattle.query_traces.specs.Rounds.{QuerySetting}
use Rattle.query_traces.specs.declared.asks.Ask.TheVariants as query_ask
use Rattle.query_core.specs.declared.stages.Stage.{Stage}
use Rattle.query_texts.specs.declared.faults.TextFault.{TextFault}
use Rattle.core_theory.proofs.CoreLemmas.{stays_woven}
use Rattle.core_store.proofs.HolderLemmas.{holders_changed}
use Rattle.weave_core.proofs.NumberLemmas.{agrees_at, set_apart, set_at, shared_beside}
use Rattle.weave_core.proofs.ReachedLemmas.{fresh_reader, part_of}
use Rattle.weave_core.proofs.StepLemmas.{Leaves}
use Rattle.weave_core.specs.ActorAgreements.{Agrees, HasWrittenNothing, IsActorSo, IsQuerying, IsRecovering, IsWriting}
use Rattle.weave_core.specs.ActorAgreements.{actor_numbered, flat}
use Rattle.core_store.specs.Agreements.{AreShared, IsServed, first_view}
use Rattle.core_theory.specs.Core.{CanCome, Happens, Reader}
use Rattle.weave_core.specs.Declarations.{Declares, QueryBegins, WriteBegins, new_reader, with_reader}
use Rattle.weave_core.specs.EndTexts.{no_plan_line, no_zone_line}
use Rattle.core_store.specs.Holders.{AreHolders, HoldsLeaf, HoldsRange}
use Rattle.mon_script.specs.Controls.{IsRecoverable}
use Rattle.schedule_lines.specs.LawfulLines.{IsLawfulCall}
use Rattle.core_theory.specs.Licensed.{IsReader}
use Rattle.weave_core.specs.NewActors.{BeginsToWrite, IsTaskOf, IsDeclaredActor, new_trim}
use Rattle.weave_core.specs.QueryPlans.{BeginsToAsk}
use Rattle.mon_topo.specs.Sights.{sight_of}
use Rattle.weave_core.specs.States.{Asking, Dismissed, Eventless, Recovering, Retiring, Role, State, Switching}
use Rattle.weave_core.specs.States.{Undeclared, Writing}
use Rattle.weave_core.specs.States.{declared_in}
use Rattle.core_store.specs.NextAsks.{recovers_begun}
use Rattle.core_store.specs.Agreements.{store_of}
use Rattle.core_store.specs.NextAsks.{writes_begun}
use Rattle.weave_core.specs.Steps.{with_event, with_role}
use Rattle.weave_core.specs.WeaveCalls.{DeclaresSo, IsWeaveKept, MayDeclare}
use Rattle.weave_core.specs.declared.actors.Actor.{Actor}
use Rattle.weave_core.specs.declared.actors.Task.{Task}
use Rattle.weave_core.specs.declared.actors.Task.TheVariants as task
use Rattle.schedule_lines.specs.declared.calls.Call.{Call}
use Rattle.schedule_lines.specs.declared.calls.Call.TheVariants as call
use Rattle.schedule_lines.specs.declared.calls.WeaveFault.TheVariants as fault
use Rattle.schedule_lines.specs.declared.limits.TheConstants.{LAST_ACTOR}
use Rattle.weave_core.specs.declared.queries.Querying.{Querying}
use Rattle.core_store.specs.declared.recoveries.Recovering.{Recovering as Recover}
use Rattle.core_store.specs.declared.retirements.Retiring.{Retiring as Retire}
use Rattle.mon_topo.specs.declared.sights.Sight.{Sight}
use Rattle.core_store.specs.declared.store.Store.{Store}
use Rattle.core_store.specs.declared.switches.Switching.{Switching as Switch}
use Rattle.weave_core.specs.declared.weave.Weave.{Weave}
use Rattle.core_store.specs.Writers.{IsKeyed, change_turn}
use Rattle.core_store.specs.declared.writes.Change.{Change}
use Rattle.core_store.specs.declared.writes.Change.TheVariants as change
use Rattle.core_store.specs.declared.writes.Writing.{Writing as Write}
use Rattle.write_core.proofs.KeepsLemmas.{changed_by, changed_other, changed_same}
use Rattle.write_core.specs.Events.{Aims, Begins, CanAim, CanBegin, new_recovery, new_writer}
use Rattle.write_core.specs.Program.{Locking, new_write}
use Rattle.write_core.specs.Steps.{IsTurnAtHome}
use Rattle.write_core.specs.Recovering.{Beginning}
use Rattle.mon_topo.specs.Views.{View}
use Rattle.write_core.specs.World.{Actor as Doer, Recovers, Stands, Writes, with_value_at, view_of}
use Rattle.write_core.specs.declared.asks.WriteAsk.TheVariants as write_ask
use Rattle.write_core.specs.declared.copies.CopyAsk.TheVariants as copy_ask

-- ---- who stands by

abbrev pub stander : ℕ → View → Doer
stander i view = Stands (record { pass = i; view = view })

pub stands_so : (i : ℕ) (view : View) (doer : Doer) → doer ≡ stander i view → doer ≡ stander i (view_of doer)
stands_so i view doer e = e ∙ ap (λ (v : View). stander i v) (sym (ap (λ (d : Doer). view_of d) e))

-- ---- a write or a trim that has not begun

locks_first : write_ask.Lock ≡ write_ask.Finished → ⊥
locks_first e = cc

abbrev pub at_lock : ℕ → Turn → Range → View → Doer
at_lock i turn range view = Writes (record { pass = i; turn = turn; range = range; stage = Locking; view = view })

abbrev writing_of : ℕ → Change → Range → Write
writing_of i brought range = record {
  number = i;
  change = brought;
  range = range;
  machine = new_write range;
  inside = None;
}

new_writing : (config : Config) (i : ℕ) (doer : Doer) (reader : Reader (store_of config)) (brought : Change)
    (range : Range) (view : View) → IsKeyed brought → doer ≡ at_lock i (change_turn brought) range view
    → IsWriting config i doer reader (writing_of i brought range) false (sight_of view.seen)
new_writing config i doer reader brought range view keyed e = record {
  writer = record {
    number = refl;
    key = keyed;
    writer = e
        ∙ ap (λ (v : View). at_lock i (change_turn brought) range v) (sym (ap (λ (d : Doer). view_of d) e));
    range = refl;
    looks = tt;
    below = tt;
    inside = refl;
    seen = ap (λ (d : Doer). sight_of (view_of d).seen) (sym e);
  };
  goes_on = locks_first;
  begun_is = ap (λ (d : Doer). writes_begun d) (sym e);
}

writing_is : (config : Config) (i : ℕ) (row : Row) (writing : Write) → BeginsToWrite config i row writing
    → writing ≡ writing_of i (change.Adds row row.key) writing.range
writing_is config i row writing h = λ k. record {
  number = h.number k;
  change = h.change_is k;
  range = writing.range;
  machine = h.machine k;
  inside = h.inside k;
}

-- ---- a recovery that has not begun

abbrev pub at_beginning : ℕ → Range → Leaf → View → Doer
at_beginning i range leaf view =
    Recovers (record { pass = i; range = range; leaf = leaf; stage = Beginning; view = view })

abbrev recovering_of : ℕ → Range → Leaf → Recover
recovering_of i range leaf = record { number = i; range = range; leaf = leaf; machine = Beginning }

opens_first : copy_ask.Lock ≡ copy_ask.Finished → ⊥
opens_first e = cc

new_recovering : (config : Config) (i : ℕ) (doer : Doer) (reader : Reader (store_of config)) (range : Range)
    (leaf : Leaf) → doer ≡ at_beginning i range leaf (first_view config)
    → IsRecovering config i doer reader (recovering_of i range leaf) false (sight_of (first_view config).seen)
new_recovering config i doer reader range leaf e = record {
  recoverer = record {
    number = refl;
    recovers = e ∙ ap (λ (v : View). at_beginning i range leaf v) (sym (ap (λ (d : Doer). view_of d) e));
    asks = tt;
    below = tt;
    since = λ at. subst (λ (d : Doer). AreWithin (first_histories config.topology) (view_of d).seen) (sym e)
        (seen_within_itself (first_histories config.topology));
    seen = ap (λ (d : Doer). sight_of (view_of d).seen) (sym e);
  };
  goes_on = opens_first;
  begun_is = ap (λ (d : Doer). recovers_begun d) (sym e);
}

-- ---- a query that has not begun

loads_first : (setting : QuerySetting) (stage : Stage) → stage ≡ (new_query setting).stage
    → query.ask_of setting stage ≡ query_ask.Finished → ⊥
loads_first setting stage e finished =
    let no : query.ask_of setting (new_query setting).stage ≡ query_ask.Finished
    = ap (λ (s : Stage). query.ask_of setting s) (sym e) ∙ finished in
    absurd cc

-- ---- in a state of the core

module _ (config : Config) (state : State (store_of config)) (i : ℕ) where
  abbrev Doer' : Doer
  Doer' = state.core.world.actors i

  abbrev Reader' : Reader (store_of config)
  Reader' = state.core.readers i

  -- who is not declared stands by, and has seen what all have seen at first
  undeclared_by : (role : Role) (one : Option Actor)
      → cond (declared_in (store_of config) state i role) (Some fault.BadLine) None ≡ None
      → IsActorSo config i Doer' Reader' role one → Doer' ≡ stander i (first_view config)
  undeclared_by Undeclared None e h = h
  undeclared_by Undeclared (Some own) e h = absurd h
  undeclared_by (Eventless text) one e h = absurd cc
  undeclared_by (Switching leaf down) one e h = absurd cc
  undeclared_by (Retiring range leaf) one e h = absurd cc
  undeclared_by Dismissed one e h = absurd cc
  undeclared_by Recovering one e h = absurd cc
  undeclared_by Writing one e h = absurd cc
  undeclared_by Asking one e h = absurd cc

  module _ (weave : Weave) (agrees : Agrees config weave state) (stands : Doer' ≡ stander i (first_view config)) where
    abbrev First : Sight
    First = sight_of (first_view config).seen

    -- an actor is declared so, and is as it is kept
    record IsDeclaredSo (what : Call) (one : Task) (begun : Bool) (sight : Sight) : Type 0 where
      pub after : State (store_of config)
      pub declares : Declares config state i what after
      pub leaves : Leaves (store_of config) state i after
      pub shared : AreShared config after.core.world weave.store
      pub actor : IsActorSo config i (after.core.world.actors i) (after.core.readers i) (after.roles i)
          (Some (record { task = one; sight = sight; begun = begun }))

    stands_now : HasWrittenNothing config i Doer' Reader'
    stands_now = stands_so i (first_view config) Doer' stands

    first_seen : First ≡ sight_of (view_of Doer').seen
    first_seen = ap (λ (d : Doer). sight_of (view_of d).seen) (sym stands)

    -- of an actor that has not begun, and has seen what all have seen at first
    as_new : (one : Task) (begun : Bool) (sight : Sight) → begun ≡ false → sight ≡ First
        → (after : State (store_of config))
        → IsActorSo config i (after.core.world.actors i) (after.core.readers i) (after.roles i)
        (Some (record { task = one; sight = First; begun = false }))
        → IsActorSo config i (after.core.world.actors i) (after.core.readers i) (after.roles i)
        (Some (record { task = one; sight = sight; begun = begun }))
    as_new one begun sight new seen after h =
        subst (λ (s : Sight). IsActorSo config i (after.core.world.actors i) (after.core.readers i) (after.roles i)
        (Some (record { task = one; sight = s; begun = begun }))) (sym seen)
        (subst (λ (b : Bool). IsActorSo config i (after.core.world.actors i) (after.core.readers i) (after.roles i)
        (Some (record { task = one; sight = First; begun = b }))) (sym new) h)

    -- a call without an event

    eventless_left : (text : List ℕ) → Leaves (store_of config) state i (with_role (store_of config) state i
        (Eventless text))
    eventless_left text = record {
      woven = agrees.woven;
      holders = agrees.holders;
      others = record {
        actor = λ j apart. refl;
        reader = λ j apart. refl;
        role = λ j apart. changed_other state.roles i j (Eventless text) apart;
      };
    }

    eventless_so : (text : List ℕ)
        → IsActorSo config i Doer' Reader' ((with_role (store_of config) state i (Eventless text)).roles i)
        (Some (record { task = task.Refused text; sight = First; begun = false }))
    eventless_so text = subst (λ (role : Role). IsActorSo config i Doer' Reader' role
        (Some (record { task = task.Refused text; sight = First; begun = false })))
        (sym (changed_same state.roles i (Eventless text)))
        (record { text_is = refl; stands = stands_now; begun_is = refl; seen = first_seen })

    eventless_declared : (what : Call) (text : List ℕ) (begun : Bool) (sight : Sight) → begun ≡ false → sight ≡ First
        → Declares config state i what (with_role (store_of config) state i (Eventless text))
        → IsDeclaredSo what (task.Refused text) begun sight
    eventless_declared what text begun sight new seen declares = record {
      after = with_role (store_of config) state i (Eventless text);
      declares = declares;
      leaves = eventless_left text;
      shared = agrees.shared;
      actor = as_new (task.Refused text) begun sight new seen (with_role (store_of config) state i (Eventless text))
          (eventless_so text);
    }

    -- a switch

    module _ (what : Call) (leaf : Leaf) (down : Bool) (there : leaf.0 < length (leaves_in config.topology))
        (declares : Declares config state i what (with_role (store_of config) state i (Switching leaf down))) where
      abbrev Ready : State (store_of config)
      Ready = with_role (store_of config) state i (Switching leaf down)

      abbrev Switch' : Switch
      Switch' = record { number = i; leaf = leaf; down = down }

      switch_so : IsActorSo config i Doer' Reader' (Ready.roles i)
          (Some (record { task = task.Switches Switch'; sight = First; begun = false }))
      switch_so = subst (λ (role : Role). IsActorSo config i Doer' Reader' role
          (Some (record { task = task.Switches Switch'; sight = First; begun = false })))
          (sym (changed_same state.roles i (Switching leaf down)))
          (record { switch_is = refl; there = there; stands = stands_now; begun_is = refl; seen = first_seen })

      switch_declared : (one : Task) (begun : Bool) (sight : Sight) → begun ≡ false → sight ≡ First
          → one ≡ task.Switches Switch' → IsDeclaredSo what one begun sight
      switch_declared one begun sight new seen is =
          subst (λ (t : Task). IsDeclaredSo what t begun sight) (sym is) (record {
            after = Ready;
            declares = declares;
            leaves = record {
              woven = agrees.woven;
              holders = agrees.holders;
              others = record {
                actor = λ j apart. refl;
                reader = λ j apart. refl;
                role = λ j apart. changed_other state.roles i j (Switching leaf down) apart;
              };
            };
            shared = agrees.shared;
            actor = as_new (task.Switches Switch') begun sight new seen Ready switch_so;
          })

    -- a retirement

    module _ (range : Range) (leaf : Leaf) (there : range.0 < length (ranges_in config.topology)) where
      abbrev Retires' : State (store_of config)
      Retires' = with_role (store_of config) state i (Retiring range leaf)

      abbrev Retire' : Retire
      Retire' = record { number = i; range = range; leaf = leaf }

      retire_so : IsActorSo config i Doer' Reader' (Retires'.roles i)
          (Some (record { task = task.Retires Retire'; sight = First; begun = false }))
      retire_so = subst (λ (role : Role). IsActorSo config i Doer' Reader' role
          (Some (record { task = task.Retires Retire'; sight = First; begun = false })))
          (sym (changed_same state.roles i (Retiring range leaf)))
          (record { retire_is = refl; there = there; stands = stands_now; begun_is = refl; seen = first_seen })

      retire_declared : (one : Task) (begun : Bool) (sight : Sight) → begun ≡ false → sight ≡ First
          → one ≡ task.Retires Retire' → IsDeclaredSo (call.Retire range leaf) one begun sight
      retire_declared one begun sight new seen is =
          subst (λ (t : Task). IsDeclaredSo (call.Retire range leaf) t begun sight) (sym is) (record {
            after = Retires';
            declares = refl;
            leaves = record {
              woven = agrees.woven;
              holders = agrees.holders;
              others = record {
                actor = λ j apart. refl;
                reader = λ j apart. refl;
                role = λ j apart. changed_other state.roles i j (Retiring range leaf) apart;
              };
            };
            shared = agrees.shared;
            actor = as_new (task.Retires Retire') begun sight new seen Retires' retire_so;
          })

    -- a recovery

    module _ (range : Range) (leaf : Leaf) (may : IsRecoverable config.topology range leaf) where
      abbrev Aimed : State (store_of config)
      Aimed = with_event (store_of config) state (Happens (Aims i range leaf))

      abbrev Recovered : State (store_of config)
      Recovered = with_role (store_of config) Aimed i Recovering

      aims : CanCome (store_of config) state.core (Happens (Aims i range leaf))
      aims = subst (λ (doer : Doer). CanAim (store_of config) range leaf doer) (sym stands)
          (record { range_there = may.range_there; leaf_there = may.leaf_there; zoned = may.zoned })

      recover_left : Leaves (store_of config) state i Recovered
      recover_left = record {
        woven = stays_woven (store_of config) state.core (Happens (Aims i range leaf) ∷ []) (aims, tt) agrees.woven;
        holders = holders_changed state.core.world i (Recovers (new_recovery range leaf Doer')) agrees.holders
            (λ r held. absurd (subst (λ (doer : Doer). HoldsRange r doer) stands held))
            (λ l held. absurd (subst (λ (doer : Doer). HoldsLeaf l doer) stands held));
        others = record {
          actor = λ j apart. changed_other state.core.world.actors i j (Recovers (new_recovery range leaf Doer')) apart;
          reader = λ j apart. refl;
          role = λ j apart. changed_other state.roles i j Recovering apart;
        };
      }

      new_recoverer : Aimed.core.world.actors i ≡ at_beginning i range leaf (first_view config)
      new_recoverer = changed_same state.core.world.actors i (Recovers (new_recovery range leaf Doer'))
          ∙ ap (λ (doer : Doer). Recovers (new_recovery range leaf doer)) stands

      recover_so : IsActorSo config i (Recovered.core.world.actors i) (Recovered.core.readers i) (Recovered.roles i)
          (Some (record { task = task.Recovers (recovering_of i range leaf); sight = First; begun = false }))
      recover_so = subst (λ (role : Role). IsActorSo config i (Aimed.core.world.actors i) Reader' role
          (Some (record { task = task.Recovers (recovering_of i range leaf); sight = First; begun = false })))
          (sym (changed_same state.roles i Recovering))
          (new_recovering config i (Aimed.core.world.actors i) Reader' range leaf new_recoverer)

      recover_declared : (one : Task) (begun : Bool) (sight : Sight) → begun ≡ false → sight ≡ First
          → one ≡ task.Recovers (recovering_of i range leaf)
          → IsDeclaredSo (call.Recover range leaf) one begun sight
      recover_declared one begun sight new seen is =
          subst (λ (t : Task). IsDeclaredSo (call.Recover range leaf) t begun sight) (sym is) (record {
            after = Recovered;
            declares = (aims, refl);
            leaves = recover_left;
            shared = shared_beside config state.core.world (with_value_at state.core.world.actors i
                (Recovers (new_recovery range leaf Doer')))
                weave.store agrees.shared;
            actor = as_new (task.Recovers (recovering_of i range leaf)) begun sight new seen Recovered recover_so;
          })

    -- a write, or a trim

    module _ (brought : Change) (range : Range) (keyed : IsKeyed brought)
        (home : IsTurnAtHome (store_of config) range (change_turn brought))
        (there : range.0 < length (ranges_in config.topology)) where
      abbrev turn : Turn
      turn = change_turn brought

      abbrev Begun : State (store_of config)
      Begun = with_event (store_of config) state (Happens (Begins i turn range))

      abbrev Written : State (store_of config)
      Written = with_role (store_of config) Begun i Writing

      begins : CanCome (store_of config) state.core (Happens (Begins i turn range))
      begins = subst (λ (doer : Doer). CanBegin (store_of config) state.core.world turn range doer) (sym stands)
          (home, subst (λ (n : ℕ). range.0 < n) (sym agrees.woven.world.truth.held.all_ranges) there)

      write_holders : AreHolders Begun.core.world
      write_holders = holders_changed state.core.world i (Writes (new_writer turn range Doer')) agrees.holders
          (λ r held. absurd (subst (λ (doer : Doer). HoldsRange r doer) stands held))
          (λ l held. absurd (subst (λ (doer : Doer). HoldsLeaf l doer) stands held))

      write_left : Leaves (store_of config) state i Written
      write_left = record {
        woven = stays_woven (store_of config) state.core (Happens (Begins i turn range) ∷ []) (begins, tt) agrees.woven;
        holders = write_holders;
        others = record {
          actor = λ j apart. changed_other state.core.world.actors i j (Writes (new_writer turn range Doer')) apart;
          reader = λ j apart. refl;
          role = λ j apart. changed_other state.roles i j Writing apart;
        };
      }

      new_doer : Begun.core.world.actors i ≡ at_lock i turn range (first_view config)
      new_doer = changed_same state.core.world.actors i (Writes (new_writer turn range Doer'))
          ∙ ap (λ (doer : Doer). Writes (new_writer turn range doer)) stands

      write_so : IsActorSo config i (Written.core.world.actors i) (Written.core.readers i) (Written.roles i)
          (Some (record { task = task.Writes (writing_of i brought range); sight = First; begun = false }))
      write_so = subst (λ (role : Role). IsActorSo config i (Begun.core.world.actors i) Reader' role
          (Some (record { task = task.Writes (writing_of i brought range); sight = First; begun = false })))
          (sym (changed_same state.roles i Writing))
          (new_writing config i (Begun.core.world.actors i) Reader' brought range (first_view config) keyed new_doer)

      begun_declared : (what : Call) (begun : Bool) (sight : Sight) → begun ≡ false → sight ≡ First
          → Declares config state i what Written
          → IsDeclaredSo what (task.Writes (writing_of i brought range)) begun sight
      begun_declared what begun sight new seen declares = record {
        after = Written;
        declares = declares;
        leaves = write_left;
        shared = shared_beside config state.core.world (with_value_at state.core.world.actors i
            (Writes (new_writer turn range Doer')))
            weave.store agrees.shared;
        actor = as_new (task.Writes (writing_of i brought range)) begun sight new seen Written write_so;
      }

    write_declared : (row : Row) (range : Range) → range_of_key config row.key ≡ Some range
        → range.0 < length (ranges_in config.topology) → fits config.schemas row ≡ true
        → (begun : Bool) (sight : Sight) → begun ≡ false → sight ≡ First
        → IsDeclaredSo (call.Write row) (task.Writes (writing_of i (change.Adds row row.key) range)) begun sight
    write_declared row range home there fitting begun sight new seen =
        let brought : Change = change.Adds row row.key in
        begun_declared brought range refl (fitting, home) there (call.Write row) begun sight new seen
        (subst (λ (found : Option Range). WriteBegins config state i row found
        (Written brought range refl (fitting, home) there)) (sym home)
        (begins brought range refl (fitting, home) there, refl))

    trim_declared : (range : Range) (before : ℤ) → range.0 < length (ranges_in config.topology) → (one : Task)
        (begun : Bool) (sight : Sight) → begun ≡ false → sight ≡ First → one ≡ task.Writes (new_trim i range before)
        → IsDeclaredSo (call.Trim range before) one begun sight
    trim_declared range before there one begun sight new seen is =
        let brought : Change = change.Hides before in
        subst (λ (t : Task). IsDeclaredSo (call.Trim range before) t begun sight) (sym is)
        (begun_declared brought range tt tt there (call.Trim range before) begun sight new seen
        (begins brought range tt tt there, refl))

    -- a query

    module _ (moment : ℤ) (text : List ℕ) (querying : Querying) (asks : BeginsToAsk config moment text querying)
        (lawful : pos 0 ≤ℤ moment) where
      abbrev Asked : QuerySetting
      Asked = querying.machine.setting

      abbrev Fresh : Reader (store_of config)
      Fresh = new_reader (store_of config) Asked moment (view_of Doer')

      abbrev Read : State (store_of config)
      Read = with_reader (store_of config) state i Fresh

      query_left : Leaves (store_of config) state i Read
      query_left = record {
        woven = record {
          world = agrees.woven.world;
          readers = changed_by state.core.readers i Fresh
              (λ (j : ℕ) (one : Reader (store_of config)). IsReader (store_of config) state.core.world one)
              (fresh_reader (store_of config) state.core.world Asked moment (view_of Doer')
              (part_of (store_of config) state.core.world i Doer' (agrees.woven.world.actors i)))
              (λ j apart. agrees.woven.readers j);
        };
        holders = agrees.holders;
        others = record {
          actor = λ j apart. refl;
          reader = λ j apart. changed_other state.core.readers i j Fresh apart;
          role = λ j apart. changed_other state.roles i j Asking apart;
        };
      }

      asking_so : IsQuerying config i Doer' Fresh querying false First
      asking_so = record {
        reader_so = record {
          asked = asks.machine.asked.asked;
          moment_lawful = subst (λ (m : ℤ). pos 0 ≤ℤ m) (sym asks.moment_is) lawful;
          setting = refl;
          moment = sym asks.moment_is;
          first = refl;
          now = sym asks.machine.new;
          since = subst (λ (doer : Doer). AreWithin (first_histories config.topology) (view_of doer).seen) (sym stands)
              (seen_within_itself (first_histories config.topology));
          seen = first_seen;
        };
        planned = record { limit = asks.machine.asked.limit; buckets = asks.machine.buckets };
        stands = stands_now;
        goes_on = loads_first Asked querying.machine.stage (ap (λ (machine : Query). machine.stage) asks.machine.new);
        begun_is = refl;
      }

      query_so : IsActorSo config i Doer' (Read.core.readers i) (Read.roles i)
          (Some (record { task = task.Queries querying; sight = First; begun = false }))
      query_so = subst (λ (role : Role). IsActorSo config i Doer' (Read.core.readers i) role
          (Some (record { task = task.Queries querying; sight = First; begun = false })))
          (sym (changed_same state.roles i Asking))
          (subst (λ (reader : Reader (store_of config)). IsQuerying config i Doer' reader querying false First)
          (sym (changed_same state.core.readers i Fresh)) asking_so)

      query_declared : (begun : Bool) (sight : Sight) → begun ≡ false → sight ≡ First
          → IsDeclaredSo (call.Query moment text) (task.Queries querying) begun sight
      query_declared begun sight new seen = record {
        after = Read;
        declares = subst (λ (typed : Result TypedTree TextFault). QueryBegins config state i moment typed Read)
            (sym asks.machine.typed_is) (Asked, asks.machine.asked, refl);
        leaves = query_left;
        shared = agrees.shared;
        actor = as_new (task.Queries querying) begun sight new seen Read query_so;
      }

    -- whatever it is to do

    declared_by : (what : Call) (one : Task) (begun : Bool) (sight : Sight) → begun ≡ false → sight ≡ First
        → IsLawfulCall config.schemas config.topology what → IsTaskOf config i what one
        → IsDeclaredSo what one begun sight
    declared_by (call.Write row) (task.Refused line) begun sight new seen lawful h =
        subst (λ (text : List ℕ). IsDeclaredSo (call.Write row) (task.Refused text) begun sight) (sym h.1)
        (eventless_declared (call.Write row) no_zone_line begun sight new seen
        (subst (λ (found : Option Range). WriteBegins config state i row found
        (with_role (store_of config) state i (Eventless no_zone_line))) (sym h.0) refl))
    declared_by (call.Write row) (task.Writes writing) begun sight new seen lawful h =
        subst (λ (one : Write). IsDeclaredSo (call.Write row) (task.Writes one) begun sight)
        (sym (writing_is config i row writing h))
        (write_declared row writing.range h.range_is h.there lawful begun sight new seen)
    declared_by (call.Write row) (task.Switches switching) begun sight new seen lawful h = absurd h
    declared_by (call.Write row) (task.Retires retiring) begun sight new seen lawful h = absurd h
    declared_by (call.Write row) (task.Recovers recovering) begun sight new seen lawful h = absurd h
    declared_by (call.Write row) (task.Queries querying) begun sight new seen lawful h = absurd h
    declared_by (call.Write row) task.Ended begun sight new seen lawful h = absurd h
    declared_by (call.Query moment text) (task.Refused line) begun sight new seen lawful h =
        let said : List ℕ = no_plan_line h.why in
        subst (λ (one : List ℕ). IsDeclaredSo (call.Query moment text) (task.Refused one) begun sight) (sym h.line_is)
        (eventless_declared (call.Query moment text) said begun sight new seen
        (subst (λ (typed : Result TypedTree TextFault). QueryBegins config state i moment typed
        (with_role (store_of config) state i (Eventless said))) (sym h.refused) refl))
    declared_by (call.Query moment text) (task.Switches switching) begun sight new seen lawful h = absurd h
    declared_by (call.Query moment text) (task.Retires retiring) begun sight new seen lawful h = absurd h
    declared_by (call.Query moment text) (task.Recovers recovering) begun sight new seen lawful h = absurd h
    declared_by (call.Query moment text) (task.Writes writing) begun sight new seen lawful h = absurd h
    declared_by (call.Query moment text) (task.Queries querying) begun sight new seen lawful h =
        query_declared moment text querying h lawful begun sight new seen
    declared_by (call.Query moment text) task.Ended begun sight new seen lawful h = absurd h
    declared_by (call.Down leaf) one begun sight new seen lawful h =
        switch_declared (call.Down leaf) leaf true lawful refl one begun sight new seen h
    declared_by (call.Up leaf) one begun sight new seen lawful h =
        switch_declared (call.Up leaf) leaf false lawful refl one begun sight new seen h
    declared_by (call.Recover range leaf) one begun sight new seen lawful h =
        recover_declared range leaf lawful one begun sight new seen h
    declared_by (call.Trim range before) one begun sight new seen lawful h =
        trim_declared range before lawful.0 one begun sight new seen h
    declared_by (call.Retire range leaf) one begun sight new seen lawful h =
        retire_declared range leaf lawful.0 one begun sight new seen h

-- ---- a weave in which it stands at its number

module _ (old : Weave) (i : ℕ) (what : Call) (new : Weave) (own : Actor) (last : i ≤ LAST_ACTOR)
    (store : new.store ≡ old.store) (items : new.actors.items ≡ set old.actors.items i (Some own))
    (fresh : IsDeclaredActor old.store.config i what old.store.first_sight own) where
  here : (config : Config) (state : State (store_of config)) → Agrees config old state
      → actor_numbered new.actors.items i ≡ Some own
  here config state agrees = ap (λ (all : List (Option Actor)). flat (slice_get all i)) items
      ∙ ap flat (set_at old.actors.items i (Some own) (let count = agrees.actors.count in omega (arith, count, last)))

  elsewhere : (j : ℕ) → j ≢ i → actor_numbered new.actors.items j ≡ actor_numbered old.actors.items j
  elsewhere j apart = ap (λ (all : List (Option Actor)). flat (slice_get all j)) items
      ∙ ap flat (set_apart old.actors.items i j (Some own) apart)

  pub declared : (config : Config) (state : State (store_of config)) → Agrees config old state
      → MayDeclare config state i what → DeclaresSo config state i what new
  declared config state agrees may =
      let stands = undeclared_by config state i (state.roles i) (actor_numbered old.actors.items i) may.fault
      (agrees.actors.each i) in
      let so = declared_by config state i old agrees stands what own.task own.begun own.sight fresh.begun_is
      (fresh.seen ∙ agrees.shared.first) may.lawful
      (subst (λ (c : Config). IsTaskOf c i what own.task) agrees.shared.config_is fresh.task_is) in
      record {
        after = so.after;
        declares = so.declares;
        agrees = agrees_at config old new state so.after i own agrees so.leaves
            (subst (λ (one : Store). AreShared config so.after.core.world one) (sym store) so.shared)
            (ap length items ∙ length-set old.actors.items i (Some own)) (here config state agrees) elsewhere so.actor;
      }

  pub declared_kept : IsWeaveKept old
      → ((config : Config) (state : State (store_of config)) → Agrees config old state → MayDeclare config state i what)
      → IsWeaveKept new
  declared_kept kept may =
      let so = declared kept.config kept.state kept.agrees (may kept.config kept.state kept.agrees) in
      record { config = kept.config; state = so.after; agrees = so.agrees }

pub served : (old : Weave) → IsWeaveKept old → IsServed old.store.config
served old kept = subst (λ (config : Config). IsServed config) (sym kept.agrees.shared.config_is)
    kept.agrees.shared.served

pub actor_there : (old : Weave) (i : ℕ) → i ≤ LAST_ACTOR → IsWeaveKept old → i < length old.actors.items
actor_there old i last kept = let count = kept.agrees.actors.count in omega (arith, count, last)
