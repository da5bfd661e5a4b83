-- A weave after an actor that has not begun heard from one that has ended.
use Rattle.std.proofs.Common.{◌≡◌, ◌≢◌, ℕ, ◌<◌, Bool, true, false, not, cond, Option, Some, None, List, []}
use Rattle.std.proofs.Common.{◌∷◌, get_or, length, set, refl, sym, ap, subst, ◌∙◌, inl, inr}
use Rattle.std.specs.Prelude.{◌||◌, IfSome, option_map, slice_get}
use Rattle.std.proofs.lemmas.Bool.{cases_eq}
use Rattle.std.proofs.lemmas.List.{length-set}
use Rattle.std.proofs.lemmas.Option.{slice_get_read}
use Rattle.mon_config.specs.declared.config.Config.{Config}
use Rattle.mon_topo.proofs.HeldLemmas.{seen_within_through}
use Rattle.mon_topo.specs.HeldHistories.{AreWithin, first_histories}
use Rattle.mon_value.specs.declared.histories.Histories.{Histories}
use Rattle.mon_value.specs.declared.positions.Leaf.{Leaf}
use Rattle.mon_value.specs.declared.positions.Range.{Range}
use Rattle.mon_value.specs.Histories.{joined_histories}
use Rattle.query_core.specs.Sessions as session
use Rattle.query_core.specs.Sessions.{query_after}
use Rattle.core_theory.proofs.CoreLemmas.{stays_woven}
use Rattle.weave_core.proofs.TaskLemmas.{begun_there, is_declared, over_there}
use Rattle.weave_core.proofs.DeclareLemmas.{stander, stands_so}
use Rattle.core_store.proofs.HolderLemmas.{holders_changed}
use Rattle.weave_core.proofs.NumberLemmas.{agrees_at, set_apart, set_at, shared_beside}
use Rattle.weave_core.proofs.ReachedLemmas.{part_of}
use Rattle.core_store.proofs.SeatLemmas.{parts_alike}
use Rattle.mon_topo.proofs.SightLemmas.{joined_seen}
use Rattle.weave_core.proofs.StepLemmas.{Leaves}
use Rattle.weave_core.proofs.WeaveLemmas.{numbered_there}
use Rattle.weave_core.specs.ActorAgreements.{Agrees, IsActorSo, IsRecovering, IsRetiring, IsTaskSo, IsQuerying}
use Rattle.weave_core.specs.ActorAgreements.{IsSwitching, IsWithoutEvent}
use Rattle.weave_core.specs.ActorAgreements.{IsWriting, actor_numbered, flat}
use Rattle.core_store.specs.Agreements.{AreShared}
use Rattle.core_theory.specs.Core.{CanCome, Happens, Hears, Reader, begun_with}
use Rattle.weave_core.specs.Tasks.{is_over}
use Rattle.weave_core.specs.Declarations.{hearing, hearing_in}
use Rattle.core_store.specs.Holders.{HoldsLeaf, HoldsRange}
use Rattle.core_theory.specs.Licensed.{IsWoven}
use Rattle.weave_core.specs.NewActors.{hearing_of}
use Rattle.weave_core.specs.Schedules.{meet_fault}
use Rattle.mon_topo.specs.Sights.{AreAlike, joined_sight, sight_of}
use Rattle.weave_core.specs.States as spec
use Rattle.core_store.specs.Recoverers.{recovery_of}
use Rattle.weave_core.specs.States.{Asking, Dismissed, Eventless, Recovering, Retiring, Role, State, Switching}
use Rattle.weave_core.specs.States.{Undeclared, Writing}
use Rattle.weave_core.specs.States.{begun_in}
use Rattle.core_store.specs.NextAsks.{is_copy_past_lock, recovers_begun}
use Rattle.mon_value.specs.Parts.{is_any}
use Rattle.weave_core.specs.States.{declared_in, view_at, view_in}
use Rattle.core_store.specs.NextAsks.{is_past_lock, writes_begun}
use Rattle.core_store.specs.Agreements.{store_of}
use Rattle.weave_core.specs.Steps.{with_event}
use Rattle.weave_core.specs.WeaveCalls.{IsWeaveKept, MeetsSo}
use Rattle.core_store.specs.Writers.{writer_of}
use Rattle.weave_core.specs.declared.actors.Actor.{Actor}
use Rattle.weave_core.specs.declared.actors.Task.{Task}
use Rattle.weave_core.specs.declared.actors.Task.TheVariants as task
use Rattle.schedule_lines.specs.declared.calls.WeaveFault.TheVariants as fault
use Rattle.weave_core.specs.declared.queries.Querying.{Querying}
use Rattle.core_store.specs.declared.recoveries.Recovering.{Recovering as Recover}
use Rattle.mon_topo.specs.declared.sights.Sight.{Sight}
use Rattle.core_store.specs.declared.retirements.Retiring.{Retiring as Retire}
use Rattle.core_store.specs.declared.store.Store.{Store}
use Rattle.core_store.specs.declared.switches.Switching.{Switching as Switch}
use Rattle.weave_core.specs.declared.weave.Weave.{Weave}
use Rattle.core_store.specs.declared.writes.Writing.{Writing as Write}
use Rattle.write_core.proofs.KeepsLemmas.{changed_other, changed_same}
use Rattle.write_core.proofs.ViewLemmas.{joined_first}
use Rattle.mon_value.proofs.PlainLemmas.{get_within, or_true}
use Rattle.write_core.specs.Events.{HasNotBegun, Learns}
use Rattle.write_core.specs.Program.{Acking, Ended, Entering, Inside, Locking, Reserving, Stage}
use Rattle.write_core.specs.Recovering.{Beginning, Carrying, CopyStage, Copying, Nearing, Over, Telling, Within}
use Rattle.mon_topo.specs.Views.{View, joined_view}
use Rattle.write_core.specs.World.{Actor as Doer, IsPart, Recovers, Stands, Writes, with_value_at, view_of, wiser}

-- ---- who is wiser

wiser_range : (r : ℕ) (view : View) (doer : Doer) → HoldsRange r doer → HoldsRange r (wiser doer view)
wiser_range r view (Writes writer) h = h
wiser_range r view (Recovers recovery) h = h
wiser_range r view (Stands one) h = h

wiser_leaf : (l : ℕ) (view : View) (doer : Doer) → HoldsLeaf l doer → HoldsLeaf l (wiser doer view)
wiser_leaf l view (Writes writer) h = h
wiser_leaf l view (Recovers recovery) h = h
wiser_leaf l view (Stands one) h = h

locking : (stage : Stage) → is_past_lock stage ≡ false → stage ≡ Locking
locking Locking e = refl
locking (Reserving round) e = absurd cc
locking (Entering round) e = absurd cc
locking (Inside round at_root in_zone) e = absurd cc
locking (Acking verdict) e = absurd cc
locking (Ended verdict) e = absurd cc

beginning : (stage : CopyStage) → is_copy_past_lock stage ≡ false → stage ≡ Beginning
beginning Beginning e = refl
beginning (Copying founds sources) e = absurd cc
beginning (Carrying rows) e = absurd cc
beginning (Nearing rows) e = absurd cc
beginning (Within rows at_root in_zone) e = absurd cc
beginning (Telling outcome) e = absurd cc
beginning (Over outcome) e = absurd cc

none_of : {X : Type 0} (xs : List X) → is_any xs ≡ false → xs ≡ []
none_of [] e = refl
none_of (x ∷ xs) e = absurd cc

-- both sights are joined as what was seen is
joined_of : (sight : Sight) (own seen : Histories) → sight ≡ sight_of own
    → joined_sight sight (sight_of seen) ≡ sight_of (joined_histories own seen)
joined_of sight own seen e = ap (λ (s : Sight). joined_sight s (sight_of seen)) e ∙ joined_seen own seen

-- one that is there
record HasOne (one : Option Actor) : Type 0 where
  pub own : Actor
  pub is : one ≡ Some own

-- ---- an actor in a state of the core

module _ (config : Config) (state : State (store_of config)) (i : ℕ) where
  abbrev Doer' : Doer
  Doer' = state.core.world.actors i

  abbrev Reader' : Reader (store_of config)
  Reader' = state.core.readers i

  -- what it has seen
  sight_so : (role : Role) (one : Task) (begun : Bool) (sight : Sight)
      → IsTaskSo config i Doer' Reader' role one begun sight
      → sight ≡ sight_of (view_in (store_of config) state i role).seen
  sight_so Undeclared one begun sight h = absurd h
  sight_so (Eventless text) (task.Refused own) begun sight h = h.seen
  sight_so (Eventless text) (task.Switches switching) begun sight h = absurd h
  sight_so (Eventless text) (task.Retires retiring) begun sight h = absurd h
  sight_so (Eventless text) (task.Recovers recovering) begun sight h = absurd h
  sight_so (Eventless text) (task.Writes writing) begun sight h = absurd h
  sight_so (Eventless text) (task.Queries querying) begun sight h = absurd h
  sight_so (Eventless text) task.Ended begun sight h = absurd h
  sight_so (Switching leaf down) (task.Refused own) begun sight h = absurd h
  sight_so (Switching leaf down) (task.Switches switching) begun sight h = h.seen
  sight_so (Switching leaf down) (task.Retires retiring) begun sight h = absurd h
  sight_so (Switching leaf down) (task.Recovers recovering) begun sight h = absurd h
  sight_so (Switching leaf down) (task.Writes writing) begun sight h = absurd h
  sight_so (Switching leaf down) (task.Queries querying) begun sight h = absurd h
  sight_so (Switching leaf down) task.Ended begun sight h = absurd h
  sight_so (Retiring range leaf) (task.Refused own) begun sight h = absurd h
  sight_so (Retiring range leaf) (task.Switches switching) begun sight h = absurd h
  sight_so (Retiring range leaf) (task.Retires retiring) begun sight h = h.seen
  sight_so (Retiring range leaf) (task.Recovers recovering) begun sight h = absurd h
  sight_so (Retiring range leaf) (task.Writes writing) begun sight h = absurd h
  sight_so (Retiring range leaf) (task.Queries querying) begun sight h = absurd h
  sight_so (Retiring range leaf) task.Ended begun sight h = absurd h
  sight_so Dismissed (task.Refused own) begun sight h = absurd h
  sight_so Dismissed (task.Switches switching) begun sight h = absurd h
  sight_so Dismissed (task.Retires retiring) begun sight h = absurd h
  sight_so Dismissed (task.Recovers recovering) begun sight h = absurd h
  sight_so Dismissed (task.Writes writing) begun sight h = absurd h
  sight_so Dismissed (task.Queries querying) begun sight h = absurd h
  sight_so Dismissed task.Ended begun sight h = h.seen
  sight_so Recovering (task.Refused own) begun sight h = absurd h
  sight_so Recovering (task.Switches switching) begun sight h = absurd h
  sight_so Recovering (task.Retires retiring) begun sight h = absurd h
  sight_so Recovering (task.Recovers recovering) begun sight h = h.recoverer.seen
  sight_so Recovering (task.Writes writing) begun sight h = absurd h
  sight_so Recovering (task.Queries querying) begun sight h = absurd h
  sight_so Recovering task.Ended begun sight h = h.seen
  sight_so Writing (task.Refused own) begun sight h = absurd h
  sight_so Writing (task.Switches switching) begun sight h = absurd h
  sight_so Writing (task.Retires retiring) begun sight h = absurd h
  sight_so Writing (task.Recovers recovering) begun sight h = absurd h
  sight_so Writing (task.Writes writing) begun sight h = h.writer.seen
  sight_so Writing (task.Queries querying) begun sight h = absurd h
  sight_so Writing task.Ended begun sight h = h.seen
  sight_so Asking (task.Refused own) begun sight h = absurd h
  sight_so Asking (task.Switches switching) begun sight h = absurd h
  sight_so Asking (task.Retires retiring) begun sight h = absurd h
  sight_so Asking (task.Recovers recovering) begun sight h = absurd h
  sight_so Asking (task.Writes writing) begun sight h = absurd h
  sight_so Asking (task.Queries querying) begun sight h = h.reader_so.seen
  sight_so Asking task.Ended begun sight h = h.seen

  part_in : (role : Role) → IsWoven (store_of config) state.core
      → IsPart (store_of config) state.core.world (view_in (store_of config) state i role)
  part_in Undeclared woven = part_of (store_of config) state.core.world i Doer' (woven.world.actors i)
  part_in (Eventless text) woven = part_of (store_of config) state.core.world i Doer' (woven.world.actors i)
  part_in (Switching leaf down) woven = part_of (store_of config) state.core.world i Doer' (woven.world.actors i)
  part_in (Retiring range leaf) woven = part_of (store_of config) state.core.world i Doer' (woven.world.actors i)
  part_in Dismissed woven = part_of (store_of config) state.core.world i Doer' (woven.world.actors i)
  part_in Recovering woven = part_of (store_of config) state.core.world i Doer' (woven.world.actors i)
  part_in Writing woven = part_of (store_of config) state.core.world i Doer' (woven.world.actors i)
  part_in Asking woven = (woven.readers i).part

  somebody : (role : Role) (one : Option Actor) → declared_in (store_of config) state i role ≡ true
      → IsActorSo config i Doer' Reader' role one → HasOne one
  somebody Undeclared one e h = absurd cc
  somebody (Eventless text) None e h = absurd h
  somebody (Switching leaf down) None e h = absurd h
  somebody (Retiring range leaf) None e h = absurd h
  somebody (Eventless text) (Some own) e h = record { own = own; is = refl }
  somebody (Switching leaf down) (Some own) e h = record { own = own; is = refl }
  somebody (Retiring range leaf) (Some own) e h = record { own = own; is = refl }
  somebody Dismissed None e h = absurd h
  somebody Dismissed (Some own) e h = record { own = own; is = refl }
  somebody Recovering None e h = absurd h
  somebody Recovering (Some own) e h = record { own = own; is = refl }
  somebody Writing None e h = absurd h
  somebody Writing (Some own) e h = record { own = own; is = refl }
  somebody Asking None e h = absurd h
  somebody Asking (Some own) e h = record { own = own; is = refl }

  -- ---- that hears of what someone has seen

  module _ (weave : Weave) (agrees : Agrees config weave state) (view : View)
      (part : IsPart (store_of config) state.core.world view) where
    abbrev Then : Role → State (store_of config)
    Then role = with_event (store_of config) state (hearing_in (store_of config) role i view)

    record HearsSo (role : Role) (one : Task) (begun : Bool) (sight : Sight) : Type 0 where
      pub can : CanCome (store_of config) state.core (hearing_in (store_of config) role i view)
      pub leaves : Leaves (store_of config) state i (Then role)
      pub shared : AreShared config (Then role).core.world weave.store
      pub actor : IsTaskSo config i ((Then role).core.world.actors i) ((Then role).core.readers i) role one begun
          (joined_sight sight (sight_of view.seen))

    -- who writes, or stands by

    abbrev Learned : State (store_of config)
    Learned = with_event (store_of config) state (Happens (Learns i view))

    learned_left : HasNotBegun Doer' → Leaves (store_of config) state i Learned
    learned_left new = record {
      woven = stays_woven (store_of config) state.core (Happens (Learns i view) ∷ []) ((new, part), tt) agrees.woven;
      holders = holders_changed state.core.world i (wiser Doer' view) agrees.holders
          (λ r held. wiser_range r view Doer' held) (λ l held. wiser_leaf l view Doer' held);
      others = record {
        actor = λ j apart. changed_other state.core.world.actors i j (wiser Doer' view) apart;
        reader = λ j apart. refl;
        role = λ j apart. refl;
      };
    }

    learned_shared : AreShared config Learned.core.world weave.store
    learned_shared = shared_beside config state.core.world (with_value_at state.core.world.actors i (wiser Doer' view))
        weave.store
        agrees.shared

    wiser_now : (doer : Doer) → Doer' ≡ doer → Learned.core.world.actors i ≡ wiser doer view
    wiser_now doer e = changed_same state.core.world.actors i (wiser Doer' view) ∙ ap (λ (d : Doer). wiser d view) e

    eventless_hears : (text own : List ℕ) (begun : Bool) (sight : Sight)
        → IsWithoutEvent config i Doer' Reader' text own begun sight
        → HearsSo (Eventless text) (task.Refused own) begun sight
    eventless_hears text own begun sight h =
        let now : Learned.core.world.actors i ≡ stander i (joined_view (view_of Doer') view)
        = wiser_now (stander i (view_of Doer')) h.stands in
        let new : HasNotBegun Doer' = subst (λ (doer : Doer). HasNotBegun doer) (sym h.stands) tt in
        record {
          can = (new, part);
          leaves = learned_left new;
          shared = learned_shared;
          actor = record {
            text_is = h.text_is;
            stands = stands_so i (joined_view (view_of Doer') view) (Learned.core.world.actors i) now;
            begun_is = h.begun_is;
            seen = joined_of sight (view_of Doer').seen view.seen h.seen
                ∙ ap (λ (d : Doer). sight_of (view_of d).seen) (sym now);
          };
        }

    switch_hears : (leaf : Leaf) (down : Bool) (switching : Switch) (begun : Bool) (sight : Sight)
        → IsSwitching config i Doer' Reader' leaf down switching begun sight
        → HearsSo (Switching leaf down) (task.Switches switching) begun sight
    switch_hears leaf down switching begun sight h =
        let now : Learned.core.world.actors i ≡ stander i (joined_view (view_of Doer') view)
        = wiser_now (stander i (view_of Doer')) h.stands in
        let new : HasNotBegun Doer' = subst (λ (doer : Doer). HasNotBegun doer) (sym h.stands) tt in
        record {
          can = (new, part);
          leaves = learned_left new;
          shared = learned_shared;
          actor = record {
            switch_is = h.switch_is;
            there = h.there;
            stands = stands_so i (joined_view (view_of Doer') view) (Learned.core.world.actors i) now;
            begun_is = h.begun_is;
            seen = joined_of sight (view_of Doer').seen view.seen h.seen
                ∙ ap (λ (d : Doer). sight_of (view_of d).seen) (sym now);
          };
        }

    retire_hears : (range : Range) (leaf : Leaf) (retiring : Retire) (begun : Bool) (sight : Sight)
        → IsRetiring config i Doer' Reader' range leaf retiring begun sight
        → HearsSo (Retiring range leaf) (task.Retires retiring) begun sight
    retire_hears range leaf retiring begun sight h =
        let now : Learned.core.world.actors i ≡ stander i (joined_view (view_of Doer') view)
        = wiser_now (stander i (view_of Doer')) h.stands in
        let new : HasNotBegun Doer' = subst (λ (doer : Doer). HasNotBegun doer) (sym h.stands) tt in
        record {
          can = (new, part);
          leaves = learned_left new;
          shared = learned_shared;
          actor = record {
            retire_is = h.retire_is;
            there = h.there;
            stands = stands_so i (joined_view (view_of Doer') view) (Learned.core.world.actors i) now;
            begun_is = h.begun_is;
            seen = joined_of sight (view_of Doer').seen view.seen h.seen
                ∙ ap (λ (d : Doer). sight_of (view_of d).seen) (sym now);
          };
        }

    recover_hears : (recovering : Recover) (begun : Bool) (sight : Sight) → recovers_begun Doer' ≡ false
        → IsRecovering config i Doer' Reader' recovering begun sight
        → HearsSo Recovering (task.Recovers recovering) begun sight
    recover_hears recovering begun sight free h =
        let now : Learned.core.world.actors i
        ≡ Recovers (recovery_of i recovering (joined_view (view_of Doer') view))
        = wiser_now (Recovers (recovery_of i recovering (view_of Doer'))) h.recoverer.recovers in
        let first : recovering.machine ≡ Beginning
        = beginning recovering.machine (sym (ap (λ (d : Doer). recovers_begun d) h.recoverer.recovers) ∙ free) in
        let new : HasNotBegun Doer' = subst (λ (doer : Doer). HasNotBegun doer) (sym h.recoverer.recovers) first in
        let mine : IsPart (store_of config) state.core.world (view_of Doer')
        = part_of (store_of config) state.core.world i Doer' (agrees.woven.world.actors i) in
        record {
          can = (new, part);
          leaves = learned_left new;
          shared = learned_shared;
          actor = record {
            recoverer = record {
              number = h.recoverer.number;
              recovers = now
                  ∙ ap (λ (v : View). Recovers (recovery_of i recovering v)) (sym (ap (λ (d : Doer). view_of d) now));
              asks = h.recoverer.asks;
              below = h.recoverer.below;
              since = λ at. subst (λ (d : Doer). AreWithin (first_histories config.topology) (view_of d).seen)
                  (sym now)
                  (seen_within_through (first_histories config.topology) (view_of Doer').seen
                  (joined_view (view_of Doer') view).seen (h.recoverer.since at)
                  (joined_first (view_of Doer') view state.core.world.truth mine.within part.within).seen);
              seen = joined_of sight (view_of Doer').seen view.seen h.recoverer.seen
                  ∙ ap (λ (d : Doer). sight_of (view_of d).seen) (sym now);
            };
            goes_on = h.goes_on;
            begun_is = h.begun_is ∙ ap (λ (d : Doer). recovers_begun d) h.recoverer.recovers
                ∙ sym (ap (λ (d : Doer). recovers_begun d) now);
          };
        }

    write_hears : (writing : Write) (begun : Bool) (sight : Sight) → writes_begun Doer' ≡ false
        → IsWriting config i Doer' Reader' writing begun sight → HearsSo Writing (task.Writes writing) begun sight
    write_hears writing begun sight free h =
        let now : Learned.core.world.actors i ≡ Writes (writer_of i writing (joined_view (view_of Doer') view))
        = wiser_now (Writes (writer_of i writing (view_of Doer'))) h.writer.writer in
        let first : writing.machine.stage ≡ Locking
        = locking writing.machine.stage (sym (ap (λ (d : Doer). writes_begun d) h.writer.writer) ∙ free) in
        let new : HasNotBegun Doer' = subst (λ (doer : Doer). HasNotBegun doer) (sym h.writer.writer) first in
        record {
          can = (new, part);
          leaves = learned_left new;
          shared = learned_shared;
          actor = record {
            writer = record {
              number = h.writer.number;
              key = h.writer.key;
              writer = now ∙ ap (λ (v : View). Writes (writer_of i writing v)) (sym (ap (λ (d : Doer). view_of d) now));
              range = h.writer.range;
              looks = h.writer.looks;
              below = h.writer.below;
              inside = h.writer.inside;
              seen = joined_of sight (view_of Doer').seen view.seen h.writer.seen
                  ∙ ap (λ (d : Doer). sight_of (view_of d).seen) (sym now);
            };
            goes_on = h.goes_on;
            begun_is = h.begun_is ∙ ap (λ (d : Doer). writes_begun d) h.writer.writer
                ∙ sym (ap (λ (d : Doer). writes_begun d) now);
          };
        }

    -- who queries

    abbrev Told : Reader (store_of config)
    Told = begun_with (store_of config) Reader' (joined_view Reader'.view view)

    query_hears : (querying : Querying) (begun : Bool) (sight : Sight) → is_any Reader'.session ≡ false
        → IsQuerying config i Doer' Reader' querying begun sight → HearsSo Asking (task.Queries querying) begun sight
    query_hears querying begun sight free h =
        let none : Reader'.session ≡ [] = none_of Reader'.session free in
        let so : IsQuerying config i Doer' Told querying begun (joined_sight sight (sight_of view.seen)) = record {
          reader_so = record {
            asked = h.reader_so.asked;
            moment_lawful = h.reader_so.moment_lawful;
            setting = h.reader_so.setting;
            moment = h.reader_so.moment;
            first = h.reader_so.first;
            now = ap (λ (events : List (session.Event (store_of config) Reader'.setting Reader'.moment)).
                query_after (store_of config) Reader'.setting Reader'.moment Reader'.first events) (sym none)
                ∙ h.reader_so.now;
            since = seen_within_through (first_histories config.topology) Reader'.view.seen
                (joined_view Reader'.view view).seen
                h.reader_so.since
                (joined_first Reader'.view view state.core.world.truth (agrees.woven.readers i).part.within
                part.within).seen;
            seen = joined_of sight Reader'.view.seen view.seen h.reader_so.seen;
          };
          planned = h.planned;
          stands = h.stands;
          goes_on = h.goes_on;
          begun_is = h.begun_is ∙ free;
        } in
        record {
          can = (none, part);
          leaves = record {
            woven = stays_woven (store_of config) state.core (Hears i view ∷ []) ((none, part), tt) agrees.woven;
            holders = agrees.holders;
            others = record {
              actor = λ j apart. refl;
              reader = λ j apart. changed_other state.core.readers i j Told apart;
              role = λ j apart. refl;
            };
          };
          shared = agrees.shared;
          actor = subst (λ (reader : Reader (store_of config)). IsQuerying config i Doer' reader querying begun
              (joined_sight sight (sight_of view.seen))) (sym (changed_same state.core.readers i Told)) so;
        }

    hears_by : (role : Role) (one : Task) (begun : Bool) (sight : Sight)
        → begun_in (store_of config) state i role ≡ false → IsTaskSo config i Doer' Reader' role one begun sight
        → HearsSo role one begun sight
    hears_by Undeclared one begun sight free h = absurd h
    hears_by (Eventless text) (task.Refused own) begun sight free h = eventless_hears text own begun sight h
    hears_by (Eventless text) (task.Switches switching) begun sight free h = absurd h
    hears_by (Eventless text) (task.Retires retiring) begun sight free h = absurd h
    hears_by (Eventless text) (task.Recovers recovering) begun sight free h = absurd h
    hears_by (Eventless text) (task.Writes writing) begun sight free h = absurd h
    hears_by (Eventless text) (task.Queries querying) begun sight free h = absurd h
    hears_by (Eventless text) task.Ended begun sight free h = absurd h
    hears_by (Switching leaf down) (task.Refused own) begun sight free h = absurd h
    hears_by (Switching leaf down) (task.Switches switching) begun sight free h =
        switch_hears leaf down switching begun sight h
    hears_by (Switching leaf down) (task.Retires retiring) begun sight free h = absurd h
    hears_by (Switching leaf down) (task.Recovers recovering) begun sight free h = absurd h
    hears_by (Switching leaf down) (task.Writes writing) begun sight free h = absurd h
    hears_by (Switching leaf down) (task.Queries querying) begun sight free h = absurd h
    hears_by (Switching leaf down) task.Ended begun sight free h = absurd h
    hears_by (Retiring range leaf) (task.Refused own) begun sight free h = absurd h
    hears_by (Retiring range leaf) (task.Switches switching) begun sight free h = absurd h
    hears_by (Retiring range leaf) (task.Retires retiring) begun sight free h =
        retire_hears range leaf retiring begun sight h
    hears_by (Retiring range leaf) (task.Recovers recovering) begun sight free h = absurd h
    hears_by (Retiring range leaf) (task.Writes writing) begun sight free h = absurd h
    hears_by (Retiring range leaf) (task.Queries querying) begun sight free h = absurd h
    hears_by (Retiring range leaf) task.Ended begun sight free h = absurd h
    hears_by Dismissed one begun sight free h = absurd cc
    hears_by Recovering (task.Refused own) begun sight free h = absurd h
    hears_by Recovering (task.Switches switching) begun sight free h = absurd h
    hears_by Recovering (task.Retires retiring) begun sight free h = absurd h
    hears_by Recovering (task.Recovers recovering) begun sight free h = recover_hears recovering begun sight free h
    hears_by Recovering (task.Writes writing) begun sight free h = absurd h
    hears_by Recovering (task.Queries querying) begun sight free h = absurd h
    hears_by Recovering task.Ended begun sight free h = let no : true ≡ false = sym h.begun_is ∙ free in absurd cc
    hears_by Writing (task.Refused own) begun sight free h = absurd h
    hears_by Writing (task.Switches switching) begun sight free h = absurd h
    hears_by Writing (task.Retires retiring) begun sight free h = absurd h
    hears_by Writing (task.Recovers recovering) begun sight free h = absurd h
    hears_by Writing (task.Writes writing) begun sight free h = write_hears writing begun sight free h
    hears_by Writing (task.Queries querying) begun sight free h = absurd h
    hears_by Writing task.Ended begun sight free h = let no : true ≡ false = sym h.begun_is ∙ free in absurd cc
    hears_by Asking (task.Refused own) begun sight free h = absurd h
    hears_by Asking (task.Switches switching) begun sight free h = absurd h
    hears_by Asking (task.Retires retiring) begun sight free h = absurd h
    hears_by Asking (task.Recovers recovering) begun sight free h = absurd h
    hears_by Asking (task.Writes writing) begun sight free h = absurd h
    hears_by Asking (task.Queries querying) begun sight free h = query_hears querying begun sight free h
    hears_by Asking task.Ended begun sight free h = let no : true ≡ false = sym h.begun_is ∙ free in absurd cc

-- ---- what a meeting asks for

record MayMeet (own_declared other_declared own_begun other_ended : Bool) : Type 0 where
  pub own : own_declared ≡ true
  pub other : other_declared ≡ true
  pub free : own_begun ≡ false
  pub ended : other_ended ≡ true

may_meet : (a b c d : Bool)
    → cond (not a || not b) (Some fault.NoActor) (cond (c || not d) (Some fault.BadLine) None) ≡ None → MayMeet a b c d
may_meet true true false true e = record { own = refl; other = refl; free = refl; ended = refl }
may_meet true true false false e = absurd cc
may_meet true true true d e = absurd cc
may_meet true false c d e = absurd cc
may_meet false b c d e = absurd cc

pub out_there : (actors left : List (Option Actor)) (j n : ℕ) → left ≡ set actors j None → n < length actors
    → n < length left
out_there actors left j n is there =
    subst (λ (count : ℕ). n < count) (sym (ap length is ∙ length-set actors j None)) there

-- ---- a weave whose one actor heard from the other, which was taken out of its place and put back

module _ (old : Weave) (k j : ℕ) (ended : Actor) (taken : Some ended ≡ actor_numbered old.actors.items j) where
  pub other_there : j < length old.actors.items
  other_there = numbered_there old.actors.items j ended (sym taken)

  module _ (config : Config) (state : State (store_of config)) (agrees : Agrees config old state)
      (may : meet_fault (store_of config) state k j ≡ None) where
    facts : MayMeet (spec.is_declared (store_of config) state k) (spec.is_declared (store_of config) state j)
        (spec.has_begun (store_of config) state k) (spec.has_ended (store_of config) state j)
    facts = may_meet (spec.is_declared (store_of config) state k) (spec.is_declared (store_of config) state j)
        (spec.has_begun (store_of config) state k) (spec.has_ended (store_of config) state j) may

    apart : k ≡ j → ⊥
    apart same =
        let over : is_over ended.task ≡ true = over_there old j ended taken config state agrees ∙ facts.ended in
        let begun : spec.has_begun (store_of config) state j ≡ true
        = sym (begun_there old j ended taken config state agrees) ∙ ap (λ (b : Bool). ended.begun || b) over
        ∙ or_true ended.begun in
        let no : true ≡ false
        = sym begun ∙ ap (λ (n : ℕ). spec.has_begun (store_of config) state n) (sym same) ∙ facts.free in
        absurd cc

    own_found : HasOne (actor_numbered old.actors.items k)
    own_found = somebody config state k (state.roles k) (actor_numbered old.actors.items k) facts.own
        (agrees.actors.each k)

    own_there : k < length old.actors.items
    own_there = numbered_there old.actors.items k own_found.own own_found.is

    own_so : IsActorSo config k (state.core.world.actors k) (state.core.readers k) (state.roles k) (Some own_found.own)
    own_so = subst (λ (one : Option Actor). IsActorSo config k (state.core.world.actors k) (state.core.readers k)
        (state.roles k) one) own_found.is (agrees.actors.each k)

    other_so : IsActorSo config j (state.core.world.actors j) (state.core.readers j) (state.roles j) (Some ended)
    other_so = subst (λ (one : Option Actor). IsActorSo config j (state.core.world.actors j) (state.core.readers j)
        (state.roles j) one) (sym taken) (agrees.actors.each j)

    other_seen : ended.sight ≡ sight_of (view_at (store_of config) state j).seen
    other_seen = sight_so config state j (state.roles j) ended.task ended.begun ended.sight other_so

    sights_alike : AreAlike own_found.own.sight ended.sight
    sights_alike =
        let own_seen : own_found.own.sight ≡ sight_of (view_at (store_of config) state k).seen
        = sight_so config state k (state.roles k) own_found.own.task own_found.own.begun own_found.own.sight own_so in
        subst (λ (s : Sight). AreAlike s ended.sight) (sym own_seen)
        (subst (λ (s : Sight). AreAlike (sight_of (view_at (store_of config) state k).seen) s) (sym other_seen)
        (parts_alike (store_of config) state.core.world (view_at (store_of config) state k)
        (view_at (store_of config) state j)
        (part_in config state k (state.roles k) agrees.woven) (part_in config state j (state.roles j) agrees.woven)))

    module _ (place : Option Actor) (got : slice_get (set old.actors.items j None) k ≡ Some place) where
      place_is : place ≡ Some own_found.own
      place_is = ap flat (sym got ∙ set_apart old.actors.items j k None apart) ∙ own_found.is

      place_alike : IfSome place (λ (own : Actor). AreAlike own.sight ended.sight)
      place_alike = subst (λ (one : Option Actor). IfSome one (λ (own : Actor). AreAlike own.sight ended.sight))
          (sym place_is) sights_alike

      module _ (heard : Option Actor) (heard_is : heard ≡ option_map (hearing_of ended.sight) place) (new : Weave)
          (store : new.store ≡ old.store)
          (items : new.actors.items ≡ set (set (set old.actors.items j None) k heard) j (Some ended)) where
        heard_own : heard ≡ Some (hearing_of ended.sight own_found.own)
        heard_own = heard_is ∙ ap (λ (one : Option Actor). option_map (hearing_of ended.sight) one) place_is

        numbered_here : actor_numbered new.actors.items k ≡ Some (hearing_of ended.sight own_found.own)
        numbered_here = ap (λ (all : List (Option Actor)). flat (slice_get all k)) items
            ∙ ap flat (set_apart (set (set old.actors.items j None) k heard) j k (Some ended) apart
            ∙ set_at (set old.actors.items j None) k heard (get_within (set old.actors.items j None) k place got))
            ∙ heard_own

        count : length (set (set old.actors.items j None) k heard) ≡ length old.actors.items
        count = length-set (set old.actors.items j None) k heard ∙ length-set old.actors.items j None

        elsewhere_still : (n : ℕ) → n ≢ k
            → flat (slice_get (set (set (set old.actors.items j None) k heard) j (Some ended)) n)
            ≡ actor_numbered old.actors.items n
        elsewhere_still n other = elim (cases_eq n j) [
          | inl same ↦ subst (λ (m : ℕ).
              flat (slice_get (set (set (set old.actors.items j None) k heard) j (Some ended)) m)
              ≡ actor_numbered old.actors.items m) (sym same)
              (ap flat (set_at (set (set old.actors.items j None) k heard) j (Some ended)
              (subst (λ (all : ℕ). j < all) (sym count) other_there)) ∙ taken)
          | inr beside ↦ ap flat (set_apart (set (set old.actors.items j None) k heard) j n (Some ended) beside
              ∙ set_apart (set old.actors.items j None) k n heard other ∙ set_apart old.actors.items j n None beside)
        ]

        numbered_elsewhere : (n : ℕ) → n ≢ k → actor_numbered new.actors.items n ≡ actor_numbered old.actors.items n
        numbered_elsewhere n other =
            ap (λ (all : List (Option Actor)). flat (slice_get all n)) items ∙ elsewhere_still n other

        hears : HearsSo config state k old agrees (view_at (store_of config) state j)
            (part_in config state j (state.roles j) agrees.woven) (state.roles k) own_found.own.task
            own_found.own.begun
            own_found.own.sight
        hears = hears_by config state k old agrees (view_at (store_of config) state j)
            (part_in config state j (state.roles j) agrees.woven) (state.roles k) own_found.own.task
            own_found.own.begun
            own_found.own.sight facts.free own_so

        abbrev Heard : State (store_of config)
        Heard = with_event (store_of config) state (hearing (store_of config) state k j)

        heard_so : IsActorSo config k (Heard.core.world.actors k) (Heard.core.readers k) (Heard.roles k)
            (Some (hearing_of ended.sight own_found.own))
        heard_so = subst (λ (s : Sight). IsTaskSo config k (Heard.core.world.actors k) (Heard.core.readers k)
            (state.roles k)
            own_found.own.task own_found.own.begun (joined_sight own_found.own.sight s)) (sym other_seen) hears.actor

        met_so : MeetsSo config state k j new
        met_so = record {
          after = Heard;
          meets = record { can = hears.can; becomes = refl };
          agrees = agrees_at config old new state Heard k (hearing_of ended.sight own_found.own) agrees hears.leaves
              (subst (λ (one : Store). AreShared config Heard.core.world one) (sym store) hears.shared)
              (ap length items ∙ length-set (set (set old.actors.items j None) k heard) j (Some ended) ∙ count)
              numbered_here numbered_elsewhere heard_so;
        }

  -- whichever state it agrees with

  module _ (kept : IsWeaveKept old) (may : (config : Config) (state : State (store_of config)) → Agrees config old state
      → meet_fault (store_of config) state k j ≡ None) where
    pub place_there : k < length old.actors.items
    place_there = own_there kept.config kept.state kept.agrees (may kept.config kept.state kept.agrees)

    pub place_got : (out : List (Option Actor)) → out ≡ set old.actors.items j None → (place : Option Actor)
        → place ≡ get_or out k place → slice_get (set old.actors.items j None) k ≡ Some place
    place_got out is place read =
        ap (λ (all : List (Option Actor)). slice_get all k) (sym is)
        ∙ slice_get_read out (length out) k place refl
        (subst (λ (n : ℕ). k < n) (sym (ap length is ∙ length-set old.actors.items j None)) place_there) read

    module _ (place : Option Actor) (got : slice_get (set old.actors.items j None) k ≡ Some place) where
      pub alike : IfSome place (λ (own : Actor). AreAlike own.sight ended.sight)
      alike = place_alike kept.config kept.state kept.agrees (may kept.config kept.state kept.agrees) place got

      module _ (heard : Option Actor) (heard_is : heard ≡ option_map (hearing_of ended.sight) place) (new : Weave)
          (store : new.store ≡ old.store)
          (items : new.actors.items ≡ set (set (set old.actors.items j None) k heard) j (Some ended)) where
        pub met : (config : Config) (state : State (store_of config)) → Agrees config old state → MeetsSo config state
            k j new
        met config state agrees =
            met_so config state agrees (may config state agrees) place got heard heard_is new store items

        pub met_kept : IsWeaveKept new
        met_kept =
            let so = met kept.config kept.state kept.agrees in
            record { config = kept.config; state = so.after; agrees = so.agrees }

-- nobody is at the other's number: no state may have this meeting
module _ (old : Weave) (k j : ℕ) (nobody : None ≡ actor_numbered old.actors.items j) where
  pub nobody_meets : (config : Config) (state : State (store_of config)) → Agrees config old state
      → meet_fault (store_of config) state k j ≡ None → ⊥
  nobody_meets config state agrees may =
      let facts = may_meet (spec.is_declared (store_of config) state k) (spec.is_declared (store_of config) state j)
      (spec.has_begun (store_of config) state k) (spec.has_ended (store_of config) state j) may in
      let no : false ≡ true = is_declared old j None nobody config state agrees ∙ facts.other in
      absurd cc
