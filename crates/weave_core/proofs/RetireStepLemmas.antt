-- A step of an actor that retires a range's replica on a leaf.
use Rattle.std.proofs.Common.{◌≡◌, ◌≢◌, ◌∙◌, ◌<◌, ℕ, Bool, true, Option, Some, None, List, [], ◌∷◌, ◌++◌}
use Rattle.std.proofs.Common.{length, refl, sym, ap, subst, inl, inr}
use Rattle.std.specs.Prelude.{slice_get}
use Rattle.std.proofs.lemmas.List.{length-map}
use Rattle.mon_config.specs.declared.config.Config.{Config}
use Rattle.mon_topo.proofs.HeldLemmas.{range_entry_other, range_entry_same}
use Rattle.mon_topo.proofs.SightLemmas.{range_noted_over, range_seen}
use Rattle.mon_topo.specs.Sights.{AreAlike, range_sight, sight_of, with_range_sight}
use Rattle.mon_topo.specs.Views.{View, joined_view, of_leaf, of_range}
use Rattle.mon_topo.specs.Zones.{ranges_in}
use Rattle.mon_topo.specs.declared.sights.Sight.{Sight}
use Rattle.mon_topo.specs.declared.zones.ZoneSpec.{ZoneSpec}
use Rattle.mon_value.specs.Histories.{range_numbered}
use Rattle.mon_value.specs.declared.histories.RangeEntry.{RangeEntry}
use Rattle.mon_value.specs.declared.histories.RangeEntry.TheVariants as range_entry
use Rattle.mon_value.specs.declared.positions.Leaf.{Leaf}
use Rattle.mon_value.specs.declared.positions.Range.{Range}
use Rattle.mon_value.specs.declared.positions.Slot.{Slot}
use Rattle.core_store.proofs.MeetingLemmas.{range_met}
use Rattle.core_store.proofs.SeatLemmas.{parts_alike, same_at_range, shared_at_range}
use Rattle.core_store.proofs.WriteTurnLemmas.{some_of}
use Rattle.core_store.specs.Agreements.{AreShared, IsRangeSo, store_of}
use Rattle.core_store.specs.Holders.{HoldsRange}
use Rattle.core_store.specs.Meetings.{sight_at_range}
use Rattle.core_store.specs.Retirements.{IsSeatedToRetire, RetiresAt, RetiresRange, history_retired}
use Rattle.core_store.specs.WriteEvents.{ChangesRange, IsHeldFrom}
use Rattle.core_store.specs.declared.ranges.RangeSeat.{RangeSeat}
use Rattle.core_store.specs.declared.retirements.Retiring.{Retiring as Retire}
use Rattle.core_store.specs.declared.store.Store.{Store}
use Rattle.core_theory.specs.Core.{Happens, Reader}
use Rattle.weave_core.proofs.DeclareLemmas.{stands_so}
use Rattle.weave_core.proofs.ReachedLemmas.{part_of}
use Rattle.weave_core.proofs.TaskLemmas.{no_fault}
use Rattle.weave_core.specs.ActorAgreements.{IsActorSo, IsDismissed, IsRetiring, IsTaskSo}
use Rattle.weave_core.specs.ActorSteps.{ActorSteps, HasStepped, IsIn, RetiredSo}
use Rattle.weave_core.specs.EndTexts.{retire_text}
use Rattle.weave_core.specs.States.{Asking, Dismissed, Eventless, Recovering, Retiring, Role, State, Switching}
use Rattle.weave_core.specs.States.{Undeclared, Writing, holder_in}
use Rattle.weave_core.specs.Steps.{StepsIn, with_event, with_role}
use Rattle.weave_core.specs.declared.actors.Actor.{Actor}
use Rattle.weave_core.specs.declared.actors.Task.TheVariants as task
use Rattle.weave_core.specs.declared.stepped.Stepped.{Stepped}
use Rattle.weave_core.specs.declared.stepped.Stepped.TheVariants as stepped
use Rattle.write_core.proofs.KeepsLemmas.{changed_same}
use Rattle.write_core.proofs.ViewLemmas.{joined_whole_range}
use Rattle.write_core.specs.Events.{IsToldOfRetirement, MayRetire, Retires, after_retirement, retired, retires_with}
use Rattle.write_core.specs.Invariant.{IsKept}
use Rattle.write_core.specs.World.{Actor as Doer, IsPart, World, at_range, met_at_range, stands_on, view_of}
use Rattle.write_core.specs.declared.retirements.Retirement.{Retirement}
use Rattle.write_core.specs.declared.retirements.Retirement.TheVariants.{LastServing, NotServing, WasRetired}

-- ---- what a retirement changes

module _ (config : Config) (world : World) (i : ℕ) (view : View) (range : Range)
    (kept : IsKept (store_of config) world) (part : IsPart (store_of config) world view)
    (there : range.0 < length world.truth.seen.ranges) where
  abbrev Change : Retirement → View → View
  Change = retires_with range i

  -- the range's history and how far it is seen, and nothing else
  record ChangesSo (answer : Retirement) : Type 0 where
    pub bits : (Change answer world.truth).bits ≡ world.truth.bits
    pub leaves : (leaf : Leaf) → of_leaf (Change answer world.truth) leaf ≡ of_leaf world.truth leaf
    pub ranges : (n : ℕ) → n ≢ range.0
        → of_range (Change answer world.truth) (range_numbered n) ≡ of_range world.truth (range_numbered n)
    pub history : history_retired i answer (of_range world.truth range) ≡ of_range (Change answer world.truth) range
    pub seen : sight_at_range range (history_retired i answer (of_range world.truth range)) (sight_of view.seen)
        (sight_of (world.ranges range.0).seen)
        ≡ sight_of (met_at_range world view range (Change answer)).seen

  abbrev met : View
  met = joined_view view (world.ranges range.0)

  met_is : sight_at_range range (of_range world.truth range) (sight_of view.seen) (sight_of (world.ranges range.0).seen)
      ≡ sight_of met.seen
  met_is = range_met (store_of config) world view range kept part

  met_whole : of_range met range ≡ of_range world.truth range
  met_whole = joined_whole_range view (world.ranges range.0) world.truth part.within (kept.ranges range).within range
      (kept.whole_ranges range)

  appends : (slot : Slot) → ChangesSo (WasRetired slot)
  appends slot =
      let entry : RangeEntry = range_entry.Retired i slot in
      record {
        bits = refl;
        leaves = λ leaf. refl;
        ranges = λ n apart. range_entry_other world.truth.seen range entry (range_numbered n) apart;
        history = sym (range_entry_same world.truth.seen range entry there);
        seen = range_noted_over range (range_sight (of_range world.truth range))
            (range_sight (of_range world.truth range ++ entry ∷ [])) (sight_of view.seen)
            (sight_of (world.ranges range.0).seen) (sight_of met.seen) met_is
            ∙ ap (λ (history : List RangeEntry). with_range_sight range (range_sight (history ++ entry ∷ []))
            (sight_of met.seen)) (sym met_whole)
            ∙ sym (range_seen range entry met.seen);
      }

  changes_so : (answer : Retirement) → ChangesSo answer
  changes_so (WasRetired slot) = appends slot
  changes_so NotServing = record {
    bits = refl;
    leaves = λ leaf. refl;
    ranges = λ n apart. refl;
    history = refl;
    seen = met_is;
  }
  changes_so (LastServing slot) = record {
    bits = refl;
    leaves = λ leaf. refl;
    ranges = λ n apart. refl;
    history = refl;
    seen = met_is;
  }

-- ---- an actor that retires a replica

abbrev pub retire_by_number : ℕ → Range → Leaf → Retire
retire_by_number i range leaf = record { number = i; range = range; leaf = leaf }

module _ (config : Config) (state : State (store_of config)) (i : ℕ) (store : Store) (range : Range) (leaf : Leaf)
    (sight : Sight) (begun : Bool)
    (here : IsIn config state i store
    (record { task = task.Retires (retire_by_number i range leaf); sight = sight; begun = begun })) where
  abbrev world : World
  world = state.core.world

  abbrev doer : Doer
  doer = world.actors i

  abbrev reader : Reader (store_of config)
  reader = state.core.readers i

  abbrev view : View
  view = view_of doer

  abbrev own : Retire
  own = retire_by_number i range leaf

  abbrev before : Actor
  before = record { task = task.Retires own; sight = sight; begun = begun }

  module _ (role_is : state.roles i ≡ Retiring range leaf)
      (so : IsRetiring config i doer reader range leaf own begun sight) where
    part : IsPart (store_of config) world view
    part = part_of (store_of config) world i doer (here.woven.world.actors i)

    in_truth : range.0 < length world.truth.seen.ranges
    in_truth = subst (λ (n : ℕ). range.0 < n) (sym here.woven.world.truth.held.all_ranges) so.there

    pub retire_there : range.0 < length store.ranges.items
    retire_there = subst (λ (n : ℕ). range.0 < n) (sym here.shared.ranges.count) so.there

    pub retire_seated : IsSeatedToRetire range store.ranges.items sight
    retire_seated seat was =
        let seat_so : IsRangeSo world range.0 seat = here.shared.ranges.each range.0 seat was in
        let parts = parts_alike (store_of config) world view (world.ranges range.0) part
        (here.woven.world.ranges range) in
        let same : length seat.sight.ranges ≡ length (world.ranges range.0).seen.ranges
        = ap (λ (s : Sight). length s.ranges) seat_so.sight
        ∙ length-map (world.ranges range.0).seen.ranges range_sight in
        let all : length (world.ranges range.0).seen.ranges ≡ length (ranges_in config.topology)
        = (here.woven.world.ranges range).sound.held.all_ranges in (
          subst (λ (s : Sight). AreAlike s seat.sight) (sym so.seen)
              (subst (λ (s : Sight). AreAlike (sight_of view.seen) s) (sym seat_so.sight) parts),
          subst (λ (n : ℕ). range.0 < n) (sym (same ∙ all)) so.there,
        )

    module _ (new : Store) (now : Sight) (seat left : RangeSeat)
        (was : slice_get store.ranges.items range.0 ≡ Some seat) (changes : ChangesRange range left store new) where
      seat_so : IsRangeSo world range.0 seat
      seat_so = here.shared.ranges.each range.0 seat was

      -- it is retired, or found not to serve, or to be the only one that does

      module _ (answer : Retirement) (did : RetiresRange own seat left sight now answer) where
        abbrev change : View → View
        change = retires_with range i answer

        abbrev next : View → Doer
        next = stands_on (record { pass = i; view = view })

        abbrev then' : World
        then' = at_range world i view range change None next

        abbrev After : State (store_of config)
        After = with_role (store_of config)
            (with_event (store_of config) state (Happens (Retires i range leaf answer))) i Dismissed

        is_then : after_retirement world i range leaf answer ≡ then'
        is_then = ap (λ (d : Doer). retired world i d range leaf answer) so.stands

        can : MayRetire world doer range leaf answer
        can = subst (λ (d : Doer). MayRetire world d range leaf answer) (sym so.stands) (record {
          there = in_truth;
          free = sym seat_so.holder ∙ did.free;
          tells = subst (λ (history : List RangeEntry). IsToldOfRetirement history leaf answer) seat_so.history
              did.told_so;
        })

        changed : ChangesSo config world i view range here.woven.world part in_truth answer
        changed = changes_so config world i view range here.woven.world part in_truth answer

        history_is : left.state.history ≡ history_retired i answer (of_range world.truth range)
        history_is = did.history ∙ ap (history_retired i answer) seat_so.history

        seen_then : now ≡ sight_of (met_at_range world view range change).seen
        seen_then = did.seen ∙ (λ k. sight_at_range range (history_is k) (so.seen k) (seat_so.sight k)) ∙ changed.seen

        shared_then : AreShared config then' new
        shared_then =
            shared_at_range config world i view range change changed.bits changed.leaves changed.ranges None next store
            new left here.shared changes (history_is ∙ changed.history) (did.holder ∙ did.free)
            (did.sight_there ∙ seen_then) (λ held. absurd cc)

        doer_then : After.core.world.actors i ≡ next (met_at_range world view range change)
        doer_then = ap (λ (w : World). w.actors i) is_then
            ∙ changed_same world.actors i (next (met_at_range world view range change))

        dismissed : IsDismissed config i (After.core.world.actors i) reader now
        dismissed = record {
          stands = stands_so i (met_at_range world view range change) (After.core.world.actors i) doer_then;
          seen = seen_then ∙ ap (λ (d : Doer). sight_of (view_of d).seen) (sym doer_then);
        }

        retired_so : HasStepped config state i new (record { task = task.Ended; sight = now; begun = true })
            (stepped.Ended (retire_text config.topology range leaf answer))
        retired_so = record {
          fault = no_fault config state i store before here refl;
          after = After;
          steps = subst (λ (role : Role). StepsIn (store_of config) role state i
              (stepped.Ended (retire_text config.topology range leaf answer)) After) (sym role_is)
              (inr (record { answer = answer; can = can; went = refl; becomes = refl }));
          shared = subst (λ (w : World). AreShared config w new) (sym is_then) shared_then;
          actor = subst (λ (role : Role). IsActorSo config i (After.core.world.actors i) reader role
              (Some (record { task = task.Ended; sight = now; begun = true })))
              (sym (changed_same state.roles i Dismissed)) dismissed;
        }

      -- or someone holds the range

      waits_so : IsHeldFrom seat.holder seat left sight now
          → HasStepped config state i new (record { task = task.Retires own; sight = now; begun = begun })
          stepped.Waits
      waits_so held =
          let other = some_of seat.holder held.held in
          let holds : world.range_holder range.0 ≡ Some other.0 = sym seat_so.holder ∙ other.1 in
          record {
            fault = no_fault config state i store before here refl;
            after = state;
            steps = subst (λ (role : Role). StepsIn (store_of config) role state i stepped.Waits state) (sym role_is)
                (inl (record {
                  other = other.0;
                  holds = ap (holder_in (store_of config) state i) role_is ∙ holds;
                  another = λ same. subst (λ (d : Doer). HoldsRange range.0 d) so.stands
                      (subst (λ (n : ℕ). HoldsRange range.0 (world.actors n)) same
                      (here.holders.range range.0 other.0 holds));
                  waits = refl;
                  same = refl;
                }));
            shared = same_at_range config world range store new left here.shared changes
                (subst (λ (s : RangeSeat). IsRangeSo world range.0 s) (sym held.seat) seat_so);
            actor = subst (λ (s : Sight). IsActorSo config i doer reader (state.roles i)
                (Some (record { task = task.Retires own; sight = s; begun = begun }))) (sym held.seen) here.actor;
          }

    pub retire_steps : (zones : List ZoneSpec) (new : Store) (now : Sight) (what : Option Retirement) (after : Actor)
        (how : Option Stepped) → zones ≡ config.topology → RetiresAt own store new sight now what
        → RetiredSo zones own what now begun after how → ActorSteps config state i new before after how
    retire_steps zones new now (Some what) after how same did h =
        subst (λ (o : Option Stepped). ActorSteps config state i new before after o)
        (sym (h.1 ∙ (λ k. Some (stepped.Ended (retire_text (same k) range leaf what)))))
        (subst (λ (a : Actor). HasStepped config state i new a
        (stepped.Ended (retire_text config.topology range leaf what))) (sym h.0)
        (retired_so new now did.before did.seat did.was did.changes what did.retires))
    retire_steps zones new now None after how same did h =
        subst (λ (o : Option Stepped). ActorSteps config state i new before after o) (sym h.1)
        (subst (λ (a : Actor). HasStepped config state i new a stepped.Waits) (sym h.0)
        (waits_so new now did.before did.seat did.was did.changes did.retires))

-- ---- by the role of an actor

module _ (config : Config) (i : ℕ) (doer : Doer) (reader : Reader (store_of config)) (retiring : Retire) (begun : Bool)
    (sight : Sight) where
  -- its role is to retire a replica
  pub record HasRetireRole (role : Role) : Type 0 where
    pub range : Range
    pub leaf : Leaf
    pub is : role ≡ Retiring range leaf
    pub so : IsRetiring config i doer reader range leaf retiring begun sight

  pub retire_role : (role : Role) → IsTaskSo config i doer reader role (task.Retires retiring) begun sight
      → HasRetireRole role
  retire_role Undeclared h = absurd h
  retire_role (Eventless text) h = absurd h
  retire_role (Switching leaf down) h = absurd h
  retire_role (Retiring range leaf) h = record { range = range; leaf = leaf; is = refl; so = h }
  retire_role Dismissed h = absurd h
  retire_role Recovering h = absurd h
  retire_role Writing h = absurd h
  retire_role Asking h = absurd h

module _ (config : Config) (state : State (store_of config)) (i : ℕ) (store : Store) (retiring : Retire)
    (sight : Sight) (begun : Bool)
    (here : IsIn config state i store (record { task = task.Retires retiring; sight = sight; begun = begun })) where
  abbrev Doer' : Doer
  Doer' = state.core.world.actors i

  abbrev Reader' : Reader (store_of config)
  Reader' = state.core.readers i

  abbrev InAs : Retire → Type 0
  InAs one = IsIn config state i store (record { task = task.Retires one; sight = sight; begun = begun })

  found : HasRetireRole config i Doer' Reader' retiring begun sight (state.roles i)
  found = retire_role config i Doer' Reader' retiring begun sight (state.roles i) here.actor

  same : retiring ≡ retire_by_number i found.range found.leaf
  same = found.so.retire_is

  abbrev So : Retire → Type 0
  So one = IsRetiring config i Doer' Reader' found.range found.leaf one begun sight

  here_so : InAs (retire_by_number i found.range found.leaf)
  here_so = subst InAs same here

  own_so : So (retire_by_number i found.range found.leaf)
  own_so = subst So same found.so

  pub asks_range_there : retiring.range.0 < length store.ranges.items
  asks_range_there = subst (λ (one : Retire). one.range.0 < length store.ranges.items) (sym same)
      (retire_there config state i store found.range found.leaf sight begun here_so found.is own_so)

  pub asks_range_seated : IsSeatedToRetire retiring.range store.ranges.items sight
  asks_range_seated = subst (λ (one : Retire). IsSeatedToRetire one.range store.ranges.items sight) (sym same)
      (retire_seated config state i store found.range found.leaf sight begun here_so found.is own_so)

  pub retiring_steps : (new : Store) (now : Sight) (what : Option Retirement) (after : Actor) (how : Option Stepped)
      → RetiresAt retiring store new sight now what
      → RetiredSo new.config.topology retiring what now begun after how
      → ActorSteps config state i new (record { task = task.Retires retiring; sight = sight; begun = begun }) after
      how
  retiring_steps new now what after how =
      subst (λ (one : Retire). RetiresAt one store new sight now what
      → RetiredSo new.config.topology one what now begun after how
      → ActorSteps config state i new (record { task = task.Retires one; sight = sight; begun = begun }) after how)
      (sym same)
      (λ did h. retire_steps config state i store found.range found.leaf sight begun here_so found.is own_so
      new.config.topology new now what after how
      (ap (λ (c : Config). c.topology) (did.changes.config ∙ here.shared.config_is)) did h)
