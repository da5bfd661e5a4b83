-- A step of a weave, by what became of the actor that was taken out of its place and put back.
use Rattle.std.proofs.Common.{◌≡◌, ℕ, zero, suc, ◌<◌, Option, Some, None, List, [], ◌∷◌, Vec, Result, length, ok_or}
use Rattle.std.proofs.Common.{set, refl, sym, ap, subst, ◌∙◌}
use Rattle.std.proofs.lemmas.List.{length-set, with_items_is}
use Rattle.std.specs.Vec.{with_items}
use Rattle.mon_config.specs.declared.config.Config.{Config}
use Rattle.mon_value.specs.declared.refusals.Refusal.{Refusal}
use Rattle.mon_value.specs.declared.refusals.Refusal.TheVariants as refusal
use Rattle.weave_core.proofs.TaskLemmas.{here, no_actor}
use Rattle.weave_core.proofs.WeaveLemmas.{is_in, numbered_there, stepped_agrees}
use Rattle.weave_core.specs.ActorAgreements.{Agrees, AreActors, actor_numbered}
use Rattle.weave_core.specs.ActorSteps.{ActorSteps, HadEnded, HasStepped, IsIn, IsSomewhere}
use Rattle.core_store.specs.Agreements.{AreShared}
use Rattle.weave_core.specs.States.{State}
use Rattle.core_store.specs.Agreements.{store_of}
use Rattle.weave_core.specs.WeaveCalls.{IsWeaveKept, IsKeptUnless, IsRefusedSo, IsStepped, StepsSo}
use Rattle.weave_core.specs.declared.actors.Actor.{Actor}
use Rattle.weave_core.specs.declared.stepped.Stepped.{Stepped}
use Rattle.schedule_lines.specs.declared.calls.WeaveFault.{WeaveFault}
use Rattle.schedule_lines.specs.declared.calls.WeaveFault.TheVariants as fault
use Rattle.core_store.specs.declared.store.Store.{Store}
use Rattle.weave_core.specs.declared.weave.Weave.{Weave}

-- ---- places

-- to take nobody out of a place changes nothing
pub nobody_out : (actors : List (Option Actor)) (n : ℕ) → None ≡ actor_numbered actors n → set actors n None ≡ actors
nobody_out [] n e = refl
nobody_out (one ∷ actors) zero e = ap (λ (first : Option Actor). first ∷ actors) e
nobody_out (one ∷ actors) (suc n) e = ap (λ (rest : List (Option Actor)). one ∷ rest) (nobody_out actors n e)

-- nor does it to put one back
pub put_back : (actors : List (Option Actor)) (n : ℕ) (own : Actor) → Some own ≡ actor_numbered actors n
    → set (set actors n None) n (Some own) ≡ actors
put_back [] n own e = absurd cc
put_back (one ∷ actors) zero own e = ap (λ (first : Option Actor). first ∷ actors) e
put_back (one ∷ actors) (suc n) own e = ap (λ (rest : List (Option Actor)). one ∷ rest) (put_back actors n own e)

-- the actors when one place was changed
pub set_is : {Z : Type 0} (actors : Vec (Option Actor) Z) (changed : List (Option Actor)) (n : ℕ) (one : Option Actor)
    → changed ≡ set actors.items n one → (with_items actors changed).items ≡ set actors.items n one
set_is actors changed n one is =
    with_items_is actors changed (ap length is ∙ length-set actors.items n one ∙ sym actors.ok.0) ∙ is

-- all places are there still
pub set_there : (actors : List (Option Actor)) (i n : ℕ) (one : Option Actor) → n < length actors
    → n < length (set actors i one)
set_there actors i n one there = subst (λ (count : ℕ). n < count) (sym (length-set actors i one)) there

pub changed_there : {Z : Type 0} (actors : Vec (Option Actor) Z) (changed : List (Option Actor)) (i n : ℕ)
    (one : Option Actor)
    → changed ≡ set actors.items i one → n < length actors.items → n < length (with_items actors changed).items
changed_there actors changed i n one is there =
    subst (λ (all : List (Option Actor)). n < length all) (sym (set_is actors changed i one is))
    (set_there actors.items i n one there)

-- ---- nothing has changed

same_agrees : (config : Config) (old : Weave) (state : State (store_of config)) → Agrees config old state
    → (new : Weave)
    → AreShared config state.core.world new.store → new.actors.items ≡ old.actors.items → Agrees config new state
same_agrees config old state agrees new shared items = record {
  woven = agrees.woven;
  holders = agrees.holders;
  shared = shared;
  actors = subst (λ (actors : List (Option Actor)). AreActors config state actors) (sym items) agrees.actors;
}

module _ (old : Weave) (i : ℕ) (is : None ≡ actor_numbered old.actors.items i) (new : Weave) (store : new.store
    ≡ old.store)
    (items : new.actors.items ≡ set old.actors.items i None) where
  nobody_agrees : (config : Config) (state : State (store_of config)) → Agrees config old state → Agrees config new
      state
  nobody_agrees config state agrees = same_agrees config old state agrees new
      (subst (λ (one : Store). AreShared config state.core.world one) (sym store) agrees.shared)
      (items ∙ nobody_out old.actors.items i is)

  pub nobody_kept : IsWeaveKept old → IsWeaveKept new
  nobody_kept kept = record {
    config = kept.config;
    state = kept.state;
    agrees = nobody_agrees kept.config kept.state kept.agrees;
  }

  pub nobody_refused : (config : Config) (state : State (store_of config)) → Agrees config old state
      → IsRefusedSo config state i fault.NoActor new
  nobody_refused config state agrees = record {
    fault = no_actor config state i (state.roles i) (here old i None is config state agrees);
    agrees = nobody_agrees config state agrees;
  }

-- ---- an actor steps

module _ (old : Weave) (i : ℕ) (own : Actor) (is : Some own ≡ actor_numbered old.actors.items i) where
  pub in_place : i < length old.actors.items
  in_place = numbered_there old.actors.items i own (sym is)

  pub is_somewhere : IsWeaveKept old → IsSomewhere old.store own
  is_somewhere kept = record {
    config = kept.config;
    state = kept.state;
    i = i;
    is_in = is_in kept.config old kept.state kept.agrees i own (sym is);
  }

  module _ (new : Weave) (next : Actor) (items : new.actors.items ≡ set (set old.actors.items i None) i (Some next))
      (outcome : Option Stepped)
      (steps : (config : Config) (state : State (store_of config)) (k : ℕ) → IsIn config state k old.store own
      → ActorSteps config state k new.store own next outcome) where
    module _ (config : Config) (state : State (store_of config)) (agrees : Agrees config old state) where
      came_to : (what : Option Stepped) → outcome ≡ what → ActorSteps config state i new.store own next what
      came_to what e = subst (λ (one : Option Stepped). ActorSteps config state i new.store own next one) e
          (steps config state i (is_in config old state agrees i own (sym is)))

      pub steps_so : (how : Stepped) → outcome ≡ Some how → StepsSo config state i how new
      steps_so how e =
          let h : HasStepped config state i new.store next how = came_to (Some how) e in
          record {
            fault = h.fault;
            after = h.after;
            steps = h.steps;
            agrees = stepped_agrees config old state agrees i own (sym is) new next items how h;
          }

      pub ended_so : outcome ≡ None → IsRefusedSo config state i fault.Finished new
      ended_so e =
          let h : HadEnded config state i new.store own next = came_to None e in
          record {
            fault = h.fault;
            agrees = same_agrees config old state agrees new h.shared
                (items ∙ ap (λ (one : Actor). set (set old.actors.items i None) i (Some one)) h.same
                ∙ put_back old.actors.items i own is);
          }

    pub steps_kept : IsWeaveKept old → (how : Stepped) → outcome ≡ Some how → IsWeaveKept new
    steps_kept kept how e =
        let h : StepsSo kept.config kept.state i how new = steps_so kept.config kept.state kept.agrees how e in
        record { config = kept.config; state = h.after; agrees = h.agrees }

    pub ended_kept : IsWeaveKept old → outcome ≡ None → IsWeaveKept new
    ended_kept kept e =
        let h : IsRefusedSo kept.config kept.state i fault.Finished new = ended_so kept.config kept.state kept.agrees
        e in
        record { config = kept.config; state = kept.state; agrees = h.agrees }

    -- what the step is answered with
    module _ (answer : Result Stepped (Refusal WeaveFault)) (answered : answer ≡ ok_or outcome
        (refusal.Fault fault.Finished))
      where
        module _ (config : Config) (state : State (store_of config)) (agrees : Agrees config old state) where
          stepped_by : (what : Option Stepped) → outcome ≡ what
              → IsStepped config state i new (ok_or what (refusal.Fault fault.Finished))
          stepped_by (Some how) e = steps_so config state agrees how e
          stepped_by None e = ended_so config state agrees e

          pub is_stepped : IsStepped config state i new answer
          is_stepped = subst (λ (a : Result Stepped (Refusal WeaveFault)). IsStepped config state i new a)
              (sym answered)
              (stepped_by outcome refl)

        kept_by : IsWeaveKept old → (what : Option Stepped) → outcome ≡ what
            → IsKeptUnless (ok_or what (refusal.Fault fault.Finished)) new
        kept_by kept (Some how) e = steps_kept kept how e
        kept_by kept None e = ended_kept kept e

        pub is_kept : IsWeaveKept old → IsKeptUnless answer new
        is_kept kept = subst (λ (a : Result Stepped (Refusal WeaveFault)). IsKeptUnless a new) (sym answered)
            (kept_by kept outcome refl)
