-- A weave after a step of one of its actors.
use Rattle.std.proofs.Common.{◌≡◌, ◌≢◌, ℕ, zero, suc, ◌<◌, Option, Some, None, List, [], ◌∷◌, length, set, refl, sym}
use Rattle.std.proofs.Common.{ap, subst, ◌∙◌, inl, inr, arith}
use Rattle.std.specs.Prelude.{slice_get}
use Rattle.std.proofs.lemmas.Bool.{cases_eq}
use Rattle.std.proofs.lemmas.List.{length-set}
use Rattle.mon_config.specs.declared.config.Config.{Config}
use Rattle.weave_core.proofs.StepLemmas.{steps_leave}
use Rattle.weave_core.specs.ActorAgreements.{Agrees, IsActorSo, actor_numbered, flat}
use Rattle.weave_core.specs.ActorSteps.{HasStepped, IsIn}
use Rattle.core_theory.specs.Core.{Reader}
use Rattle.weave_core.specs.States.{Role, State}
use Rattle.core_store.specs.Agreements.{store_of}
use Rattle.weave_core.specs.declared.actors.Actor.{Actor}
use Rattle.weave_core.specs.declared.stepped.Stepped.{Stepped}
use Rattle.weave_core.specs.declared.weave.Weave.{Weave}
use Rattle.write_core.specs.World.{Actor as Doer}

-- ---- actors at their places

set_here : {X : Type 0} (xs : List X) (n : ℕ) (a b : X) → n < length xs → slice_get (set (set xs n a) n b) n ≡ Some b
set_here [] n a b h = absurd (omega (arith, h))
set_here (x ∷ xs) zero a b h = refl
set_here (x ∷ xs) (suc n) a b h = set_here xs n a b (omega (arith, h))

set_elsewhere : {X : Type 0} (xs : List X) (n m : ℕ) (a b : X) → m ≢ n
    → slice_get (set (set xs n a) n b) m ≡ slice_get xs m
set_elsewhere [] n m a b apart = refl
set_elsewhere (x ∷ xs) zero zero a b apart = absurd (apart refl)
set_elsewhere (x ∷ xs) zero (suc m) a b apart = refl
set_elsewhere (x ∷ xs) (suc n) zero a b apart = refl
set_elsewhere (x ∷ xs) (suc n) (suc m) a b apart = set_elsewhere xs n m a b (λ e. apart (ap suc e))

pub numbered_there : (actors : List (Option Actor)) (i : ℕ) (own : Actor) → actor_numbered actors i ≡ Some own
    → i < length actors
numbered_there [] i own e = absurd cc
numbered_there (one ∷ actors) zero own e = omega arith
numbered_there (one ∷ actors) (suc i) own e = let later = numbered_there actors i own e in omega (arith, later)

module _ (config : Config) (old : Weave) (state : State (store_of config)) (agrees : Agrees config old state) (i : ℕ)
    (own : Actor) (is : actor_numbered old.actors.items i ≡ Some own) where
  pub is_in : IsIn config state i old.store own
  is_in = record {
    woven = agrees.woven;
    holders = agrees.holders;
    shared = agrees.shared;
    actor = subst (λ (one : Option Actor). IsActorSo config i (state.core.world.actors i) (state.core.readers i)
        (state.roles i) one)
        is (agrees.actors.each i);
  }

  module _ (new : Weave) (stepped : Actor)
      (items : new.actors.items ≡ set (set old.actors.items i None) i (Some stepped)) where
    numbered_here : actor_numbered new.actors.items i ≡ Some stepped
    numbered_here = ap (λ (all : List (Option Actor)). flat (slice_get all i)) items
        ∙ ap flat (set_here old.actors.items i None (Some stepped) (numbered_there old.actors.items i own is))

    numbered_elsewhere : (j : ℕ) → j ≢ i → actor_numbered new.actors.items j ≡ actor_numbered old.actors.items j
    numbered_elsewhere j apart = ap (λ (all : List (Option Actor)). flat (slice_get all j)) items
        ∙ ap flat (set_elsewhere old.actors.items i j None (Some stepped) apart)

    pub stepped_agrees : (how : Stepped) → (h : HasStepped config state i new.store stepped how)
        → Agrees config new h.after
    stepped_agrees how h =
        let left = steps_leave (store_of config) state i agrees.woven agrees.holders how h.after h.steps in
        record {
          woven = left.woven;
          holders = left.holders;
          shared = h.shared;
          actors = record {
            count = ap length items ∙ length-set (set old.actors.items i None) i (Some stepped)
                ∙ length-set old.actors.items i None ∙ agrees.actors.count;
            each = λ j. elim (cases_eq j i) [
              | inl same ↦ subst (λ (n : ℕ). IsActorSo config n (h.after.core.world.actors n) (h.after.core.readers n)
                  (h.after.roles n) (actor_numbered new.actors.items n)) (sym same)
                  (subst (λ (one : Option Actor). IsActorSo config i (h.after.core.world.actors i)
                  (h.after.core.readers i)
                  (h.after.roles i) one) (sym numbered_here) h.actor)
              | inr apart ↦
                  subst (λ (doer : Doer). IsActorSo config j doer (h.after.core.readers j) (h.after.roles j)
                  (actor_numbered new.actors.items j)) (sym (left.others.actor j apart))
                  (subst (λ (reader : Reader (store_of config)). IsActorSo config j (state.core.world.actors j) reader
                  (h.after.roles j) (actor_numbered new.actors.items j)) (sym (left.others.reader j apart))
                  (subst (λ (role : Role). IsActorSo config j (state.core.world.actors j) (state.core.readers j) role
                  (actor_numbered new.actors.items j)) (sym (left.others.role j apart))
                  (subst (λ (one : Option Actor). IsActorSo config j (state.core.world.actors j) (state.core.readers j)
                  (state.roles j) one) (sym (numbered_elsewhere j apart)) (agrees.actors.each j))))
            ];
          };
        }
