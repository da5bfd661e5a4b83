-- A weave that agrees with a state where one actor was put at its number.
use Rattle.std.proofs.Common.{◌≡◌, ◌≢◌, ℕ, zero, suc, ◌<◌, Option, Some, List, [], ◌∷◌, length, set, refl, sym, ap}
use Rattle.std.proofs.Common.{subst, ◌∙◌, inl, inr, arith}
use Rattle.std.specs.Prelude.{slice_get}
use Rattle.std.proofs.lemmas.Bool.{cases_eq}
use Rattle.mon_config.specs.declared.config.Config.{Config}
use Rattle.weave_core.proofs.QuerySeats.{Any, IsSameBut, leaf_stays, range_stays}
use Rattle.core_store.proofs.SeatLemmas.{words_stay}
use Rattle.weave_core.proofs.StepLemmas.{Leaves}
use Rattle.weave_core.specs.ActorAgreements.{Agrees, IsActorSo, actor_numbered}
use Rattle.core_store.specs.Agreements.{AreShared}
use Rattle.core_theory.specs.Core.{Reader}
use Rattle.weave_core.specs.States.{Role, State}
use Rattle.core_store.specs.Agreements.{store_of}
use Rattle.weave_core.specs.declared.actors.Actor.{Actor}
use Rattle.core_store.specs.declared.store.Store.{Store}
use Rattle.weave_core.specs.declared.weave.Weave.{Weave}
use Rattle.write_core.specs.World.{Actor as Doer, World}

-- ---- places

pub set_at : {X : Type 0} (xs : List X) (n : ℕ) (x : X) → n < length xs → slice_get (set xs n x) n ≡ Some x
set_at [] n x h = absurd (omega (arith, h))
set_at (y ∷ xs) zero x h = refl
set_at (y ∷ xs) (suc n) x h = set_at xs n x (omega (arith, h))

pub set_apart : {X : Type 0} (xs : List X) (n m : ℕ) (x : X) → m ≢ n → slice_get (set xs n x) m ≡ slice_get xs m
set_apart [] n m x apart = refl
set_apart (y ∷ xs) zero zero x apart = absurd (apart refl)
set_apart (y ∷ xs) zero (suc m) x apart = refl
set_apart (y ∷ xs) (suc n) zero x apart = refl
set_apart (y ∷ xs) (suc n) (suc m) x apart = set_apart xs n m x (λ e. apart (ap suc e))

-- ---- what actors share does not hang on them

abbrev pub with_actors : World → (ℕ → Doer) → World
with_actors world actors = record {
  truth = world.truth;
  leaves = world.leaves;
  ranges = world.ranges;
  leaf_holder = world.leaf_holder;
  range_holder = world.range_holder;
  actors = actors;
  notes = world.notes;
}

pub shared_beside : (config : Config) (world : World) (actors : ℕ → Doer) (store : Store) → AreShared config world store
    → AreShared config (with_actors world actors) store
shared_beside config world actors store h =
    let same : IsSameBut world (with_actors world actors) Any Any = record {
      truth = refl;
      leaf_holder = λ n. refl;
      range_holder = λ n. refl;
      leaves = λ n other. refl;
      ranges = λ n other. refl;
    } in
    record {
      config_is = h.config_is;
      served = h.served;
      words = words_stay config world (with_actors world actors) store.words store.words h.words refl refl;
      leaves = record {
        count = h.leaves.count;
        each = λ n seat got. leaf_stays config world (with_actors world actors) Any Any same n seat tt
            (h.leaves.each n seat got);
      };
      ranges = record {
        count = h.ranges.count;
        each = λ n seat got. range_stays config world (with_actors world actors) Any Any same n seat tt
            (h.ranges.each n seat got);
      };
      first = h.first;
    }

-- ---- one actor is put in its place

module _ (config : Config) (old new : Weave) (state left : State (store_of config)) (i : ℕ) (own : Actor) where
  pub agrees_at : Agrees config old state → Leaves (store_of config) state i left
      → AreShared config left.core.world new.store → length new.actors.items ≡ length old.actors.items
      → actor_numbered new.actors.items i ≡ Some own
      → ((j : ℕ) → j ≢ i → actor_numbered new.actors.items j ≡ actor_numbered old.actors.items j)
      → IsActorSo config i (left.core.world.actors i) (left.core.readers i) (left.roles i) (Some own)
      → Agrees config new left
  agrees_at agrees leaves shared count here elsewhere so = record {
    woven = leaves.woven;
    holders = leaves.holders;
    shared = shared;
    actors = record {
      count = count ∙ agrees.actors.count;
      each = λ j. elim (cases_eq j i) [
        | inl same ↦ subst (λ (n : ℕ). IsActorSo config n (left.core.world.actors n) (left.core.readers n)
            (left.roles n) (actor_numbered new.actors.items n)) (sym same)
            (subst (λ (one : Option Actor). IsActorSo config i (left.core.world.actors i) (left.core.readers i)
            (left.roles i) one) (sym here) so)
        | inr apart ↦
            subst (λ (doer : Doer). IsActorSo config j doer (left.core.readers j) (left.roles j)
            (actor_numbered new.actors.items j)) (sym (leaves.others.actor j apart))
            (subst (λ (reader : Reader (store_of config)). IsActorSo config j (state.core.world.actors j) reader
            (left.roles j) (actor_numbered new.actors.items j)) (sym (leaves.others.reader j apart))
            (subst (λ (role : Role). IsActorSo config j (state.core.world.actors j) (state.core.readers j) role
            (actor_numbered new.actors.items j)) (sym (leaves.others.role j apart))
            (subst (λ (one : Option Actor). IsActorSo config j (state.core.world.actors j) (state.core.readers j)
            (state.roles j) one) (sym (elsewhere j apart)) (agrees.actors.each j))))
      ];
    };
  }
