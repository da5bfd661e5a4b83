-- What a step of a recovery comes to: its next event in the core, or nothing where someone else is in its way.
use Rattle.std.specs.Prelude.{ℕ, ◌≡◌, ◌≢◌, true, Option, Some, None}
use Rattle.core_store.specs.Holders.{AreHolders}
use Rattle.mon_config.specs.declared.config.Config.{Config}
use Rattle.mon_topo.specs.Sights.{sight_of}
use Rattle.mon_topo.specs.Views.{View}
use Rattle.mon_topo.specs.declared.sights.Sight.{Sight}
use Rattle.mon_value.specs.declared.positions.Leaf.{Leaf}
use Rattle.mon_value.specs.declared.positions.Range.{Range}
use Rattle.core_store.specs.Agreements.{AreShared}
use Rattle.core_store.specs.Recoverers.{IsRecovererSo, OpensBelow}
use Rattle.core_store.specs.NextAsks.{holder_for_actor, is_copy_past_lock}
use Rattle.core_store.specs.Agreements.{store_of}
use Rattle.core_store.specs.declared.recoveries.RecoverTurn.{RecoverTurn}
use Rattle.core_store.specs.declared.recoveries.RecoverTurn.TheVariants as turn
use Rattle.core_store.specs.declared.recoveries.Recovering.{Recovering}
use Rattle.core_store.specs.declared.store.Store.{Store}
use Rattle.write_core.specs.CopyPhases.{copy_ask_of}
use Rattle.write_core.specs.CopySteps.{CanCopy, copy_step}
use Rattle.write_core.specs.Invariant.{IsKept}
use Rattle.write_core.specs.Recovering.{Over, copied_after}
use Rattle.write_core.specs.declared.copies.CopyTold.{CopyTold}
use Rattle.write_core.specs.declared.copies.Outcome.{Outcome}
use Rattle.write_core.specs.World.{Recovers, Recovery, World, view_of}
use Rattle.write_core.specs.declared.copies.CopyAsk.TheVariants.{Finished}

-- a store and a recovery that goes on are as in a world of which all holds that every interleaving keeps
pub record IsOpening (config : Config) (world : World) (i : ℕ) (store : Store) (recovering : Recovering) (sight : Sight)
    : Type 0 where
  pub kept : IsKept (store_of config) world
  pub holders : AreHolders world
  pub shared : AreShared config world store
  pub recoverer : IsRecovererSo config i (world.actors i) recovering sight
  pub goes_on : copy_ask_of recovering.machine ≢ Finished

-- there is such a world
pub record IsOpeningSomewhere (store : Store) (recovering : Recovering) (sight : Sight) : Type 0 where
  pub config : Config
  pub world : World
  pub i : ℕ
  pub opening : IsOpening config world i store recovering sight

-- a recovery that was told so
abbrev pub recovering_then : Recovering → CopyTold → Recovering
recovering_then recovering answer = record {
  number = recovering.number;
  range = recovering.range;
  leaf = recovering.leaf;
  machine = copied_after recovering.machine answer;
}

-- a recovery that has ended
abbrev pub over_recovery : ℕ → Recovering → Outcome → View → Recovery
over_recovery i recovering outcome view = record {
  pass = i;
  range = recovering.range;
  leaf = recovering.leaf;
  stage = Over outcome;
  view = view;
}

module _ (config : Config) (world : World) (i : ℕ) where
  abbrev pub world_after_copy : CopyTold → World
  world_after_copy answer = copy_step (store_of config) world i answer

  -- its event came with this answer, and the store and how far it has seen are as they are then
  pub record HasCopied (store : Store) (sight : Sight) (answer : CopyTold) : Type 0 where
    pub can : CanCopy (store_of config) world i answer
    pub shared : AreShared config (world_after_copy answer) store
    pub sight_is : sight ≡ sight_of (view_of ((world_after_copy answer).actors i)).seen

  -- or another one holds what it needs, and nothing has changed
  pub record RecoverWaits (store : Store) (before now : Sight) : Type 0 where
    pub other : ℕ
    pub holds : holder_for_actor world (world.actors i) ≡ Some other
    pub another : other ≢ i
    pub shared : AreShared config world store
    pub seen : now ≡ before

  -- an event before the last one is answered so, by which no bucket beyond the last is to be raised
  abbrev pub AnswersSo : Recovering → Store → Sight → Sight → Option CopyTold → Type 0
  AnswersSo recovering new before now (Some answer) =
      HasCopied new now answer × OpensBelow config.buckets (copied_after recovering.machine answer)
  AnswersSo recovering new before now None = RecoverWaits new before now

  -- its event came, and it goes on
  pub record RecoverWent (store : Store) (recovering next : Recovering) (sight : Sight) : Type 0 where
    pub answer : CopyTold
    pub came : HasCopied store sight answer
    pub next_is : next ≡ recovering_then recovering answer
    pub recoverer : IsRecovererSo config i ((world_after_copy answer).actors i) next sight
    pub goes_on : copy_ask_of next.machine ≢ Finished
    pub past : is_copy_past_lock next.machine ≡ true

  -- or it has ended
  pub record RecoverEnded (store : Store) (before : Recovering) (sight : Sight) (range : Range) (leaf : Leaf)
      (outcome : Outcome) : Type 0 where
    pub answer : CopyTold
    pub came : HasCopied store sight answer
    pub over : (world_after_copy answer).actors i
        ≡ Recovers (over_recovery i before outcome (view_of ((world_after_copy answer).actors i)))
    pub range_is : range ≡ before.range
    pub leaf_is : leaf ≡ before.leaf

  abbrev pub RecoversSo : Recovering → Store → Sight → Sight → RecoverTurn → Type 0
  RecoversSo recovering new before now (turn.Went next) = RecoverWent new recovering next now
  RecoversSo recovering new before now (turn.Waits next) = (next ≡ recovering) × RecoverWaits new before now
  RecoversSo recovering new before now (turn.Ended range leaf outcome) =
      RecoverEnded new recovering now range leaf outcome
