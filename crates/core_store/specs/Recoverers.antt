-- What is kept of a recovery: how far it is in the core, and how far it has seen histories.
use Rattle.std.specs.Prelude.{ℕ, ◌≡◌, ◌<◌, [], ◌∷◌}
use Rattle.std.specs.List.{AllByRecursion}
use Rattle.mon_config.specs.declared.config.Config.{Config}
use Rattle.mon_topo.specs.HeldHistories.{first_histories, AreWithin}
use Rattle.mon_topo.specs.Sights.{sight_of}
use Rattle.mon_topo.specs.Views.{View}
use Rattle.mon_topo.specs.declared.sights.Sight.{Sight}
use Rattle.core_store.specs.declared.recoveries.Recovering.{Recovering}
use Rattle.write_core.specs.Recovering.{Beginning, Carrying, CopyStage, Copying, Nearing, Over, Telling, Within}
use Rattle.write_core.specs.World.{Actor as Doer, Recovers, Recovery, view_of}

-- the recovery of an actor, by what is kept of it
abbrev pub recovery_of : ℕ → Recovering → View → Recovery
recovery_of i recovering view = record {
  pass = i;
  range = recovering.range;
  leaf = recovering.leaf;
  stage = recovering.machine;
  view = view;
}

-- a recovery that goes from replica to replica asks one
abbrev pub AsksOne : CopyStage → Type 0
AsksOne Beginning = Unit {0}
AsksOne (Copying founds []) = ⊥
AsksOne (Copying founds (source ∷ left)) = Unit {0}
AsksOne (Carrying rows) = Unit {0}
AsksOne (Nearing rows) = Unit {0}
AsksOne (Within rows at_root in_zone) = Unit {0}
AsksOne (Telling outcome) = Unit {0}
AsksOne (Over outcome) = Unit {0}

-- the buckets that are still to be raised are below so many
abbrev pub OpensBelow : ℕ → CopyStage → Type 0
OpensBelow count Beginning = Unit {0}
OpensBelow count (Copying founds sources) = Unit {0}
OpensBelow count (Carrying rows) = Unit {0}
OpensBelow count (Nearing rows) = Unit {0}
OpensBelow count (Within rows at_root in_zone) =
    AllByRecursion (λ bucket. bucket < count) at_root × AllByRecursion (λ bucket. bucket < count) in_zone
OpensBelow count (Telling outcome) = Unit {0}
OpensBelow count (Over outcome) = Unit {0}

-- an actor of the core is this recovery, in a store of a configuration, and has seen so much; where it has not begun,
-- this is the first replicas of each range and maybe more
pub record IsRecovererSo (config : Config) (i : ℕ) (doer : Doer) (recovering : Recovering) (sight : Sight) : Type 0 where
  pub number : recovering.number ≡ i
  pub recovers : doer ≡ Recovers (recovery_of i recovering (view_of doer))
  pub asks : AsksOne recovering.machine
  pub below : OpensBelow config.buckets recovering.machine
  pub since : recovering.machine ≡ Beginning → AreWithin (first_histories config.topology) (view_of doer).seen
  pub seen : sight ≡ sight_of (view_of doer).seen
