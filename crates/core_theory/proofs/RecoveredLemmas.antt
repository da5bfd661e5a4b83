-- How recoveries come out, and which leaves writes found down that no replica took.
use Rattle.std.proofs.Common.{◌≡◌, ℕ, List, [], ◌∷◌, subst}
use Rattle.std.specs.List.{AllByRecursion as All}
use Rattle.mon_topo.specs.Settings.{Setting}
use Rattle.mon_topo.specs.Views.{IsViewWithin, View, of_leaf}
use Rattle.mon_value.specs.LeafHistories.{IsDownAt}
use Rattle.mon_value.specs.declared.positions.FoundDown.{FoundDown}
use Rattle.mon_value.specs.declared.positions.Leaf.{Leaf}
use Rattle.core_theory.specs.FoundDown.{FindsAllDown, IsFoundDown, RecoversAsItSays, RecoversRightly}
use Rattle.write_core.proofs.CopyAsking.{down_moves}
use Rattle.write_core.proofs.KeptLemmas.{ended_unavailable, over_comes_out}
use Rattle.write_core.proofs.StepLemmas.{recovery_of}
use Rattle.write_core.specs.Invariant.{ComesOut, IsKept, IsRecovery}
use Rattle.write_core.specs.Noted.{AreNoted, CopySo, FoundsSo, HasNoted, IsNotedBy, OutcomeSo}
use Rattle.write_core.specs.Recovering.{CopyStage, Over}
use Rattle.write_core.specs.declared.copies.Outcome.{Outcome}
use Rattle.write_core.specs.declared.copies.Outcome.TheVariants.{Denied, NoSource, NoTarget, Opens}
use Rattle.write_core.specs.World.{Actor, Recovers, Recovery, World}

module _ (setting : Setting) (world : World) (i : ℕ) (view : View) (within : IsViewWithin view world.truth) where
  found_one : (leaf : Leaf) (cut : ℕ) → HasNoted (world.notes i) leaf cut → IsDownAt (of_leaf view leaf) cut
      → IsFoundDown world i leaf cut
  found_one leaf cut noted down =
      record { noted = noted; down = down_moves view world.truth within leaf cut down }

  found_all : (founds : List FoundDown) → FoundsSo (HasNoted (world.notes i)) founds
      → All (λ found. IsDownAt (of_leaf view found.leaf) found.cut) founds → FoundsSo (IsFoundDown world i) founds
  found_all [] noted down = tt
  found_all (found ∷ founds) noted down =
      (found_one found.leaf found.cut noted.0 down.0, found_all founds noted.1 down.1)

module _ (setting : Setting) (world : World) (kept : IsKept setting world) (noted : AreNoted world) where
  module _ (i : ℕ) (recovery : Recovery) (is : world.actors i ≡ Recovers recovery) where
    own : IsRecovery setting world i recovery
    own = recovery_of setting world i recovery kept is

    found_by : (outcome : Outcome) → ComesOut setting recovery outcome
        → OutcomeSo (HasNoted (world.notes i)) recovery.leaf outcome
        → OutcomeSo (IsFoundDown world i) recovery.leaf outcome
    found_by (Opens slot) came said = tt
    found_by (Denied why) came said = tt
    found_by (NoSource founds) came said =
        found_all setting world i recovery.view own.part.within founds said came.down
    found_by (NoTarget cut) came said =
        found_one setting world i recovery.view own.part.within recovery.leaf cut said came

    noted_over : (outcome : Outcome) → recovery.stage ≡ Over outcome
        → OutcomeSo (HasNoted (world.notes i)) recovery.leaf outcome
    noted_over outcome over =
        let mine : IsNotedBy (world.notes i) (Recovers recovery)
        = subst (λ (actor : Actor). IsNotedBy (world.notes i) actor) is (noted i) in
        subst (λ (stage : CopyStage). CopySo (HasNoted (world.notes i)) recovery.leaf stage) over mine

    comes_out_rightly : (outcome : Outcome) → recovery.stage ≡ Over outcome
        → RecoversRightly setting world i recovery outcome
    comes_out_rightly outcome over =
        let came : ComesOut setting recovery outcome = over_comes_out setting world i recovery kept is outcome over in
        record { comes_out = came; found = found_by outcome came (noted_over outcome over) }

  pub recovers_all : (i : ℕ) → RecoversAsItSays setting world i
  recovers_all i recovery outcome is over = comes_out_rightly i recovery is outcome over

pub finds_all_down : (setting : Setting) (world : World) → IsKept setting world → (i : ℕ) → FindsAllDown world i
finds_all_down setting world kept i writer marks is ended none =
    ended_unavailable setting world i writer kept is marks ended none
