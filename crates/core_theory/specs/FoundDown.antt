-- What a write or a recovery says of leaves that were down, it found so by events of its own.
use Rattle.std.specs.Prelude.{ℕ, ◌≡◌, false, List}
use Rattle.std.specs.List.{AllByRecursion, flat_map}
use Rattle.mon_topo.specs.RangeHistories.{serving}
use Rattle.mon_topo.specs.Settings.{Setting}
use Rattle.mon_topo.specs.Views.{of_leaf, of_range}
use Rattle.mon_value.specs.LeafHistories.{IsDownAt}
use Rattle.mon_value.specs.declared.positions.Leaf.{Leaf}
use Rattle.write_core.specs.Invariant.{ComesOut, HaveFound}
use Rattle.write_core.specs.Marks.{found_in_mark, some_took}
use Rattle.write_core.specs.Noted.{HasNoted, MarkSo, OutcomeSo}
use Rattle.write_core.specs.Program.{Ended, Marked}
use Rattle.write_core.specs.Recovering.{Over}
use Rattle.write_core.specs.declared.copies.Outcome.{Outcome}
use Rattle.write_core.specs.World.{Recovers, Recovery, World, Writer, Writes}
use Rattle.write_core.specs.declared.marks.Mark.{Mark}

-- by an event of its own an actor found a leaf's history so long, and the leaf was down then
pub record IsFoundDown (world : World) (i : ℕ) (leaf : Leaf) (cut : ℕ) : Type 0 where
  pub noted : HasNoted (world.notes i) leaf cut
  pub down : IsDownAt (of_leaf world.truth leaf) cut

-- where a write has ended, each leaf of which it says that a replica there missed the row it found down, at that cut
abbrev pub FindsWhatItSays : World → ℕ → Type 0
FindsWhatItSays world i =
    (writer : Writer) (marks : List Mark) → world.actors i ≡ Writes writer → writer.stage ≡ Ended (Marked marks)
    → AllByRecursion (MarkSo (IsFoundDown world i)) marks

-- and where no replica took the row, these are the leaves of all replicas that serve, in order
abbrev pub FindsAllDown : World → ℕ → Type 0
FindsAllDown world i =
    (writer : Writer) (marks : List Mark) → world.actors i ≡ Writes writer → writer.stage ≡ Ended (Marked marks)
    → some_took marks ≡ false
    → HaveFound writer.view (serving (of_range writer.view writer.range)) (flat_map found_in_mark marks)

-- a recovery's replica was opened, on its leaf with the rows that were left of its range before, and at its range; or it
-- has seen what was in its way; and each leaf that it says was down it found down, at that cut
pub record RecoversRightly (setting : Setting) (world : World) (i : ℕ) (recovery : Recovery) (outcome : Outcome)
    : Type 0 where
  pub comes_out : ComesOut setting recovery outcome
  pub found : OutcomeSo (IsFoundDown world i) recovery.leaf outcome

abbrev pub RecoversAsItSays : Setting → World → ℕ → Type 0
RecoversAsItSays setting world i =
    (recovery : Recovery) (outcome : Outcome) → world.actors i ≡ Recovers recovery → recovery.stage ≡ Over outcome
    → RecoversRightly setting world i recovery outcome
