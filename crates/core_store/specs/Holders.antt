-- Who holds ranges and leaves: only writes and recoveries do, each its own range, from its lock to its acknowledgement,
-- and the leaf that it is inside of.
use Rattle.std.specs.Prelude.{ℕ, ◌≡◌, option_map, Option, Some, None}
use Rattle.mon_value.specs.declared.positions.Leaf.{Leaf}
use Rattle.write_core.specs.Program.{Acking, Ended, Entering, Inside, Locking, Reserving, Stage}
use Rattle.write_core.specs.Recovering.{Beginning, Carrying, CopyStage, Copying, Nearing, Over, Telling, Within}
use Rattle.write_core.specs.Rounds.{first_left}
use Rattle.write_core.specs.World.{Actor, Recovers, Stands, World, Writes}

-- the leaf that a write is inside of
abbrev pub leaf_inside : Stage → Option Leaf
leaf_inside Locking = None
leaf_inside (Reserving round) = None
leaf_inside (Entering round) = None
leaf_inside (Inside round at_root in_zone) = option_map (λ mark. mark.leaf) (first_left round.left)
leaf_inside (Acking verdict) = None
leaf_inside (Ended verdict) = None

-- whether a write holds its range
abbrev pub IsHolding : Stage → Type 0
IsHolding Locking = ⊥
IsHolding (Reserving round) = Unit {0}
IsHolding (Entering round) = Unit {0}
IsHolding (Inside round at_root in_zone) = Unit {0}
IsHolding (Acking verdict) = Unit {0}
IsHolding (Ended verdict) = ⊥

-- whether a recovery does
abbrev pub IsCopyHolding : CopyStage → Type 0
IsCopyHolding Beginning = ⊥
IsCopyHolding (Copying founds sources) = Unit {0}
IsCopyHolding (Carrying rows) = Unit {0}
IsCopyHolding (Nearing rows) = Unit {0}
IsCopyHolding (Within rows at_root in_zone) = Unit {0}
IsCopyHolding (Telling outcome) = Unit {0}
IsCopyHolding (Over outcome) = ⊥

-- whether it is inside of its leaf
abbrev pub IsCopyInside : CopyStage → Type 0
IsCopyInside Beginning = ⊥
IsCopyInside (Copying founds sources) = ⊥
IsCopyInside (Carrying rows) = ⊥
IsCopyInside (Nearing rows) = ⊥
IsCopyInside (Within rows at_root in_zone) = Unit {0}
IsCopyInside (Telling outcome) = ⊥
IsCopyInside (Over outcome) = ⊥

abbrev pub HoldsRange : ℕ → Actor → Type 0
HoldsRange range (Writes writer) = (writer.range.0 ≡ range) × IsHolding writer.stage
HoldsRange range (Recovers recovery) = (recovery.range.0 ≡ range) × IsCopyHolding recovery.stage
HoldsRange range (Stands stander) = ⊥

abbrev pub HoldsLeaf : ℕ → Actor → Type 0
HoldsLeaf leaf (Writes writer) = option_map (λ (inside : Leaf). inside.0) (leaf_inside writer.stage) ≡ Some leaf
HoldsLeaf leaf (Recovers recovery) = (recovery.leaf.0 ≡ leaf) × IsCopyInside recovery.stage
HoldsLeaf leaf (Stands stander) = ⊥

pub record AreHolders (world : World) : Type 0 where
  pub range : (range j : ℕ) → world.range_holder range ≡ Some j → HoldsRange range (world.actors j)
  pub leaf : (leaf j : ℕ) → world.leaf_holder leaf ≡ Some j → HoldsLeaf leaf (world.actors j)
