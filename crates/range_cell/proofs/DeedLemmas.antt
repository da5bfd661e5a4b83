-- How often a deed can still be done.
use Rattle.std.proofs.Common.{◌≡◌, ◌≤◌, ℕ, arith}
use Rattle.know.specs.declared.answers.Found.TheVariants as found
use Rattle.mon_value.specs.declared.positions.Leaf.{Leaf}
use Rattle.mon_value.specs.declared.positions.Slot.{Slot}
use Rattle.range_cell.proofs.NeededRowLemmas.{put_needs}
use Rattle.range_cell.specs.Deeds.{IsStocked}
use Rattle.range_cell.specs.Stages.{needed}
use Rattle.range_cell.specs.declared.deeds.Deed.{Deed}
use Rattle.range_cell.specs.declared.deeds.Deed.TheVariants as deed
use Rattle.write_core.specs.Program.{Stage, ask_of}
use Rattle.write_core.specs.declared.asks.WriteAsk.TheVariants as ask

-- less often too
pub stocked_less : (d : Deed) (count less : ℕ) → less ≤ count → IsStocked count d → IsStocked less d
stocked_less (deed.Puts copies) count less few stocked = omega (arith, few, stocked)
stocked_less (deed.Trims before) count less few stocked = tt

-- where a leaf is to be entered it can be done once
pub stocked_once : (d : Deed) (stage : Stage) (slot : Slot) (leaf : Leaf) → ask_of stage ≡ ask.Enter slot leaf
    → IsStocked (needed stage) d → IsStocked 1 d
stocked_once d stage slot leaf asks stocked =
    let some = put_needs stage slot leaf asks found.Up in
    stocked_less d (needed stage) 1 (omega (arith, some)) stocked
