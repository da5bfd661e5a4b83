-- the rooms that are left are those of the marks that are left
use Rattle.std.proofs.Common.{ℕ, List, drop}
use Rattle.know.specs.Knowledge.{Knowledge}
use Rattle.mon_value.specs.declared.positions.Range.{Range}
use Rattle.mon_value.specs.declared.positions.SlotLeaf.{SlotLeaf}
use Rattle.range_cell.specs.Stages.{IsWithdrawing, IsWithdrawn}
use Rattle.range_cell.proofs.loops.cancel_all.Given as goal

abbrev pub invariant-loop-mark : goal.invariant-loop-mark
invariant-loop-mark g l = record {
  somewhere : IsWithdrawn g.N.Names.setting l.know (drop l.mark-index l.marks);
  back : (range : Range) (pass : ℕ) (before : Knowledge) (replicas : List SlotLeaf)
      → IsWithdrawing range pass before replicas l.fn.know l.marks
      → IsWithdrawing range pass before replicas l.know (drop l.mark-index l.marks);
}
