-- the leaves so far were found down, and nothing else came of that
use Rattle.std.proofs.Common.{◌≡◌, map, take}
use Rattle.mon_value.specs.declared.positions.FoundDown.{FoundDown}
use Rattle.mon_value.specs.declared.positions.SlotLeaf.{SlotLeaf}
use Rattle.range_cell.proofs.LookingLemmas.{AllDown}
use Rattle.range_cell.specs.Recoveries.{IsLooking}
use Rattle.range_cell.proofs.desks.RangeDesk.copied.Given as goal

abbrev pub invariant-loop-source : goal.invariant-loop-source
invariant-loop-source g l = record {
  looking : IsLooking l.range l.fn.know.handed l.fn.know l.know;
  leaves : map (λ (found : FoundDown). found.leaf) l.founds.items
      ≡ map (λ (replica : SlotLeaf). replica.leaf) (take l.source-index l.sources);
  down : AllDown l.fn.know l.know l.founds.items;
}
