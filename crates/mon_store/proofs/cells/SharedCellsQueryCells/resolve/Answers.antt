use Rattle.std.proofs.Common.{ℕ, subst}
use Rattle.mon_value.specs.Histories.{range_numbered}
use Rattle.range_cell.specs.Calls.{HasResolved}
use Rattle.mon_store.proofs.cells.SharedCellsQueryCells.resolve.Goals as goal

pub returns : goal.returns
returns g c = record {
  resolved = subst (λ (n : ℕ). HasResolved n c.args.range c.args.avoid.now c.resolve.result c.args.know.now
      c.resolve.new.know) c.store.inside.tables.sized.leaves
      (subst (λ (n : ℕ). HasResolved g.N.BookName.book.leaves (range_numbered n) c.args.avoid.now c.resolve.result
      c.args.know.now c.resolve.new.know) c.range_cell-cell.ensures.cell c.resolve.ensures.resolved);
}
