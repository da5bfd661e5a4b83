use Rattle.std.proofs.Common.{ℕ, sym, subst}
use Rattle.know.specs.Knowledge.{Knowledge}
use Rattle.mon_topo.specs.HeldHistories.{IsAtHome}
use Rattle.mon_value.specs.Histories.{range_numbered}
use Rattle.mon_store.proofs.stores.Store.write_in.Goals as goal
use Rattle.owners.specs.Puts.{pass_of}
use Rattle.range_cell.specs.Writes.{HasWritten}

pub write-written-requires-clause-home : goal.write-written-requires-clause-home
write-written-requires-clause-home g c =
    subst (λ (n : ℕ). IsAtHome g.N.Names.setting.held g.N.Names.setting.zones (range_numbered n) c.args.row.now)
    (sym c.range_cell-cell.ensures.cell) c.requires.home

pub returns-clause-written : goal.returns-clause-written
returns-clause-written g c =
    subst (λ (know : Knowledge).
    HasWritten g.N.BookName.book.leaves c.args.range c.args.row.now g.N.Names.setting.points (pass_of c.args.know.now)
    c.args.know.now know c.write-written.result)
    (sym c.confirm.ensures.kept)
    (subst (λ (n : ℕ). HasWritten g.N.BookName.book.leaves (range_numbered n) c.args.row.now g.N.Names.setting.points
    (pass_of c.args.know.now) c.args.know.now c.write-written.new.know c.write-written.result)
    c.range_cell-cell.ensures.cell c.write-written.ensures.written)
