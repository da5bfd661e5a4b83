use Rattle.std.proofs.Common.{ℕ, sym, subst}
use Rattle.mon_value.specs.Histories.{leaf_numbered}
use Rattle.mon_value.specs.declared.histories.Entry.TheVariants as entry
use Rattle.mon_store.proofs.leaves.SharedLeavesLeafSide.put.Goals as goal
use Rattle.owners.specs.Calls.{HasPut}
use Rattle.owners.specs.Puts.{MayPut, pass_of}

pub put-requires : goal.put-requires
put-requires g c = record {
  may = subst (λ (n : ℕ).
      MayPut g.N.Names.setting c.args.know.now (leaf_numbered n) c.args.range c.args.slot c.args.row)
      (sym c.cell.ensures.cell) c.requires.may;
}

pub returns : goal.returns
returns g c = record {
  put = subst (λ (n : ℕ). HasPut (leaf_numbered n)
      (entry.Put (pass_of c.args.know.now) c.args.range c.args.slot c.args.row) c.put.result c.args.know.now
      c.put.new.know)
      c.cell.ensures.cell c.put.ensures.put;
}
