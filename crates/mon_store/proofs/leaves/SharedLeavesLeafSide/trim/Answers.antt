use Rattle.std.proofs.Common.{◌≡◌, ℕ, ℤ, to_z, of_z, w64, rules, sym, subst}
use Rattle.mon_value.specs.Histories.{leaf_numbered}
use Rattle.mon_value.specs.declared.histories.Entry.TheVariants as entry
use Rattle.mon_store.proofs.leaves.SharedLeavesLeafSide.trim.Goals as goal
use Rattle.owners.specs.Calls.{HasPut}
use Rattle.owners.specs.Puts.{MayTrim, pass_of}

pub trim-requires : goal.trim-requires
trim-requires g c = record {
  may = subst (λ (n : ℕ). MayTrim g.N.Names.setting c.args.know.now (leaf_numbered n) c.args.range c.args.slot)
      (sym c.cell.ensures.cell) c.requires.may;
}

pub returns : goal.returns
returns g c =
    let pass = pass_of c.args.know.now in
    let held : ℤ = to_z w64 (of_z w64 c.args.before) in
    let same : held ≡ c.args.before = search rules in
    record {
      put = subst (λ (bound : ℤ). HasPut c.args.leaf (entry.Trim pass c.args.range c.args.slot bound) c.trim.result
          c.args.know.now c.trim.new.know) same
          (subst (λ (n : ℕ). HasPut (leaf_numbered n) (entry.Trim pass c.args.range c.args.slot held) c.trim.result
          c.args.know.now c.trim.new.know) c.cell.ensures.cell c.trim.ensures.trimmed);
    }
