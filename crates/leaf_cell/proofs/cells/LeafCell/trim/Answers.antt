use Rattle.std.proofs.Common.{◌≡◌, rules, sym, subst}
use Rattle.mon_value.specs.Histories.{leaf_numbered}
use Rattle.mon_value.specs.declared.positions.Leaf.{Leaf}
use Rattle.owners.specs.Puts.{MayTrim}
use Rattle.leaf_cell.proofs.cells.LeafCell.trim.Goals as goal

pub trim-found-requires-clause-may : goal.trim-found-requires-clause-may
trim-found-requires-clause-may g c =
    let here : c.deref_mut.result.now.owner.leaf ≡ leaf_numbered c.args.self.now = search rules in
    subst (λ (l : Leaf). MayTrim g.N.Names.setting c.args.know.now l c.args.range c.args.slot) (sym here)
    c.requires.may
