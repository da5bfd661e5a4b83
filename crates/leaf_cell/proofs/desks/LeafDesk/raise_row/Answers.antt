use Rattle.std.proofs.Common.{ℕ, Bool, ap, subst, arith, ◌∙◌}
use Rattle.leaf_cell.specs.Raising.{HasRaisedRow}
use Rattle.leaf_cell.proofs.desks.LeafDesk.raise_row.Goals as goal

pub raise_set-requires : goal.raise_set-requires
raise_set-requires g c = record {
  below = λ bucket there. omega (arith, c.unraised_set-set.ensures.below bucket there, c.requires.goes_by.number);
}

pub returns-clause-raised : goal.returns-clause-raised
returns-clause-raised g c =
    subst (λ (set : ℕ → Bool). HasRaisedRow set c.args.self.now.owner.hints c.raise_set.new.self.owner.hints)
    c.unraised_set-set.ensures.set c.raise_set.ensures.raised

pub returns-clause-leads : goal.returns-clause-leads
returns-clause-leads g c =
    λ bucket there. c.raise_set.ensures.leads bucket
    (ap (λ (set : ℕ → Bool). set bucket) c.unraised_set-set.ensures.set ∙ there)
