use Rattle.std.proofs.Common.{subst}
use Rattle.mon_expr.specs.BoundSums.{CanTake}
use Rattle.mon_expr.proofs.bound_sums.Term.number.Goals as goal

pub percentile_at-requires : goal.percentile_at-requires
percentile_at-requires c = record {
  can = subst (λ term. CanTake term c.args.cells.now) c.in-Percentile.is
      c.requires.can;
}
