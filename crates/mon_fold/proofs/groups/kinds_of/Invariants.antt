-- the kinds so far and those that are left are all
use Rattle.std.proofs.Common.{◌≡◌, ◌++◌, drop, map}
use Rattle.mon_value.specs.declared.aggregates.Aggregate.{Aggregate}
use Rattle.mon_fold.proofs.groups.kinds_of.Given as goal

abbrev pub invariant-loop-aggregate : goal.invariant-loop-aggregate
invariant-loop-aggregate l = l.kinds ++ map (λ (aggregate : Aggregate). aggregate.what) (drop l.aggregate-index l.with)
    ≡ map (λ (aggregate : Aggregate). aggregate.what) l.with
