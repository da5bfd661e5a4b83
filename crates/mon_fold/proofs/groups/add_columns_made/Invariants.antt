-- the columns so far and those of the aggregates that are left are all
use Rattle.std.proofs.Common.{◌≡◌, ◌++◌, drop}
use Rattle.mon_fold.specs.PartialGroups.{columns_made}
use Rattle.mon_fold.proofs.groups.add_columns_made.Given as goal

abbrev pub invariant-loop-aggregate : goal.invariant-loop-aggregate
invariant-loop-aggregate l = l.made ++ columns_made l.columns (drop l.aggregate-index l.with) ≡ l.fn.made
    ++ columns_made l.columns l.with
