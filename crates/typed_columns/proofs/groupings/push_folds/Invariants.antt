-- What was made, given and found, in front of what is left.
use Rattle.std.proofs.Common.{◌≡◌, ◌++◌, drop}
use Rattle.std.specs.List.{flat_map}
use Rattle.typed_trees.specs.Faults.{first_with}
use Rattle.typed_trees.specs.Groupings.{aggregate_columns, aggregate_faults, aggregates_over}
use Rattle.typed_columns.proofs.groupings.push_folds.Given as goal

abbrev pub invariant-loop-aggregate : goal.invariant-loop-aggregate
invariant-loop-aggregate l = record {
  made : l.made ++ aggregates_over l.columns (drop l.aggregate-index l.aggregates)
      ≡ aggregates_over l.columns l.aggregates;
  given : l.given ++ aggregate_columns l.columns (drop l.aggregate-index l.aggregates)
      ≡ l.fn.given ++ aggregate_columns l.columns l.aggregates;
  faults : first_with l.found.first (flat_map (aggregate_faults l.columns) (drop l.aggregate-index l.aggregates))
      ≡ first_with l.fn.found.first (flat_map (aggregate_faults l.columns) l.aggregates);
}
