-- What was made, in front of what is left.
use Rattle.std.proofs.Common.{◌≡◌, ◌++◌, map, drop, None}
use Rattle.typed_trees.specs.Fetches.{key_column}
use Rattle.typed_columns.proofs.fetches.push_metric_keys.Given as goal

abbrev pub invariant-loop-field : goal.invariant-loop-field
invariant-loop-field l =
    l.columns ++ map (key_column None) (drop l.field-index l.fields)
    ≡ l.fn.columns ++ map (key_column None) l.fields
