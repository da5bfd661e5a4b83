-- The buckets of the rows so far were added.
use Rattle.std.proofs.Common.{take}
use Rattle.mon_hints.specs.BucketSets.{is_set}
use Rattle.mon_hints.specs.Hints.{rows_buckets}
use Rattle.leaf_store.specs.LeafStates.{key_buckets}
use Rattle.leaf_store.specs.within.Raises.{AddsBuckets}
use Rattle.leaf_store.proofs.raised.add_rows.Given as goal

abbrev pub invariant-loop-row : goal.invariant-loop-row
invariant-loop-row l = AddsBuckets (is_set l.fn.raised.words) (is_set l.raised.words)
    (rows_buckets (key_buckets l.buckets l.schemas) (take l.row-index l.rows))
