-- The set so far, with the buckets of the pairs that are left.
use Rattle.std.proofs.Common.{◌≡◌}
use Rattle.std.specs.Iterator.Adapters.{zip_first, zip_second}
use Rattle.std.specs.List.{zip}
use Rattle.std.specs.Slice.Iter.{iter_rest}
use Rattle.mon_hints.specs.BucketSets.{is_set, with_buckets}
use Rattle.mon_hints.specs.Labels.{buckets_of_pairs}
use Rattle.mon_hints.proofs.hints.insert_fields.Given as goal

abbrev pub invariant-loop-field : goal.invariant-loop-field
invariant-loop-field l =
    with_buckets (is_set l.set.words) (buckets_of_pairs l.buckets l.schema.state
    (zip (iter_rest (zip_first l.field-iterator)) (iter_rest (zip_second l.field-iterator))))
    ≡ with_buckets (is_set l.fn.set.words) (buckets_of_pairs l.buckets l.schema.state (zip l.fields l.values))
