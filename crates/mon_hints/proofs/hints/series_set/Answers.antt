use Rattle.std.proofs.Common.{◌≡◌, [], rules}
use Rattle.std.specs.List.{zip}
use Rattle.mon_hints.specs.BucketSets.{is_set, with_bucket, with_buckets}
use Rattle.mon_hints.specs.Labels.{bucket_behind, buckets_of_pairs, with_label}
use Rattle.mon_hints.specs.declared.fingerprints.TheConstants.{START}
use Rattle.mon_hints.proofs.HintLemmas.{series_filled}
use Rattle.mon_hints.proofs.hints.series_set.Goals as goal

pub returns : goal.returns
returns c =
    let buckets = c.args.buckets in
    let key = c.args.key.now in
    let target = c.args.target.now in
    let metric = c.args.metric.now in
    let empty = is_set c.new-set.result.words in
    let named = is_set c.insert_excerpt.new.set.words in
    let targets = is_set c.insert_fields.new.set.words in
    let whole = is_set c.insert_fields-2.new.set.words in
    let first : named ≡ with_bucket empty (bucket_behind buckets (with_label (with_label START key.target.schema) [])
    key.metric) =
    search rules in
    let second : targets ≡ with_buckets named (buckets_of_pairs buckets (with_label START key.target.schema)
    (zip target.fields key.target.fields)) =
    search rules in
    let third : whole ≡ with_buckets targets (buckets_of_pairs buckets (with_label START key.target.schema)
    (zip metric.fields key.fields)) =
    search rules in
    record {
      set = series_filled buckets target metric key empty named targets whole c.new-set.ensures.none first
          second third;
    }
