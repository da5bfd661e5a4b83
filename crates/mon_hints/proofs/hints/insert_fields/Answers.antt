use Rattle.std.proofs.Common.{sym, ap, ◌∙◌}
use Rattle.std.proofs.lemmas.Slice.Zip.{either_empty_from_Zip}
use Rattle.std.specs.Iterator.Adapters.{zip_first, zip_second}
use Rattle.std.specs.Slice.Iter.{iter_rest}
use Rattle.mon_hints.specs.BucketSets.{is_set, with_buckets}
use Rattle.mon_hints.specs.Labels.{buckets_of_pairs}
use Rattle.mon_hints.proofs.HintLemmas.{zip_ended}
use Rattle.mon_hints.proofs.hints.insert_fields.Goals as goal

pub returns : goal.returns
returns c =
    let l = c.loop-field in
    let left = l.field-iterator in
    let ended = zip_ended (iter_rest (zip_first left)) (iter_rest (zip_second left))
    (either_empty_from_Zip left c.next.new.self c.next.result c.in-None.is c.next.ensures.steps) in
    record {
      added = sym (ap (λ pairs. with_buckets (is_set l.set.words) (buckets_of_pairs c.args.buckets c.args.schema.state
          pairs)) ended)
          ∙ l.invariant;
    }
