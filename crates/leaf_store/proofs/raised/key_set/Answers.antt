use Rattle.std.proofs.Common.{◌≡◌, ◌∙◌, ℕ, Bool, List, Some, None, ap, sym, rules}
use Rattle.mon_hints.proofs.SetLemmas.{set_of_buckets}
use Rattle.mon_hints.specs.Hints.{series_buckets}
use Rattle.mon_hints.specs.Formulas.{is_among}
use Rattle.mon_schema.specs.Names.{metric_named, target_named}
use Rattle.leaf_store.proofs.BucketLemmas.{found_buckets, none_without_metric, none_without_target}
use Rattle.leaf_store.proofs.raised.key_set.Goals as goal

pub returns-in_default : goal.returns-in_default
returns-in_default c =
    let none : target_named c.args.key.now.target.schema c.args.schemas.now.targets ≡ None = search rules in
    record {
      set = λ bucket. ap (λ (f : ℕ → Bool). f bucket) c.new.ensures.none
          ∙ sym (none_without_target c.args.buckets bucket c.args.schemas.now c.args.key.now none);
    }

pub returns-in_default-metric : goal.returns-in_default-metric
returns-in_default-metric c =
    let found : target_named c.args.key.now.target.schema c.args.schemas.now.targets ≡ Some c.in-Some.target.now =
    search rules in
    let none : metric_named c.args.key.now.metric c.args.schemas.now.metrics ≡ None = search rules in
    record {
      set = λ bucket. ap (λ (f : ℕ → Bool). f bucket) c.new-in_default-metric.ensures.none
          ∙ sym (none_without_metric c.args.buckets bucket c.args.schemas.now c.args.key.now c.in-Some.target.now found
          none);
    }

pub returns : goal.returns
returns c =
    let key = c.args.key.now in
    let target = c.in-Some.target.now in
    let metric = c.in-Some-metric.metric.now in
    let found : target_named key.target.schema c.args.schemas.now.targets ≡ Some target = search rules in
    let here : metric_named key.metric c.args.schemas.now.metrics ≡ Some metric = search rules in
    record {
      set = λ bucket. ap (λ (f : ℕ → Bool). f bucket) (c.series_set.ensures.set
          ∙ set_of_buckets (series_buckets c.args.buckets target metric key))
          ∙ ap (λ (all : List ℕ). is_among bucket all)
          (sym (found_buckets c.args.buckets c.args.schemas.now key target metric found here));
    }
