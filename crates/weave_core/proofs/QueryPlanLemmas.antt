-- The plan of a text is asked of a configuration's store.
use Rattle.std.proofs.Common.{◌≡◌, ℕ, List, Ok, sym, subst, refl}
use Rattle.mon_config.specs.declared.config.Config.{Config}
use Rattle.typed_trees.specs.declared.plans.Plan.{Plan}
use Rattle.query_traces.specs.Rounds.{areas_of, QuerySetting}
use Rattle.query_core.specs.Machine.{Query, new_query}
use Rattle.query_texts.specs.TextTypes.{IsPlanOver, plan_type, text_type}
use Rattle.core_store.specs.Agreements.{IsServed}
use Rattle.weave_core.specs.QueryPlans.{IsMachineSo}
use Rattle.leaf_store.proofs.BucketLemmas.{own_buckets}

module _ (config : Config) (served : IsServed config) (text : List ℕ) (plan : Plan)
    (typed_is : text_type config.schemas text ≡ Ok (plan_type plan))
    (over : IsPlanOver config.schemas config.buckets plan)
  where
    abbrev setting : QuerySetting
    setting = record { plan = plan; areas = areas_of config.topology; limit = config.limit }

    pub machine_so : (machine : Query) → machine ≡ new_query setting → IsMachineSo config text machine
    machine_so machine is =
        subst (IsMachineSo config text) (sym is) (record {
          typed = plan_type plan;
          typed_is = typed_is;
          asked = record {
            asked = record {
              lawful = served.lawful;
              replicas = served.replicas;
              areas = refl;
              metrics = served.metrics;
              targets = served.targets;
              query = over.query.query;
              spelled = over.query.spelled;
              durations = over.query.durations;
              typed = over.query.is;
              buckets = config.buckets;
              hinted = λ target metric key. own_buckets config.buckets config.schemas target metric key;
              promise = over.promise;
              listed = over.listed;
            };
            typed_so = refl;
            hints = over.hints;
            limit = refl;
          };
          buckets = over.below;
          new = refl;
        })
