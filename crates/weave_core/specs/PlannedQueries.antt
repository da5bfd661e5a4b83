-- Queries whose plan is one of a configuration.
use Rattle.std.specs.Prelude.{◌≡◌, ◌<◌, ℕ}
use Rattle.std.specs.List.{AllByRecursion}
use Rattle.mon_config.specs.declared.config.Config.{Config}
use Rattle.weave_core.specs.declared.queries.Querying.{Querying}

-- it has the configuration's limit, and loads words of the configuration's buckets alone
pub record IsPlanned (config : Config) (querying : Querying) : Type 0 where
  pub limit : querying.machine.setting.limit ≡ config.limit
  pub buckets : AllByRecursion (λ (bucket : ℕ). bucket < config.buckets) querying.machine.setting.plan.buckets
