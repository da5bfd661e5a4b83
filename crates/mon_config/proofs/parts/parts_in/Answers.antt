use Rattle.std.proofs.Common.{refl}
use Rattle.std.specs.Prelude.{codes}
use Rattle.serde_json.specs.View.{view}
use Rattle.mon_config.specs.Numbers.{is_bucket_count, is_limit}
use Rattle.mon_config.proofs.NumberInLemmas.{optional_passes}
use Rattle.mon_config.proofs.parts.parts_in.Goals as goal

-- each number passed its test, and so do the defaults
pub returns-clause-lawful : goal.returns-clause-lawful
returns-clause-lawful c =
    let d = view c.args.value.now in (
      optional_passes is_bucket_count 1024 (codes "buckets") d c.in_ok-buckets.buckets refl
          c.in_ok-buckets.ensures.spelled,
      optional_passes is_limit 1000000 (codes "limit") d c.in_ok-limit.limit refl c.in_ok-limit.ensures.spelled,
      optional_passes is_limit 1000000 (codes "range_points") d c.in_ok-range_points.range_points refl
          c.in_ok-range_points.ensures.spelled,
    )
