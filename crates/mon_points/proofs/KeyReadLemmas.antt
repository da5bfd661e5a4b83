-- The series of a record, from its parts.
use Rattle.std.proofs.Common.{◌≡◌, ◌+◌, List, ℕ, Ok, drop, length}
use Rattle.mon_points.specs.Records.{fields_read, key_read}
use Rattle.mon_value.specs.declared.schemas.MetricSchema.{MetricSchema}
use Rattle.mon_value.specs.declared.schemas.TargetSchema.{TargetSchema}
use Rattle.mon_value.specs.declared.values.FieldValue.{FieldValue}

-- its target's fields and its metric's stand in it one after another
pub key_is : (target : TargetSchema) (metric : MetricSchema) (cells : List (List ℕ)) (schema name : List ℕ)
    (of_target of_metric : List FieldValue) → fields_read 1 target.fields cells ≡ Ok of_target
    → fields_read (length target.fields + 1) metric.fields (drop (length target.fields) cells) ≡ Ok of_metric
    → schema ≡ target.name → name ≡ metric.name → key_read target metric cells ≡ Ok (record {
      target = record { schema = schema; fields = of_target };
      metric = name;
      fields = of_metric;
    })
unfolding key_read
key_is target metric cells schema name of_target of_metric first second same named = rw (first, second, same, named)
