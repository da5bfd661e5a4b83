-- The series of a row that fits its schemas has a value for each of their fields.
use Rattle.std.proofs.Common.{◌≡◌, true, ◌&&◌, List, length, sym}
use Rattle.std.specs.Cmp.Lexicographic.{as_long}
use Rattle.std.proofs.lemmas.Bool.{and_parts}
use Rattle.mon_schema.specs.Fits.{field_fits, fields_fit, row_fits, times_fit, value_fits}
use Rattle.mon_value.specs.declared.rows.Row.{Row}
use Rattle.mon_value.specs.declared.schemas.Field.{Field}
use Rattle.mon_value.specs.declared.schemas.MetricSchema.{MetricSchema}
use Rattle.mon_value.specs.declared.schemas.TargetSchema.{TargetSchema}
use Rattle.mon_value.specs.declared.values.FieldValue.{FieldValue}
use Rattle.plan_split.specs.Meeting.{HasFields}

as_many : (fields : List Field) (values : List FieldValue) → fields_fit fields values ≡ true
    → length values ≡ length fields
as_many fields values e =
    sym (as_long (λ (field : Field) (value : FieldValue). field_fits field.of value) fields values e)

pub fields_of_fitting : (target : TargetSchema) (metric : MetricSchema) (row : Row) → row_fits target metric row ≡ true
    → HasFields target metric row.key
fields_of_fitting target metric row e =
    let of_target = fields_fit target.fields row.key.target.fields in
    let of_metric = fields_fit metric.fields row.key.fields in
    let both = and_parts (of_target && of_metric)
    (times_fit metric.kind row.point.start row.point.end && value_fits metric.value row.point.value) e in
    let parts = and_parts of_target of_metric both.0 in
    record {
      of_target = as_many target.fields row.key.target.fields parts.0;
      of_metric = as_many metric.fields row.key.fields parts.1;
    }
