-- What a schema is refused for, the first fault in order, and what that prints as.
use Rattle.std.specs.Prelude.{ℕ, ℤ, ◌==◌, ◌&&◌, ◌||◌, Bool, true, false, not, nat_le, nat_lt, List, [], ◌∷◌, length}
use Rattle.std.specs.Prelude.{map, count_by, Option, Some, None, is_some, if◌then◌else◌, codes}
use Rattle.std.specs.List.{list_all, list_any}
use Rattle.mon_value.specs.Groups.{bounds_rise}
use Rattle.mon_value.specs.Same.{same_text}
use Rattle.mon_value.specs.declared.values.FieldType.{FieldType}
use Rattle.mon_value.specs.declared.values.FieldType.TheVariants as of
use Rattle.mon_value.specs.declared.values.ValueType.{ValueType}
use Rattle.mon_value.specs.declared.values.ValueType.TheVariants as type
use Rattle.mon_value.specs.declared.schemas.Kind.{Kind}
use Rattle.mon_value.specs.declared.schemas.Kind.TheVariants as kind
use Rattle.mon_value.specs.declared.schemas.Field.{Field}
use Rattle.mon_value.specs.declared.schemas.TargetSchema.{TargetSchema}
use Rattle.mon_value.specs.declared.schemas.MetricSchema.{MetricSchema}
use Rattle.mon_schema.specs.Names.{is_name, is_column_name, is_metric_name, SchemaLists, target_named, metric_named}
use Rattle.mon_schema.specs.declared.limits.TheConstants.{MOST_BOUNDS, MOST_FIELDS, MOST_METRICS, MOST_TARGETS}
use Rattle.mon_schema.specs.declared.faults.SchemaFault.{SchemaFault}
use Rattle.mon_schema.specs.declared.faults.SchemaFault.TheVariants as fault

-- What a schema is refused for, the first fault in order.

-- the same text stands in the list twice
abbrev pub texts_repeat : List (List ℕ) → Bool
texts_repeat [] = false
texts_repeat (text ∷ texts) = list_any (same_text text) texts || texts_repeat texts

abbrev pub is_text_field : FieldType → Bool
is_text_field of.Text = true
is_text_field of.Int = false
is_text_field of.Bool = false

abbrev pub names_of_fields : List Field → List (List ℕ)
names_of_fields fields = map (λ field. field.name) fields

-- every field has a lawful name
abbrev pub have_names : List Field → Bool
have_names fields = list_all (λ field. is_column_name field.name) fields

-- a text field that is marked as the location
abbrev pub is_location : Field → Bool
is_location field = field.location && is_text_field field.of

-- the most target schemas are held, or it has too many fields or none
abbrev pub is_target_over : SchemaLists → TargetSchema → Bool
is_target_over held schema =
    nat_le MOST_TARGETS (length held.targets)
    || ((length schema.fields == 0) || nat_lt MOST_FIELDS (length schema.fields))

abbrev pub is_target_named : TargetSchema → Bool
is_target_named schema = is_name schema.name && have_names schema.fields

-- its name is held, or two of its fields have one name
abbrev pub is_target_taken : SchemaLists → TargetSchema → Bool
is_target_taken held schema = is_some (target_named schema.name held.targets)
    || texts_repeat (names_of_fields schema.fields)

-- a target schema is refused for the first of these
abbrev pub target_fault : SchemaLists → TargetSchema → Option SchemaFault
target_fault held schema =
    if is_target_over held schema then Some fault.TooMany
    else if not (is_target_named schema) then Some fault.BadName
    else if is_target_taken held schema then Some fault.Duplicate
    else if nat_lt 1 (count_by (λ field. field.location) schema.fields) then Some fault.TwoLocations
    else if not (list_any is_location schema.fields) then Some fault.NoLocation
    else None

-- the most metrics are held, or it has too many fields
abbrev pub is_metric_over : SchemaLists → MetricSchema → Bool
is_metric_over held metric = nat_le MOST_METRICS (length held.metrics) || nat_lt MOST_FIELDS (length metric.fields)

abbrev pub is_metric_named : MetricSchema → Bool
is_metric_named metric =
    is_metric_name metric.name && (is_column_name metric.column && have_names metric.fields)

-- its name is held, or two of its columns have one name
abbrev pub is_metric_taken : SchemaLists → MetricSchema → Bool
is_metric_taken held metric =
    is_some (metric_named metric.name held.metrics) || texts_repeat (metric.column ∷ names_of_fields metric.fields)

-- at least one bound and not too many, each above the one before it
abbrev pub are_bounds : List ℤ → Bool
are_bounds bounds = (nat_le 1 (length bounds) && nat_le (length bounds) MOST_BOUNDS) && bounds_rise bounds

-- a distribution has lawful bounds
abbrev pub is_bounded : ValueType → Bool
is_bounded type.Int = true
is_bounded type.Bool = true
is_bounded type.Text = true
is_bounded (type.Dist bounds) = are_bounds bounds

-- points that speak of a time can be added up, and totals are numbers
abbrev pub is_kind_met : Kind → ValueType → Bool
is_kind_met kind.Gauge of = true
is_kind_met kind.Delta type.Int = true
is_kind_met kind.Delta type.Bool = false
is_kind_met kind.Delta type.Text = false
is_kind_met kind.Delta (type.Dist bounds) = true
is_kind_met kind.Cumulative type.Int = true
is_kind_met kind.Cumulative type.Bool = false
is_kind_met kind.Cumulative type.Text = false
is_kind_met kind.Cumulative (type.Dist bounds) = false

-- a metric is refused for the first of these
abbrev pub metric_fault : SchemaLists → MetricSchema → Option SchemaFault
metric_fault held metric =
    if is_metric_over held metric then Some fault.TooMany
    else if not (is_metric_named metric) then Some fault.BadName
    else if is_metric_taken held metric then Some fault.Duplicate
    else if not (is_bounded metric.value) then Some fault.BadBounds
    else if not (is_kind_met metric.kind metric.value) then Some fault.BadKind
    else None

-- What a refusal prints as.

abbrev pub schema_fault_text : SchemaFault → List ℕ
schema_fault_text fault.Duplicate = codes "Duplicate"
schema_fault_text fault.NoLocation = codes "NoLocation"
schema_fault_text fault.TwoLocations = codes "TwoLocations"
schema_fault_text fault.BadName = codes "BadName"
schema_fault_text fault.BadBounds = codes "BadBounds"
schema_fault_text fault.TooMany = codes "TooMany"
schema_fault_text fault.BadKind = codes "BadKind"
