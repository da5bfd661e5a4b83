-- What holds of the schemas that are held, and which rows fit them.
use Rattle.std.specs.Prelude.{ℕ, ◌+◌, ◌^◌, ◌==◌, ◌&&◌, ℤ, pos, neg_ℤ, int_le, int_lt, Bool, true, false, nat_le, nat_lt}
use Rattle.std.specs.Prelude.{List, length, sum, Option, Some, None, ◌≡◌, ◌≤◌, count_by}
use Rattle.std.specs.Cmp.Lexicographic.{pointwise}
use Rattle.std.specs.Ordering.{int_eq}
use Rattle.std.specs.List.{AllByRecursion, list_any}
use Rattle.mon_value.specs.declared.limits.TheConstants.{LONGEST_TEXT, NUMBER_BITS}
use Rattle.mon_value.specs.declared.values.FieldType.{FieldType}
use Rattle.mon_value.specs.declared.values.FieldType.TheVariants as of
use Rattle.mon_value.specs.declared.values.FieldValue.{FieldValue}
use Rattle.mon_value.specs.declared.values.FieldValue.TheVariants as field
use Rattle.mon_value.specs.declared.values.ValueType.{ValueType}
use Rattle.mon_value.specs.declared.values.ValueType.TheVariants as type
use Rattle.mon_value.specs.declared.values.Value.{Value}
use Rattle.mon_value.specs.declared.values.Value.TheVariants as value
use Rattle.mon_value.specs.declared.schemas.Kind.{Kind}
use Rattle.mon_value.specs.declared.schemas.Kind.TheVariants as kind
use Rattle.mon_value.specs.declared.schemas.Field.{Field}
use Rattle.mon_value.specs.declared.schemas.TargetSchema.{TargetSchema}
use Rattle.mon_value.specs.declared.schemas.MetricSchema.{MetricSchema}
use Rattle.mon_value.specs.declared.rows.Row.{Row}
use Rattle.mon_schema.specs.Names.{SchemaLists, target_named, metric_named}
use Rattle.mon_schema.specs.Faults.{is_bounded, is_kind_met, is_location}

-- Which rows are of schemas that are held.

-- a whole number of 64 bits, one of which is its sign
abbrev pub is_number : ℤ → Bool
is_number z = int_le (neg_ℤ (pos (2 ^ NUMBER_BITS))) z && int_lt z (pos (2 ^ NUMBER_BITS))

-- a whole second from the epoch on
abbrev pub is_time : ℤ → Bool
is_time z = int_le (pos 0) z && int_lt z (pos (2 ^ NUMBER_BITS))

-- a text has at most 1,024 bytes
abbrev pub text_fits : List ℕ → Bool
text_fits text = nat_le (length text) LONGEST_TEXT

-- a field's value is of the field's type
abbrev pub field_fits : FieldType → FieldValue → Bool
field_fits of.Int (field.Int z) = is_number z
field_fits of.Int b = false
field_fits of.Bool (field.Bool p) = true
field_fits of.Bool b = false
field_fits of.Text (field.Text s) = text_fits s
field_fits of.Text b = false

-- as many values as fields, each of its field's type
abbrev pub fields_fit : List Field → List FieldValue → Bool
fields_fit fields values = pointwise (λ field value. field_fits field.of value) fields values

-- a gauge's point starts at its end, and any other before it
abbrev pub is_start : Kind → ℤ → ℤ → Bool
is_start kind.Gauge start end = int_eq start end
is_start kind.Delta start end = int_lt start end
is_start kind.Cumulative start end = int_lt start end

-- the start and the end of a metric's point
abbrev pub times_fit : Kind → ℤ → ℤ → Bool
times_fit kind start end = is_time start && (is_time end && is_start kind start end)

-- one count for each bucket, of which there is one more than bounds, and a total of 63 bits
abbrev pub counts_fit : List ℤ → List ℕ → Bool
counts_fit bounds counts = (length counts == length bounds + 1) && nat_lt (sum counts) (2 ^ NUMBER_BITS)

-- a point's value is of the metric's type
abbrev pub value_fits : ValueType → Value → Bool
value_fits type.Int (value.Int z) = is_number z
value_fits type.Int b = false
value_fits type.Bool (value.Bool p) = true
value_fits type.Bool b = false
value_fits type.Text (value.Text s) = text_fits s
value_fits type.Text b = false
value_fits (type.Dist bounds) (value.Dist counts) = counts_fit bounds counts
value_fits (type.Dist bounds) b = false

-- a row is of a target schema and a metric
abbrev pub row_fits : TargetSchema → MetricSchema → Row → Bool
row_fits target metric row =
    (fields_fit target.fields row.key.target.fields && fields_fit metric.fields row.key.fields)
    && (times_fit metric.kind row.point.start row.point.end && value_fits metric.value row.point.value)

-- the same, where there are both
abbrev pub fits_both : Option TargetSchema → Option MetricSchema → Row → Bool
fits_both (Some target) (Some metric) row = row_fits target metric row
fits_both None metric row = false
fits_both (Some target) None row = false

-- a row fits where the schemas that it names are held, and it is of them
abbrev pub fits : SchemaLists → Row → Bool
fits held row =
    fits_both (target_named row.key.target.schema held.targets) (metric_named row.key.metric held.metrics) row

-- What holds of each metric that schemas hold.

-- each is a number of 64 bits
abbrev pub AreNumbers : List ℤ → Type 0
AreNumbers numbers = AllByRecursion (λ z. is_number z ≡ true) numbers

-- the bounds of a distribution are numbers of 64 bits
abbrev pub HasNumbers : ValueType → Type 0
HasNumbers type.Int = Unit {0}
HasNumbers type.Bool = Unit {0}
HasNumbers type.Text = Unit {0}
HasNumbers (type.Dist bounds) = AreNumbers bounds

-- a metric as schemas take it
pub record IsHeld (metric : MetricSchema) : Type 0 where
  pub numbers : HasNumbers metric.value
  pub bounded : is_bounded metric.value ≡ true
  pub met : is_kind_met metric.kind metric.value ≡ true

abbrev pub AreMetricsHeld : List MetricSchema → Type 0
AreMetricsHeld metrics = AllByRecursion IsHeld metrics

-- What holds of each target schema that schemas hold.

-- a schema that says of each target where it is: one field is marked as the location, and it is a text
pub record TellsLocation (schema : TargetSchema) : Type 0 where
  pub once : count_by (λ field. field.location) schema.fields ≤ 1
  pub some : list_any is_location schema.fields ≡ true

abbrev pub AllTellLocations : List TargetSchema → Type 0
AllTellLocations targets = AllByRecursion TellsLocation targets
