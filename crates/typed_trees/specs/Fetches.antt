-- What a fetch gives, and what a filter may ask.
use Rattle.std.specs.Prelude.{ℕ, ◌+◌, true, false, List, [], ◌∷◌, ◌++◌, map, Option, Some, None, is_none, Bool, not}
use Rattle.mon_value.specs.declared.limits.TheConstants.{NUMBER_BITS, SUM_BITS}
use Rattle.mon_value.specs.declared.columns.Anchor.{Anchor}
use Rattle.mon_value.specs.declared.columns.Anchor.TheVariants as anchor
use Rattle.mon_value.specs.declared.columns.Column.{Column}
use Rattle.mon_value.specs.declared.schemas.Field.{Field}
use Rattle.mon_value.specs.declared.schemas.Kind.{Kind}
use Rattle.mon_value.specs.declared.schemas.Kind.TheVariants as kind
use Rattle.mon_value.specs.declared.schemas.MetricSchema.{MetricSchema}
use Rattle.mon_value.specs.declared.schemas.TargetSchema.{TargetSchema}
use Rattle.mon_value.specs.declared.values.FieldType.{FieldType}
use Rattle.mon_value.specs.declared.values.FieldType.TheVariants as field_type
use Rattle.mon_value.specs.declared.values.ValueType.{ValueType}
use Rattle.mon_value.specs.declared.values.ValueType.TheVariants as type
use Rattle.mon_schema.specs.Faults.{texts_repeat}
use Rattle.mon_schema.specs.Names.{SchemaLists, target_named, metric_named}
use Rattle.mql_ast.specs.declared.names.Name.{Name}
use Rattle.mon_value.specs.Tables.{column_names}
use Rattle.mon_value.specs.declared.values.FieldValue.{FieldValue}
use Rattle.mon_value.specs.declared.values.FieldValue.TheVariants as field
use Rattle.mql_ast.specs.Rows.{column_named}
use Rattle.mql_ast.specs.Trees.{PredicateTree, Compare, Like, Not, And, Or}
use Rattle.mql_ast.specs.declared.predicates.Comparison.{Comparison}
use Rattle.mql_ast.specs.declared.predicates.Comparison.TheVariants as comparison
use Rattle.typed_trees.specs.declared.faults.TypeFault.{TypeFault}
use Rattle.typed_trees.specs.declared.faults.TypeKind.TheVariants.{DuplicateColumn, UnknownMetric, UnknownSchema}
use Rattle.typed_trees.specs.declared.faults.TypeKind.TheVariants.{Mismatch, UnknownColumn}
use Rattle.typed_trees.specs.Faults.{fault_where, fault_at, type_word}
use Rattle.typed_trees.specs.declared.faults.TypeWord.{TypeWord}
use Rattle.typed_trees.specs.declared.faults.TypeWord.TheVariants as word

-- What a fetch gives: the columns of a target schema and a metric.

abbrev pub field_value_type : FieldType → ValueType
field_value_type field_type.Int = type.Int
field_value_type field_type.Bool = type.Bool
field_value_type field_type.Text = type.Text

abbrev pub key_column : Option Anchor → Field → Column
key_column anchor field = record {
  name = field.name;
  of = field_value_type field.of;
  key = true;
  anchor = anchor;
  cell_bits = NUMBER_BITS;
  total_bits = SUM_BITS;
}

-- the fields of a target, those from place `next` on, each anchored to itself
abbrev pub target_columns : List ℕ → ℕ → List Field → List Column
target_columns schema next [] = []
target_columns schema next (field ∷ fields) =
    key_column (Some (anchor.Field schema next)) field ∷ target_columns schema (next + 1) fields

-- the column of a metric's values
abbrev pub value_column : MetricSchema → Column
value_column metric = record {
  name = metric.column;
  of = metric.value;
  key = false;
  anchor = None;
  cell_bits = NUMBER_BITS;
  total_bits = SUM_BITS;
}

-- the target's fields and the metric's, which are keys, and then the value
abbrev pub columns_fetched : TargetSchema → MetricSchema → List Column
columns_fetched target metric =
    target_columns target.name 0 target.fields ++ (map (key_column None) metric.fields ++ value_column metric ∷ [])

-- the columns of a fetch, and none where a name is unknown
abbrev pub fetch_columns : Option TargetSchema → Option MetricSchema → List Column
fetch_columns (Some target) (Some metric) = columns_fetched target metric
fetch_columns (Some target) None = []
fetch_columns None metric = []

-- the kind of a metric; one that is unknown is taken for a gauge
abbrev pub kind_of : Option MetricSchema → Kind
kind_of (Some metric) = metric.kind
kind_of None = kind.Gauge

-- a fetch is refused for a name that is unknown, or where two columns have one name
abbrev pub fetch_faults : SchemaLists → ℕ → Name → Name → List TypeFault
fetch_faults held at schema metric =
    let target = target_named schema.text held.targets in
    let found = metric_named metric.text held.metrics in
    fault_where (is_none target) schema.at UnknownSchema
    ++ (fault_where (is_none found) metric.at UnknownMetric
    ++ fault_where (texts_repeat (column_names (fetch_columns target found))) at DuplicateColumn)

-- What a filter may ask.

-- what a literal's type is called
abbrev pub literal_word : FieldValue → TypeWord
literal_word (field.Int z) = word.Int
literal_word (field.Bool b) = word.Bool
literal_word (field.Text s) = word.Text

-- whether a comparison asks for equality or its opposite, and not for an order
abbrev pub is_equality : Comparison → Bool
is_equality comparison.Equal = true
is_equality comparison.NotEqual = true
is_equality comparison.Less = false
is_equality comparison.AtMost = false
is_equality comparison.Greater = false
is_equality comparison.AtLeast = false

-- whether a column of a type can be compared so with a literal
abbrev pub can_compare : ValueType → Comparison → FieldValue → Bool
can_compare type.Int how (field.Int z) = true
can_compare type.Int how literal = false
can_compare type.Text how (field.Text s) = true
can_compare type.Text how literal = false
can_compare type.Bool how (field.Bool b) = is_equality how
can_compare type.Bool how literal = false
can_compare (type.Dist bounds) how literal = false

abbrev pub is_text_type : ValueType → Bool
is_text_type type.Text = true
is_text_type type.Int = false
is_text_type type.Bool = false
is_text_type (type.Dist bounds) = false

-- a name of no column, or a column that doesn't pass a test on its type, beside what it stands or was wanted
abbrev pub column_faults : Option Column → ℕ → (ValueType → Bool) → TypeWord → List TypeFault
column_faults None at test wanted = fault_at at UnknownColumn ∷ []
column_faults (Some column) at test wanted =
    fault_where (not (test column.of)) at (Mismatch (type_word column.of) wanted)

-- the faults of a condition, each at the column's name
abbrev pub condition_faults : List Column → Name → (ValueType → Bool) → TypeWord → List TypeFault
condition_faults columns name test wanted = column_faults (column_named name.text columns) name.at test wanted

-- a name of no column
abbrev pub unknown_faults : List Column → Name → List TypeFault
unknown_faults columns name = fault_where (is_none (column_named name.text columns)) name.at UnknownColumn

-- numbers compare with numbers, texts with texts and patterns, and truth values by equality alone
abbrev pub predicate_faults : List Column → PredicateTree → List TypeFault
predicate_faults columns (Compare name how literal) =
    condition_faults columns name (λ of. can_compare of how literal.value) (literal_word literal.value)
predicate_faults columns (Like name pattern) = condition_faults columns name is_text_type word.Text
predicate_faults columns (Not p) = predicate_faults columns p
predicate_faults columns (And p q) = predicate_faults columns p ++ predicate_faults columns q
predicate_faults columns (Or p q) = predicate_faults columns p ++ predicate_faults columns q
