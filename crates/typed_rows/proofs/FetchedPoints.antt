-- The points of a fetch: their cells fit its columns, and each that is kept is of a series that meets the fetch.
use Rattle.std.proofs.Common.{◌≡◌, ◌∙◌, ◌≤◌, ℕ, zero, suc, ◌+◌, ◌^◌, Bool, true, false, ◌&&◌, ◌||◌, ◌==◌, not, nat_lt}
use Rattle.std.proofs.Common.{sum, Option, Some, None, List, [], ◌∷◌, ◌++◌, map, length, subst, refl, ap, sym, arith}
use Rattle.std.specs.Prelude.{slice_get}
use Rattle.std.specs.List.{AllByRecursion}
use Rattle.std.specs.Option.{option_map_or}
use Rattle.std.proofs.lemmas.List.{append_assoc}
use Rattle.mon_value.specs.Tables.{FitColumns, HasType}
use Rattle.mon_value.specs.Order.{field_as_value, cells_of}
use Rattle.mon_value.specs.Same.{same_text}
use Rattle.mon_value.specs.Values.{magnitude}
use Rattle.mon_value.specs.declared.columns.Column.{Column}
use Rattle.mon_value.specs.declared.rows.Row.{Row}
use Rattle.mon_value.specs.declared.rows.SeriesKey.{SeriesKey}
use Rattle.mon_value.specs.declared.schemas.Field.{Field}
use Rattle.mon_value.specs.declared.schemas.MetricSchema.{MetricSchema}
use Rattle.mon_value.specs.declared.schemas.TargetSchema.{TargetSchema}
use Rattle.mon_value.specs.declared.values.FieldType.{FieldType}
use Rattle.mon_value.specs.declared.values.FieldType.TheVariants as of
use Rattle.mon_value.specs.declared.values.FieldValue.{FieldValue}
use Rattle.mon_value.specs.declared.values.FieldValue.TheVariants as field
use Rattle.mon_value.specs.declared.values.Value.{Value}
use Rattle.mon_value.specs.declared.values.Value.TheVariants as value
use Rattle.mon_value.specs.declared.values.ValueType.{ValueType}
use Rattle.mon_value.specs.declared.values.ValueType.TheVariants as type
use Rattle.mon_value.proofs.SameLemmas.{same_text-Decides}
use Rattle.mon_schema.specs.Fits.{field_fits, fields_fit, fits, fits_both, row_fits, times_fit, value_fits}
use Rattle.mon_schema.specs.Names.{SchemaLists, metric_named, target_named}
use Rattle.mql_ast.specs.Rows.{cell_named, column_named, place_of, FitWidths, is_compared, is_like, is_passed}
use Rattle.mql_ast.specs.Rows.{predicate_truth}
use Rattle.mql_ast.specs.Trees as tree
use Rattle.mql_ast.specs.Trees.{PredicateTree}
use Rattle.typed_trees.specs.Fetches.{columns_fetched, field_value_type, key_column, target_columns, value_column}
use Rattle.typed_trees.specs.Meaning.{is_key_name, lets_in, names_keys, series_cells, is_fetched, is_point_kept}
use Rattle.typed_rows.proofs.JoinedRows.{FitColumns-append, FitWidths-append}
use Rattle.typed_rows.proofs.KnownSums.{cell_of}
use Rattle.typed_rows.proofs.MadeCells.{Side, back, front, side_of}
use Rattle.typed_rows.proofs.SumBounds.{number_within}
use Rattle.mon_value.proofs.PlainLemmas.{get_front, nothing_is, and_both, same_item}
use Rattle.std.proofs.lemmas.Bool.{eqb-true, ltb-true}

-- ---- rows of a target schema and a metric

-- the fields of a series are of the schema's and the metric's
pub record IsSeriesOf (target : TargetSchema) (metric : MetricSchema) (key : SeriesKey) : Type 0 where
  pub target_fields : fields_fit target.fields key.target.fields ≡ true
  pub fields : fields_fit metric.fields key.fields ≡ true

pub record IsRowOf (target : TargetSchema) (metric : MetricSchema) (row : Row) : Type 0 where
  pub series : IsSeriesOf target metric row.key
  pub value : value_fits metric.value row.point.value ≡ true

pub row_of_schemas : (target : TargetSchema) (metric : MetricSchema) (row : Row) → row_fits target metric row ≡ true
    → IsRowOf target metric row
row_of_schemas target metric row e =
    let parts = and_both (fields_fit target.fields row.key.target.fields && fields_fit metric.fields row.key.fields)
    (times_fit metric.kind row.point.start row.point.end && value_fits metric.value row.point.value) e in
    let fields = and_both (fields_fit target.fields row.key.target.fields) (fields_fit metric.fields row.key.fields)
    parts.0 in
    let point = and_both (times_fit metric.kind row.point.start row.point.end) (value_fits metric.value row.point.value)
    parts.1 in
    record {
      series = record { target_fields = fields.0; fields = fields.1 };
      value = point.1;
    }

-- a row that fits and is fetched is of the schemas that the fetch names
pub fetched_row : (held : SchemaLists) (schema metric : List ℕ) (target : TargetSchema) (found : MetricSchema)
    → target_named schema held.targets ≡ Some target → metric_named metric held.metrics ≡ Some found → (row : Row)
    → fits held row ≡ true
    → is_fetched schema metric row.key ≡ true → IsRowOf target found row
fetched_row held schema metric target found t m row e fetched =
    let parts = and_both (same_text schema row.key.target.schema) (same_text metric row.key.metric) fetched in
    let schema_same : schema ≡ row.key.target.schema = (same_text-Decides schema row.key.target.schema).0 parts.0 in
    let metric_same : metric ≡ row.key.metric = (same_text-Decides metric row.key.metric).0 parts.1 in
    let targets : target_named row.key.target.schema held.targets ≡ Some target =
    ap (λ name. target_named name held.targets) (sym schema_same) ∙ t in
    let metrics : metric_named row.key.metric held.metrics ≡ Some found =
    ap (λ name. metric_named name held.metrics) (sym metric_same) ∙ m in
    row_of_schemas target found row
    (sym (ap (λ o. fits_both o (metric_named row.key.metric held.metrics) row) targets
    ∙ ap (λ o. fits_both (Some target) o row) metrics) ∙ e)

-- ---- cells

field_typed : (of : FieldType) (v : FieldValue) → field_fits of v ≡ true
    → HasType (field_value_type of) (field_as_value v)
field_typed of.Int (field.Int z) e = tt
field_typed of.Int (field.Bool b) e = absurd cc
field_typed of.Int (field.Text s) e = absurd cc
field_typed of.Bool (field.Int z) e = absurd cc
field_typed of.Bool (field.Bool b) e = tt
field_typed of.Bool (field.Text s) e = absurd cc
field_typed of.Text (field.Int z) e = absurd cc
field_typed of.Text (field.Bool b) e = absurd cc
field_typed of.Text (field.Text s) e = tt

field_small : (of : FieldType) (v : FieldValue) → field_fits of v ≡ true → magnitude (field_as_value v) ≤ 2 ^ 63
field_small of.Int (field.Int z) e = number_within z e
field_small of.Int (field.Bool b) e = absurd cc
field_small of.Int (field.Text s) e = absurd cc
field_small of.Bool (field.Int z) e = absurd cc
field_small of.Bool (field.Bool b) e = omega arith
field_small of.Bool (field.Text s) e = absurd cc
field_small of.Text (field.Int z) e = absurd cc
field_small of.Text (field.Bool b) e = absurd cc
field_small of.Text (field.Text s) e = omega arith

target_typed : (schema : List ℕ) (next : ℕ) (fields : List Field) (values : List FieldValue)
    → fields_fit fields values ≡ true
    → FitColumns (target_columns schema next fields) (map field_as_value values)
target_typed schema next [] [] e = tt
target_typed schema next [] (v ∷ vs) e = absurd cc
target_typed schema next (f ∷ fs) [] e = absurd cc
target_typed schema next (f ∷ fs) (v ∷ vs) e =
    let parts = and_both (field_fits f.of v) (fields_fit fs vs) e in
    (field_typed f.of v parts.0, target_typed schema (next + 1) fs vs parts.1)

target_small : (schema : List ℕ) (next : ℕ) (fields : List Field) (values : List FieldValue)
    → fields_fit fields values ≡ true
    → FitWidths (target_columns schema next fields) (map field_as_value values)
target_small schema next [] values e = tt
target_small schema next (f ∷ fs) [] e = tt
target_small schema next (f ∷ fs) (v ∷ vs) e =
    let parts = and_both (field_fits f.of v) (fields_fit fs vs) e in
    (field_small f.of v parts.0, target_small schema (next + 1) fs vs parts.1)

metric_typed : (fields : List Field) (values : List FieldValue) → fields_fit fields values ≡ true
    → FitColumns (map (key_column None) fields) (map field_as_value values)
metric_typed [] [] e = tt
metric_typed [] (v ∷ vs) e = absurd cc
metric_typed (f ∷ fs) [] e = absurd cc
metric_typed (f ∷ fs) (v ∷ vs) e =
    let parts = and_both (field_fits f.of v) (fields_fit fs vs) e in
    (field_typed f.of v parts.0, metric_typed fs vs parts.1)

metric_small : (fields : List Field) (values : List FieldValue) → fields_fit fields values ≡ true
    → FitWidths (map (key_column None) fields) (map field_as_value values)
metric_small [] values e = tt
metric_small (f ∷ fs) [] e = tt
metric_small (f ∷ fs) (v ∷ vs) e =
    let parts = and_both (field_fits f.of v) (fields_fit fs vs) e in
    (field_small f.of v parts.0, metric_small fs vs parts.1)

-- the columns of a series' fields
abbrev pub series_columns : TargetSchema → MetricSchema → List Column
series_columns target metric = target_columns target.name 0 target.fields ++ map (key_column None) metric.fields

pub series_typed : (target : TargetSchema) (metric : MetricSchema) (key : SeriesKey) → IsSeriesOf target metric key
    → FitColumns (series_columns target metric) (series_cells key)
series_typed target metric key own =
    FitColumns-append (target_columns target.name 0 target.fields) (map (key_column None) metric.fields)
    (map field_as_value key.target.fields)
    (map field_as_value key.fields) (target_typed target.name 0 target.fields key.target.fields own.target_fields)
    (metric_typed metric.fields key.fields own.fields)

pub series_small : (target : TargetSchema) (metric : MetricSchema) (key : SeriesKey) → IsSeriesOf target metric key
    → FitWidths (series_columns target metric) (series_cells key)
series_small target metric key own =
    FitWidths-append (target_columns target.name 0 target.fields) (map (key_column None) metric.fields)
    (map field_as_value key.target.fields)
    (map field_as_value key.fields) (target_typed target.name 0 target.fields key.target.fields own.target_fields)
    (target_small target.name 0 target.fields key.target.fields own.target_fields)
    (metric_small metric.fields key.fields own.fields)

-- a fetch has the series' columns, and then the value's
pub columns_split : (target : TargetSchema) (metric : MetricSchema)
    → series_columns target metric ++ value_column metric ∷ [] ≡ columns_fetched target metric
columns_split target metric =
    append_assoc (target_columns target.name 0 target.fields) (map (key_column None) metric.fields)
    (value_column metric ∷ [])

-- ---- values of points

pub value_typed : (of : ValueType) (v : Value) → value_fits of v ≡ true → HasType of v
value_typed type.Int (value.Int z) e = tt
value_typed type.Int (value.Bool b) e = absurd cc
value_typed type.Int (value.Text s) e = absurd cc
value_typed type.Int (value.Dist counts) e = absurd cc
value_typed type.Bool (value.Int z) e = absurd cc
value_typed type.Bool (value.Bool b) e = tt
value_typed type.Bool (value.Text s) e = absurd cc
value_typed type.Bool (value.Dist counts) e = absurd cc
value_typed type.Text (value.Int z) e = absurd cc
value_typed type.Text (value.Bool b) e = absurd cc
value_typed type.Text (value.Text s) e = tt
value_typed type.Text (value.Dist counts) e = absurd cc
value_typed (type.Dist bounds) (value.Int z) e = absurd cc
value_typed (type.Dist bounds) (value.Bool b) e = absurd cc
value_typed (type.Dist bounds) (value.Text s) e = absurd cc
value_typed (type.Dist bounds) (value.Dist counts) e =
    eqb-true (length counts) (length bounds + 1)
    (and_both (length counts == length bounds + 1) (nat_lt (sum counts) (2 ^ 63)) e).0

pub value_small : (of : ValueType) (v : Value) → value_fits of v ≡ true → magnitude v ≤ 2 ^ 63
value_small type.Int (value.Int z) e = number_within z e
value_small type.Int (value.Bool b) e = absurd cc
value_small type.Int (value.Text s) e = absurd cc
value_small type.Int (value.Dist counts) e = absurd cc
value_small type.Bool (value.Int z) e = absurd cc
value_small type.Bool (value.Bool b) e = omega arith
value_small type.Bool (value.Text s) e = absurd cc
value_small type.Bool (value.Dist counts) e = absurd cc
value_small type.Text (value.Int z) e = absurd cc
value_small type.Text (value.Bool b) e = absurd cc
value_small type.Text (value.Text s) e = omega arith
value_small type.Text (value.Dist counts) e = absurd cc
value_small (type.Dist bounds) (value.Int z) e = absurd cc
value_small (type.Dist bounds) (value.Bool b) e = absurd cc
value_small (type.Dist bounds) (value.Text s) e = absurd cc
value_small (type.Dist bounds) (value.Dist counts) e =
    omega (
      arith,
      ltb-true (sum counts) (2 ^ 63)
          (and_both (length counts == length bounds + 1) (nat_lt (sum counts) (2 ^ 63)) e).1,
    )

-- ---- filters that name keys alone

key_test : (o : Option Column) → option_map_or (λ (c : Column). c.key) o false ≡ true → (c : Column) → o ≡ Some c
    → c.key ≡ true
key_test None e c is = absurd cc
key_test (Some d) e c is =
    let same : d ≡ c = same_item d c is in
    subst (λ (x : Column). x.key ≡ true) same e

record Known (o : Option Column) : Type 0 where
  column : Column
  is : o ≡ Some column

there_by : (o : Option Column) → option_map_or (λ (c : Column). c.key) o false ≡ true → Known o
there_by None e = absurd cc
there_by (Some c) e = record { column = c; is = refl }

one_place : (c d : Column) (k : ℕ) → slice_get (c ∷ []) k ≡ Some d → c ≡ d
one_place c d zero e = same_item c d e
one_place c d (suc k) e = absurd (nothing_is d e)

-- a key's cell is one of the series'
key_of_series : (columns : List Column) (v : Column) → v.key ≡ false → (cells : List Value)
    → FitColumns columns cells → (last : Value) (place : ℕ) (c : Column)
    → c.key ≡ true → Side columns (v ∷ []) place c → slice_get (cells ++ last ∷ []) place ≡ slice_get cells place
key_of_series columns v plain cells fit last place c key (front e) =
    let cell = cell_of columns cells fit place c e in
    get_front cells (last ∷ []) place cell.value cell.is ∙ sym cell.is
key_of_series columns v plain cells fit last place c key (back k is e) =
    let same : v ≡ c = one_place v c k e in
    let other : c.key ≡ false = subst (λ (x : Column). x.key ≡ false) same plain in
    absurd (no_both c.key key other)
  where
    no_both : (b : Bool) → b ≡ true → b ≡ false → ⊥
    no_both b h k = cc

key_cell_same : (columns : List Column) (v : Column) → v.key ≡ false → (cells : List Value)
    → FitColumns columns cells → (last : Value) (name : List ℕ)
    → is_key_name (columns ++ v ∷ []) name ≡ true
    → cell_named name (columns ++ v ∷ []) (cells ++ last ∷ []) ≡ cell_named name (columns ++ v ∷ []) cells
key_cell_same columns v plain cells fit last name e =
    let all = columns ++ v ∷ [] in
    let known = there_by (column_named name all) e in
    key_of_series columns v plain cells fit last (place_of name all) known.column
    (key_test (column_named name all) e known.column known.is)
    (side_of columns (v ∷ []) (place_of name all) known.column known.is)

-- a filter that names keys alone says the same of a point and of its series
truth_same : (columns : List Column) (v : Column) → v.key ≡ false → (cells : List Value) → FitColumns columns cells
    → (last : Value) (p : PredicateTree)
    → names_keys (columns ++ v ∷ []) p ≡ true
    → predicate_truth p (columns ++ v ∷ []) (cells ++ last ∷ []) ≡ predicate_truth p (columns ++ v ∷ []) cells
truth_same columns v plain cells fit last (tree.Compare name how literal) e =
    ap (λ o. is_passed (is_compared how literal.value) o) (key_cell_same columns v plain cells fit last name.text e)
truth_same columns v plain cells fit last (tree.Like name pattern) e =
    ap (λ o. is_passed (is_like pattern.pieces) o) (key_cell_same columns v plain cells fit last name.text e)
truth_same columns v plain cells fit last (tree.Not p) e =
    ap (λ b. not b) (truth_same columns v plain cells fit last p e)
truth_same columns v plain cells fit last (tree.And p q) e =
    let all = columns ++ v ∷ [] in
    let parts = and_both (names_keys all p) (names_keys all q) e in
    ap (λ b. b && predicate_truth q all (cells ++ last ∷ [])) (truth_same columns v plain cells fit last p parts.0)
    ∙ ap (λ b. predicate_truth p all cells && b) (truth_same columns v plain cells fit last q parts.1)
truth_same columns v plain cells fit last (tree.Or p q) e =
    let all = columns ++ v ∷ [] in
    let parts = and_both (names_keys all p) (names_keys all q) e in
    ap (λ b. b || predicate_truth q all (cells ++ last ∷ [])) (truth_same columns v plain cells fit last p parts.0)
    ∙ ap (λ b. predicate_truth p all cells || b) (truth_same columns v plain cells fit last q parts.1)

lets_by : (b truth : Bool) → (b ≡ true → truth ≡ true) → (not b || truth) ≡ true
lets_by true truth h = h refl
lets_by false truth h = refl

let_in_split : (columns : List Column) (v : Column) → v.key ≡ false → (key : SeriesKey)
    → FitColumns columns (series_cells key) → (p : PredicateTree)
    (last : Value) → predicate_truth p (columns ++ v ∷ []) (series_cells key ++ last ∷ []) ≡ true
    → lets_in p (columns ++ v ∷ []) key ≡ true
let_in_split columns v plain key fit p last e =
    lets_by (names_keys (columns ++ v ∷ []) p) (predicate_truth p (columns ++ v ∷ []) (series_cells key))
    (λ named. sym (truth_same columns v plain (series_cells key) fit last p named) ∙ e)

-- a filter that keeps a point lets its series in
pub kept_let_in : (target : TargetSchema) (metric : MetricSchema) (row : Row) → IsRowOf target metric row
    → (p : PredicateTree) (columns : List Column)
    → columns ≡ columns_fetched target metric → is_point_kept p columns row ≡ true → lets_in p columns row.key ≡ true
kept_let_in target metric row own p columns is kept =
    let split : series_columns target metric ++ value_column metric ∷ [] ≡ columns =
    columns_split target metric ∙ sym is in
    let P : List Column → Type 0 = λ all. predicate_truth p all (cells_of row.key row.point.value) ≡ true in
    let Q : List Column → Type 0 = λ all. lets_in p all row.key ≡ true in
    subst Q split
    (let_in_split (series_columns target metric) (value_column metric) refl row.key
    (series_typed target metric row.key own.series) p row.point.value
    (subst P (sym split) kept))
