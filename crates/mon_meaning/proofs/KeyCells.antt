-- Filters that name keys alone say of a series' points what they say of the series.
use Rattle.std.proofs.Common.{◌≡◌, ◌<◌, ℕ, zero, suc, ◌+◌, true, false, ◌&&◌, ◌||◌, not, Option, Some, None, List, []}
use Rattle.std.proofs.Common.{◌∷◌, ◌++◌, map, length, length-append, append_assoc, refl, sym, ap, subst, ◌∙◌, arith}
use Rattle.std.specs.Prelude.{slice_get}
use Rattle.std.specs.Option.{option_map_or}
use Rattle.std.proofs.lemmas.List.{length-map}
use Rattle.mon_value.proofs.SameLemmas.{same_text-Decides}
use Rattle.mon_value.proofs.PlainLemmas.{and_both}
use Rattle.mon_value.specs.Order.{field_as_value, cells_of}
use Rattle.mon_value.specs.Same.{same_text}
use Rattle.mon_value.specs.declared.columns.Column.{Column}
use Rattle.mon_value.specs.declared.rows.Row.{Row}
use Rattle.mon_value.specs.declared.rows.SeriesKey.{SeriesKey}
use Rattle.mon_value.specs.declared.schemas.Field.{Field}
use Rattle.mon_value.specs.declared.schemas.MetricSchema.{MetricSchema}
use Rattle.mon_value.specs.declared.schemas.TargetSchema.{TargetSchema}
use Rattle.mon_value.specs.declared.values.FieldValue.{FieldValue}
use Rattle.mon_value.specs.declared.values.Value.{Value}
use Rattle.mon_schema.specs.Fits.{field_fits, fields_fit, fits, fits_both, times_fit, value_fits}
use Rattle.mon_schema.specs.Names.{SchemaLists, metric_named, target_named}
use Rattle.mql_ast.specs.Rows.{place_of, is_compared, is_like, is_passed, predicate_truth}
use Rattle.mql_ast.specs.Trees as tree
use Rattle.mql_ast.specs.Trees.{PredicateTree}
use Rattle.typed_trees.specs.Fetches.{fetch_columns, key_column, target_columns, value_column}
use Rattle.typed_trees.specs.Meaning.{is_key_name, names_keys, series_cells}
use Rattle.typed_trees.specs.Nodes as node
use Rattle.typed_trees.specs.Nodes.{NodeTree, columns_of}
use Rattle.typed_trees.specs.Plans.{HasFetchColumns}
use Rattle.mon_meaning.specs.within.KeyFilters.{KeysDecide, fetches_series}

-- ---- cells in front of the value

key_in_front : (keys : List Column) (value : Column) (place : ℕ) → value.key ≡ false
    → option_map_or (λ (column : Column). column.key) (slice_get (keys ++ value ∷ []) place) false ≡ true → place
    < length keys
key_in_front [] value zero plain e = absurd cc
key_in_front [] value (suc place) plain e = absurd cc
key_in_front (key ∷ keys) value zero plain e = omega arith
key_in_front (key ∷ keys) value (suc place) plain e = omega (arith, key_in_front keys value place plain e)

front_cell : (cells : List Value) (value : Value) (place : ℕ) → place < length cells
    → slice_get (cells ++ value ∷ []) place ≡ slice_get cells place
front_cell [] value place below = absurd (omega arith)
front_cell (cell ∷ cells) value zero below = refl
front_cell (cell ∷ cells) value (suc place) below = front_cell cells value place (omega arith)

module _ (keys : List Column) (value : Column) (cells : List Value) (cell : Value) (plain : value.key ≡ false)
    (long : length keys ≡ length cells) where
  abbrev columns : List Column
  columns = keys ++ value ∷ []

  same_cell : (name : List ℕ) → is_key_name columns name ≡ true
      → slice_get (cells ++ cell ∷ []) (place_of name columns) ≡ slice_get cells (place_of name columns)
  same_cell name e =
      front_cell cells cell (place_of name columns)
      (omega (arith, long, key_in_front keys value (place_of name columns) plain e))

  -- a filter that names keys alone doesn't look at the last cell
  pub truth_of_keys : (by : PredicateTree) → names_keys columns by ≡ true
      → predicate_truth by columns (cells ++ cell ∷ []) ≡ predicate_truth by columns cells
  truth_of_keys (tree.Compare name how literal) e = ap (is_passed (is_compared how literal.value))
      (same_cell name.text e)
  truth_of_keys (tree.Like name pattern) e = ap (is_passed (is_like pattern.pieces)) (same_cell name.text e)
  truth_of_keys (tree.Not p) e = ap not (truth_of_keys p e)
  truth_of_keys (tree.And p q) e =
      let parts = and_both (names_keys columns p) (names_keys columns q) e in
      let left = truth_of_keys p parts.0 in
      let right = truth_of_keys q parts.1 in
      λ i. left i && right i
  truth_of_keys (tree.Or p q) e =
      let parts = and_both (names_keys columns p) (names_keys columns q) e in
      let left = truth_of_keys p parts.0 in
      let right = truth_of_keys q parts.1 in
      λ i. left i || right i

-- ---- the columns of a fetch

length-target_columns : (schema : List ℕ) (next : ℕ) (fields : List Field) → length (target_columns schema next fields)
    ≡ length fields
length-target_columns schema next [] = refl
length-target_columns schema next (field ∷ fields) = omega (arith, length-target_columns schema (next + 1) fields)

as_many : (fields : List Field) (values : List FieldValue) → fields_fit fields values ≡ true → length fields
    ≡ length values
as_many [] [] e = refl
as_many [] (value ∷ values) e = absurd cc
as_many (field ∷ fields) [] e = absurd cc
as_many (field ∷ fields) (value ∷ values) e =
    omega (arith, as_many fields values (and_both (field_fits field.of value) (fields_fit fields values) e).1)

-- a target schema and a metric that a series is of
record IsOf (held : SchemaLists) (key : SeriesKey) : Type 0 where
  target : TargetSchema
  metric : MetricSchema
  targeted : target_named key.target.schema held.targets ≡ Some target
  measured : metric_named key.metric held.metrics ≡ Some metric
  fields : length target.fields ≡ length key.target.fields
  more : length metric.fields ≡ length key.fields

of_by : (held : SchemaLists) (row : Row) (t : Option TargetSchema) (m : Option MetricSchema)
    → target_named row.key.target.schema held.targets ≡ t → metric_named row.key.metric held.metrics ≡ m
    → fits_both t m row ≡ true → IsOf held row.key
of_by held row None None e f fit = absurd cc
of_by held row None (Some metric) e f fit = absurd cc
of_by held row (Some target) None e f fit = absurd cc
of_by held row (Some target) (Some metric) e f fit =
    let halves = and_both (fields_fit target.fields row.key.target.fields && fields_fit metric.fields row.key.fields)
    (times_fit metric.kind row.point.start row.point.end && value_fits metric.value row.point.value) fit in
    let fields = and_both (fields_fit target.fields row.key.target.fields) (fields_fit metric.fields row.key.fields)
    halves.0 in
    record {
      target = target;
      metric = metric;
      targeted = e;
      measured = f;
      fields = as_many target.fields row.key.target.fields fields.0;
      more = as_many metric.fields row.key.fields fields.1;
    }

pub IsKeyOf : SchemaLists → SeriesKey → Type 0
IsKeyOf held key = IsOf held key

-- the key of a row that fits
pub key_fits : (held : SchemaLists) (row : Row) → fits held row ≡ true → IsKeyOf held row.key
unfolding IsKeyOf
key_fits held row fit = of_by held row (target_named row.key.target.schema held.targets)
    (metric_named row.key.metric held.metrics) refl refl fit

same_columns : (own others : List Column) (by : PredicateTree) (cells more : List Value) → own ≡ others
    → (names_keys others by ≡ true → predicate_truth by others more ≡ predicate_truth by others cells)
    → names_keys own by ≡ true → predicate_truth by own more ≡ predicate_truth by own cells
same_columns own others by cells more e decide =
    subst (λ cs. names_keys cs by ≡ true → predicate_truth by cs more ≡ predicate_truth by cs cells) (sym e) decide

-- the columns below a filter are those of the fetch
columns_below : (held : SchemaLists) (key : SeriesKey) (input : NodeTree) → HasFetchColumns held input
    → fetches_series input key ≡ true
    → columns_of input ≡ fetch_columns (target_named key.target.schema held.targets)
    (metric_named key.metric held.metrics)
columns_below held key (node.Fetch info schema metric) has e =
    let names = and_both (same_text schema key.target.schema) (same_text metric key.metric) e in
    let one : schema ≡ key.target.schema = (same_text-Decides schema key.target.schema).0 names.0 in
    let two : metric ≡ key.metric = (same_text-Decides metric key.metric).0 names.1 in
    has ∙ (λ i. fetch_columns (target_named (one i) held.targets) (metric_named (two i) held.metrics))
columns_below held key (node.Filter info by input) has e = has.0 ∙ columns_below held key input has.1 e
columns_below held key (node.Align info by input) has e = absurd cc
columns_below held key (node.GroupBy info by with input) has e = absurd cc
columns_below held key (node.Value info items input) has e = absurd cc
columns_below held key (node.Top info most column input) has e = absurd cc
columns_below held key (node.Join info left right) has e = absurd cc
columns_below held key (node.Union info left right) has e = absurd cc

keys_decide_in : (held : SchemaLists) (key : SeriesKey) → IsOf held key → (by : PredicateTree) (value : Value)
    → let columns = fetch_columns (target_named key.target.schema held.targets)
    (metric_named key.metric held.metrics) in
    names_keys columns by ≡ true → predicate_truth by columns (cells_of key value) ≡ predicate_truth by columns
    (series_cells key)
keys_decide_in held key of by value =
    let target = of.target in
    let metric = of.metric in
    let keys = target_columns target.name 0 target.fields ++ map (key_column None) metric.fields in
    let fetched : fetch_columns (target_named key.target.schema held.targets) (metric_named key.metric held.metrics)
    ≡ keys ++ value_column metric ∷ [] =
    (λ i. fetch_columns (of.targeted i) (of.measured i))
    ∙ sym (append_assoc (target_columns target.name 0 target.fields) (map (key_column None) metric.fields)
    (value_column metric ∷ [])) in
    let long : length keys ≡ length (series_cells key) =
    omega (
      arith,
      length-append (target_columns target.name 0 target.fields) (map (key_column None) metric.fields),
      length-append (map field_as_value key.target.fields) (map field_as_value key.fields),
      length-target_columns target.name 0 target.fields,
      length-map metric.fields (key_column None),
      length-map key.target.fields field_as_value,
      length-map key.fields field_as_value,
      of.fields,
      of.more,
    ) in
    same_columns _ (keys ++ value_column metric ∷ []) by (series_cells key) (cells_of key value) fetched
    (truth_of_keys keys (value_column metric) (series_cells key) value refl long by)

decide_below : (held : SchemaLists) (key : SeriesKey) → IsOf held key → (input : NodeTree) → HasFetchColumns held input
    → fetches_series input key ≡ true → KeysDecide input key
decide_below held key of (node.Fetch info schema metric) has e = tt
decide_below held key of (node.Filter info by input) has e = (
  (λ value. same_columns info.columns _ by (series_cells key) (cells_of key value)
      (has.0 ∙ columns_below held key input has.1 e) (keys_decide_in held key of by value)),
  decide_below held key of input has.1 e,
)
decide_below held key of (node.Align info by input) has e = tt
decide_below held key of (node.GroupBy info by with input) has e = tt
decide_below held key of (node.Value info items input) has e = tt
decide_below held key of (node.Top info most column input) has e = tt
decide_below held key of (node.Join info left right) has e = tt
decide_below held key of (node.Union info left right) has e = tt

-- keys decide of the points of a series whose key fits
pub keys_decide : (held : SchemaLists) (key : SeriesKey) → IsKeyOf held key → (input : NodeTree) → HasFetchColumns held
    input
    → fetches_series input key ≡ true → KeysDecide input key
unfolding IsKeyOf
keys_decide = decide_below
