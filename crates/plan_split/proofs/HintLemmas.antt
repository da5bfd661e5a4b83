-- The buckets of a field of a series are among those of the series.
use Rattle.std.proofs.Common.{◌≡◌, ◌∙◌, ◌⊎◌, ℕ, ◌+◌, ◌==◌, Bool, true, false, not, List, [], ◌∷◌, ◌++◌, map, length}
use Rattle.std.proofs.Common.{slice_get, Option, Some, None, cond, refl, ap, sym, subst, inl, inr, append-nil, eq-eqb}
use Rattle.std.proofs.Common.{arith}
use Rattle.std.proofs.Math.Numerals.{one-add}
use Rattle.std.specs.List.{list_all, position_or_len}
use Rattle.std.proofs.lemmas.Bool.{and_from, or_left, or_right}
use Rattle.std.proofs.lemmas.List.Folds.{list_any-append}
use Rattle.mon_value.proofs.SameLemmas.{same_text-Decides}
use Rattle.mon_value.specs.Order.{field_as_value}
use Rattle.mon_value.specs.Same.{same_text}
use Rattle.mon_value.specs.declared.columns.Anchor.{Anchor}
use Rattle.mon_value.specs.declared.columns.Column.{Column}
use Rattle.mon_value.specs.declared.rows.SeriesKey.{SeriesKey}
use Rattle.mon_value.specs.declared.schemas.Field.{Field}
use Rattle.mon_value.specs.declared.schemas.MetricSchema.{MetricSchema}
use Rattle.mon_value.specs.declared.schemas.TargetSchema.{TargetSchema}
use Rattle.mon_value.specs.declared.values.FieldValue.{FieldValue}
use Rattle.mon_value.specs.declared.values.Value.{Value}
use Rattle.mon_hints.specs.Hints.{value_excerpts, bucket_of, field_buckets, metric_bucket, series_buckets}
use Rattle.mon_hints.specs.Hints.{value_buckets}
use Rattle.mon_hints.specs.Formulas.{AreAmong, is_among}
use Rattle.mql_ast.specs.Rows.{cell_named, place_of}
use Rattle.mon_value.specs.Tables.{column_names}
use Rattle.typed_trees.specs.Fetches.{columns_fetched, key_column, target_columns, value_column}
use Rattle.typed_trees.specs.Meaning.{series_cells}
use Rattle.plan_split.specs.Meeting.{HasFields}

-- ---- lists of buckets

among-left : (some more : List ℕ) → AreAmong some (some ++ more)
among-left some more n e =
    list_any-append (λ other. n == other) some more ∙ or_left (is_among n some) (is_among n more) e

among-right : (some more : List ℕ) → AreAmong more (some ++ more)
among-right some more n e =
    list_any-append (λ other. n == other) some more ∙ or_right (is_among n some) (is_among n more) e

pub among-self : (n : ℕ) (more : List ℕ) → is_among n (n ∷ more) ≡ true
among-self n more = or_left (n == n) (is_among n more) (eq-eqb n n refl)

-- what is made of each item is among some buckets
pub all_among : {X : Type 0} (made : X → ℕ) (items : List X) (buckets : List ℕ) → AreAmong (map made items) buckets
    → list_all (λ item. is_among (made item) buckets) items ≡ true
all_among made [] buckets all = refl
all_among made (item ∷ items) buckets all =
    and_from (is_among (made item) buckets) (list_all (λ other. is_among (made other) buckets) items)
    (all (made item) (among-self (made item) (map made items)))
    (all_among made items buckets (λ n e. all n (or_right (n == made item) (is_among n (map made items)) e)))

-- ---- columns by their names

names_at : (name : List ℕ) (columns : List Column)
    → place_of name columns ≡ position_or_len (same_text name) (column_names columns)
names_at name [] = refl
names_at name (column ∷ columns) = ap (λ n. cond (not (same_text name column.name)) (1 + n) 0) (names_at name columns)

abbrev pub field_names : List Field → List (List ℕ)
field_names fields = map (λ field. field.name) fields

target_names : (schema : List ℕ) (next : ℕ) (fields : List Field) (columns : List Column)
    → column_names (target_columns schema next fields ++ columns) ≡ field_names fields ++ column_names columns
target_names schema next [] columns = refl
target_names schema next (field ∷ fields) columns =
    ap (λ names. field.name ∷ names) (target_names schema (next + 1) fields columns)

key_names : (anchor : Option Anchor) (fields : List Field) (columns : List Column)
    → column_names (map (key_column anchor) fields ++ columns) ≡ field_names fields ++ column_names columns
key_names anchor [] columns = refl
key_names anchor (field ∷ fields) columns = ap (λ names. field.name ∷ names) (key_names anchor fields columns)

fetched_names : (target : TargetSchema) (metric : MetricSchema)
    → column_names (columns_fetched target metric)
    ≡ field_names target.fields ++ (field_names metric.fields ++ metric.column ∷ [])
fetched_names target metric =
    target_names target.name 0 target.fields (map (key_column None) metric.fields ++ value_column metric ∷ [])
    ∙ ap (λ names. field_names target.fields ++ names) (key_names None metric.fields (value_column metric ∷ []))

-- ---- the field of a name

-- a cell is a field's value, whose buckets are among some
pub record IsHinted (buckets : ℕ) (schema name : List ℕ) (cell : Value) (hints : List ℕ) : Type 0 where
  pub value : FieldValue
  pub is : cell ≡ field_as_value value
  pub among : AreAmong (value_buckets buckets schema name value) hints

with_more : (buckets : ℕ) (schema name : List ℕ) (cell : Value) (hints more : List ℕ)
    → IsHinted buckets schema name cell hints → AreAmong hints more → IsHinted buckets schema name cell more
with_more buckets schema name cell hints more hinted all = record {
  value = hinted.value;
  is = hinted.is;
  among = λ n e. all n (hinted.among n e);
}

-- behind a first column, as its name is or isn't the one that is sought
behind : (b : Bool) (cell first : Value) (cells : List Value) (place : ℕ)
    → slice_get (first ∷ cells) (cond (not b) (1 + place) 0) ≡ Some cell
    → ((b ≡ true) × (first ≡ cell)) ⊎ (slice_get cells place ≡ Some cell)
behind true cell first cells place e = inl (refl, cc)
behind false cell first cells place e = inr (sym (ap (slice_get (first ∷ cells)) (one-add place)) ∙ e)

-- a cell is that of a field, or stands behind the fields
found : (buckets : ℕ) (schema name : List ℕ) (cell : Value) (fields : List Field) (values : List FieldValue)
    (names : List (List ℕ)) (cells : List Value) → length values ≡ length fields
    → slice_get (map field_as_value values ++ cells) (position_or_len (same_text name) (field_names fields ++ names))
    ≡ Some cell
    → IsHinted buckets schema name cell (field_buckets buckets schema fields values)
    ⊎ (slice_get cells (position_or_len (same_text name) names) ≡ Some cell)
found buckets schema name cell [] [] names cells long e = inr e
found buckets schema name cell [] (value ∷ values) names cells long e = absurd (omega arith)
found buckets schema name cell (field ∷ fields) [] names cells long e = absurd (omega arith)
found buckets schema name cell (field ∷ fields) (value ∷ values) names cells long e =
    let own = value_buckets buckets schema field.name value in
    let others = field_buckets buckets schema fields values in
    elim (behind (same_text name field.name) cell (field_as_value value) (map field_as_value values ++ cells)
    (position_or_len (same_text name) (field_names fields ++ names)) e) [
      | inl here ↦ inl (record {
        value = value;
        is = sym here.1;
        among = λ n h. among-left own others n
            (subst (λ text. is_among n (value_buckets buckets schema text value) ≡ true)
            ((same_text-Decides name field.name).0 here.0) h);
      })
      | inr later ↦ elim (found buckets schema name cell fields values names cells (omega arith) later) [
        | inl hinted ↦ inl (with_more buckets schema name cell others (own ++ others) hinted (among-right own others))
        | inr further ↦ inr further
      ]
    ]

-- the cell of a name among the columns of a fetch is a field's, whose buckets the series has
pub field_hinted : (buckets : ℕ) (target : TargetSchema) (metric : MetricSchema) (key : SeriesKey) (name : List ℕ)
    (cell : Value) → HasFields target metric key
    → cell_named name (columns_fetched target metric) (series_cells key) ≡ Some cell
    → IsHinted buckets key.target.schema name cell (series_buckets buckets target metric key)
field_hinted buckets target metric key name cell fits e =
    let schema = key.target.schema in
    let of_target = field_buckets buckets schema target.fields key.target.fields in
    let of_metric = field_buckets buckets schema metric.fields key.fields in
    let first = metric_bucket buckets schema key.metric in
    let cells = map field_as_value key.fields in
    let names = field_names metric.fields ++ metric.column ∷ [] in
    let placed : slice_get (map field_as_value key.target.fields ++ cells)
    (position_or_len (same_text name) (field_names target.fields ++ names)) ≡ Some cell =
    sym (ap (slice_get (series_cells key)) (names_at name (columns_fetched target metric)
    ∙ ap (position_or_len (same_text name)) (fetched_names target metric))) ∙ e in
    elim (found buckets schema name cell target.fields key.target.fields names cells fits.of_target placed) [
      | inl hinted ↦ with_more buckets schema name cell of_target (series_buckets buckets target metric key) hinted
          (λ n h. among-right (first ∷ []) (of_target ++ of_metric) n (among-left of_target of_metric n h))
      | inr later ↦
          let placed_behind : slice_get (cells ++ []) (position_or_len (same_text name) names) ≡ Some cell =
          ap (λ all. slice_get all (position_or_len (same_text name) names)) (append-nil cells) ∙ later in
          elim (found buckets schema name cell metric.fields key.fields (metric.column ∷ []) [] fits.of_metric
          placed_behind) [
            | inl hinted ↦ with_more buckets schema name cell of_metric (series_buckets buckets target metric key)
                hinted
                (λ n h. among-right (first ∷ []) (of_target ++ of_metric) n (among-right of_target of_metric n h))
            | inr none ↦ absurd (cc)
          ]
    ]

-- and so its excerpts pass, whose buckets are tested for
pub excerpts_hinted : (buckets : ℕ) (schema name : List ℕ) (cell : Value) (hints : List ℕ)
    → (hinted : IsHinted buckets schema name cell hints)
    → list_all (λ excerpt. is_among (bucket_of buckets schema name excerpt) hints) (value_excerpts hinted.value) ≡ true
excerpts_hinted buckets schema name cell hints hinted =
    all_among (bucket_of buckets schema name) (value_excerpts hinted.value) hints hinted.among
