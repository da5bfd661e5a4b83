-- Where a series meets a fetch, the fetch's formula holds of the series' buckets.
use Rattle.std.proofs.Common.{◌≡◌, ◌∙◌, ℕ, Bool, true, false, not, ◌||◌, List, [], ◌∷◌, ◌++◌, map, Some, cond, refl}
use Rattle.std.proofs.Common.{ap, sym, subst}
use Rattle.std.specs.List.{AllByRecursion}
use Rattle.std.proofs.lemmas.Bool.{and_from, and_parts, false≢true}
use Rattle.mon_value.proofs.SameLemmas.{same_text-Decides}
use Rattle.mon_value.specs.Same.{same_text}
use Rattle.mon_value.specs.declared.columns.Column.{Column}
use Rattle.mon_value.specs.declared.rows.SeriesKey.{SeriesKey}
use Rattle.mon_value.specs.declared.schemas.MetricSchema.{MetricSchema}
use Rattle.mon_value.specs.declared.schemas.TargetSchema.{TargetSchema}
use Rattle.mon_hints.specs.Formulas.{FormulaTree, holds, is_among}
use Rattle.mon_hints.specs.Hints.{field_buckets, metric_bucket, series_buckets}
use Rattle.mon_schema.specs.Names.{SchemaLists, metric_named, target_named}
use Rattle.mql_ast.specs.Rows.{predicate_truth}
use Rattle.typed_trees.specs.Fetches.{columns_fetched, fetch_columns}
use Rattle.typed_trees.specs.Meaning.{lets_in, meets, names_keys, series_cells, is_fetched}
use Rattle.typed_trees.specs.Nodes as node
use Rattle.typed_trees.specs.Nodes.{NodeTree, columns_of}
use Rattle.typed_trees.specs.Plans.{HasFetchColumns}
use Rattle.plan_split.specs.FetchFormulas.{fetch_formula, schema_fetched, both, predicate_formula}
use Rattle.plan_split.specs.Meeting.{AllHoldWhereMet, HasFields, HoldsWhereMet}
use Rattle.plan_split.proofs.HintLemmas.{among-self}
use Rattle.plan_split.proofs.JoinedLemmas.{holds-both}
use Rattle.plan_split.proofs.PredicateLemmas.{Holds, predicate_promise}

-- a series that is fetched is of the schema and of the metric
pub fetched : (schema metric : List ℕ) (key : SeriesKey) → is_fetched schema metric key ≡ true
    → (schema ≡ key.target.schema) × (metric ≡ key.metric)
fetched schema metric key e =
    let parts = and_parts (same_text schema key.target.schema) (same_text metric key.metric) e in
    ((same_text-Decides schema key.target.schema).0 parts.0, (same_text-Decides metric key.metric).0 parts.1)

pub schema_met : (fetch : NodeTree) (key : SeriesKey) → meets fetch key ≡ true
    → key.target.schema ≡ schema_fetched fetch
schema_met (node.Fetch info schema metric) key e = sym (fetched schema metric key e).0
schema_met (node.Filter info by input) key e =
    schema_met input key (and_parts (lets_in by info.columns key) (meets input key) e).1
schema_met (node.Align info by input) key e = absurd (false≢true e)
schema_met (node.GroupBy info by with input) key e = absurd (false≢true e)
schema_met (node.Value info items input) key e = absurd (false≢true e)
schema_met (node.Top info most column input) key e = absurd (false≢true e)
schema_met (node.Join info left right) key e = absurd (false≢true e)
schema_met (node.Union info left right) key e = absurd (false≢true e)

-- the schemas of a series, among those that are held
pub record IsOf (held : SchemaLists) (target : TargetSchema) (metric : MetricSchema) (key : SeriesKey) : Type 0 where
  pub of_target : target_named key.target.schema held.targets ≡ Some target
  pub of_metric : metric_named key.metric held.metrics ≡ Some metric
  pub fields : HasFields target metric key

pub columns_met : (held : SchemaLists) (fetch : NodeTree) (target : TargetSchema) (metric : MetricSchema)
    (key : SeriesKey) → HasFetchColumns held fetch → IsOf held target metric key → meets fetch key ≡ true
    → columns_of fetch ≡ columns_fetched target metric
columns_met held (node.Fetch info schema metric_name) target metric key has of e =
    let names = fetched schema metric_name key e in
    has
    ∙ ap (λ name. fetch_columns (target_named name held.targets) (metric_named metric_name held.metrics)) names.0
    ∙ ap (λ name. fetch_columns (target_named key.target.schema held.targets) (metric_named name held.metrics)) names.1
    ∙ ap (λ found. fetch_columns found (metric_named key.metric held.metrics)) of.of_target
    ∙ ap (λ found. fetch_columns (Some target) found) of.of_metric
columns_met held (node.Filter info by input) target metric key has of e =
    has.0
    ∙ columns_met held input target metric key has.1 of (and_parts (lets_in by info.columns key) (meets input key) e).1
columns_met held (node.Align info by input) target metric key has of e = absurd (false≢true e)
columns_met held (node.GroupBy info by with input) target metric key has of e = absurd (false≢true e)
columns_met held (node.Value info items input) target metric key has of e = absurd (false≢true e)
columns_met held (node.Top info most column input) target metric key has of e = absurd (false≢true e)
columns_met held (node.Join info left right) target metric key has of e = absurd (false≢true e)
columns_met held (node.Union info left right) target metric key has of e = absurd (false≢true e)

-- a filter adds its formula where it names keys, and then it holds of what it lets in
filtered : (names truth : Bool) (hints : List ℕ) (formula more : FormulaTree) → (not names || truth) ≡ true
    → holds formula hints ≡ true → (truth ≡ true → holds more hints ≡ true)
    → holds (cond names (both formula more) formula) hints ≡ true
filtered true truth hints formula more e before own =
    holds-both hints formula more ∙ and_from (holds formula hints) (holds more hints) before (own e)
filtered false truth hints formula more e before own = before

pub met_promise : (held : SchemaLists) (buckets : ℕ) (fetch : NodeTree) (target : TargetSchema) (metric : MetricSchema)
    (key : SeriesKey) → HasFetchColumns held fetch → IsOf held target metric key → meets fetch key ≡ true
    → Holds buckets target metric key (fetch_formula buckets fetch)
met_promise held buckets (node.Fetch info schema metric_name) target metric key has of e =
    let names = fetched schema metric_name key e in
    let fields = key.target.schema in
    let others = field_buckets buckets fields target.fields key.target.fields
    ++ field_buckets buckets fields metric.fields key.fields in
    let same : metric_bucket buckets schema metric_name ≡ metric_bucket buckets key.target.schema key.metric =
    ap (λ text. metric_bucket buckets text metric_name) names.0
    ∙ ap (λ text. metric_bucket buckets key.target.schema text) names.1 in
    subst (λ (bucket : ℕ). is_among bucket (series_buckets buckets target metric key) ≡ true) (sym same)
    (among-self (metric_bucket buckets key.target.schema key.metric) others)
met_promise held buckets (node.Filter info by input) target metric key has of e =
    let parts = and_parts (lets_in by info.columns key) (meets input key) e in
    let columns : info.columns ≡ columns_fetched target metric =
    has.0 ∙ columns_met held input target metric key has.1 of parts.1 in
    filtered (names_keys info.columns by) (predicate_truth by info.columns (series_cells key))
    (series_buckets buckets target metric key) (fetch_formula buckets input)
    (predicate_formula buckets (schema_fetched input) by) parts.0
    (met_promise held buckets input target metric key has.1 of parts.1)
    (λ truth. predicate_promise buckets (schema_fetched input) by target metric key of.fields
    (schema_met input key parts.1)
    (subst (λ (all : List Column). predicate_truth by all (series_cells key) ≡ true) columns truth))
met_promise held buckets (node.Align info by input) target metric key has of e = refl
met_promise held buckets (node.GroupBy info by with input) target metric key has of e = refl
met_promise held buckets (node.Value info items input) target metric key has of e = refl
met_promise held buckets (node.Top info most column input) target metric key has of e = refl
met_promise held buckets (node.Join info left right) target metric key has of e = refl
met_promise held buckets (node.Union info left right) target metric key has of e = refl

pub fetch_promise : (held : SchemaLists) (buckets : ℕ) (fetch : NodeTree) → HasFetchColumns held fetch
    → HoldsWhereMet held buckets fetch (fetch_formula buckets fetch)
fetch_promise held buckets fetch has target metric key named of fields e =
    met_promise held buckets fetch target metric key has (record {
      of_target = named;
      of_metric = of;
      fields =
          fields;
    }) e

pub fetches_promise : (held : SchemaLists) (buckets : ℕ) (fetches : List NodeTree)
    → AllByRecursion (HasFetchColumns held) fetches
    → AllHoldWhereMet held buckets fetches (map (fetch_formula buckets) fetches)
fetches_promise held buckets [] all = tt
fetches_promise held buckets (fetch ∷ fetches) all =
    (fetch_promise held buckets fetch all.0, fetches_promise held buckets fetches all.1)
