-- Points that flow into an alignment are of series that meet its fetch.
use Rattle.std.proofs.Common.{◌≡◌, ◌∙◌, true, Option, Some, None, refl}
use Rattle.std.proofs.lemmas.Bool.{and_from, and_parts, false≢true}
use Rattle.mon_value.proofs.SameLemmas.{same_text-Decides}
use Rattle.mon_value.specs.Same.{same_text}
use Rattle.mon_value.specs.declared.rows.Row.{Row}
use Rattle.mon_value.specs.declared.schemas.MetricSchema.{MetricSchema}
use Rattle.mon_value.specs.declared.schemas.TargetSchema.{TargetSchema}
use Rattle.mon_schema.specs.Fits.{fits, fits_both, row_fits}
use Rattle.mon_schema.specs.Names.{SchemaLists, metric_named, target_named}
use Rattle.typed_trees.specs.Fetches.{columns_fetched, fetch_columns}
use Rattle.typed_trees.specs.Meaning.{lets_in, meets, is_point_kept}
use Rattle.typed_trees.specs.Nodes as node
use Rattle.typed_trees.specs.Nodes.{NodeTree, columns_of}
use Rattle.typed_trees.specs.Plans.{HasFetchColumns}
use Rattle.typed_rows.proofs.FetchedPoints.{kept_let_in, row_of_schemas}
use Rattle.mon_meaning.proofs.SeriesOrders.{row_flows}

-- the schemas of a row that fits
record HasSchemas (held : SchemaLists) (row : Row) : Type 0 where
  target : TargetSchema
  metric : MetricSchema
  targeted : target_named row.key.target.schema held.targets ≡ Some target
  measured : metric_named row.key.metric held.metrics ≡ Some metric
  of : row_fits target metric row ≡ true

schemas_by : (held : SchemaLists) (row : Row) (t : Option TargetSchema) (m : Option MetricSchema)
    → target_named row.key.target.schema held.targets ≡ t → metric_named row.key.metric held.metrics ≡ m
    → fits_both t m row ≡ true → HasSchemas held row
schemas_by held row (Some target) (Some metric) targeted measured fit = record {
  target = target;
  metric = metric;
  targeted = targeted;
  measured = measured;
  of = fit;
}
schemas_by held row (Some target) None targeted measured fit = absurd (false≢true fit)
schemas_by held row None (Some metric) targeted measured fit = absurd (false≢true fit)
schemas_by held row None None targeted measured fit = absurd (false≢true fit)

schemas : (held : SchemaLists) (row : Row) → fits held row ≡ true → HasSchemas held row
schemas held row fit =
    schemas_by held row (target_named row.key.target.schema held.targets) (metric_named row.key.metric held.metrics)
    refl refl fit

columns_below : (held : SchemaLists) (input : NodeTree) (row : Row) (has : HasSchemas held row) → HasFetchColumns held
    input
    → meets input row.key ≡ true → columns_of input ≡ columns_fetched has.target has.metric
columns_below held (node.Fetch info schema metric) row has named met =
    let names = and_parts (same_text schema row.key.target.schema) (same_text metric row.key.metric) met in
    let one : schema ≡ row.key.target.schema = (same_text-Decides schema row.key.target.schema).0 names.0 in
    let two : metric ≡ row.key.metric = (same_text-Decides metric row.key.metric).0 names.1 in
    named
    ∙ (λ i. fetch_columns (target_named (one i) held.targets) (metric_named (two i) held.metrics))
    ∙ (λ i. fetch_columns (has.targeted i) (has.measured i))
columns_below held (node.Filter info by input) row has named met =
    named.0 ∙ columns_below held input row has named.1 (and_parts (lets_in by info.columns row.key)
    (meets input row.key) met).1
columns_below held (node.Align info by input) row has named met = absurd (false≢true met)
columns_below held (node.GroupBy info by with input) row has named met = absurd (false≢true met)
columns_below held (node.Value info items input) row has named met = absurd (false≢true met)
columns_below held (node.Top info most column input) row has named met = absurd (false≢true met)
columns_below held (node.Join info left right) row has named met = absurd (false≢true met)
columns_below held (node.Union info left right) row has named met = absurd (false≢true met)

of_schemas_met : (held : SchemaLists) (row : Row) → HasSchemas held row → (input : NodeTree) → HasFetchColumns held input
    → row_flows input row ≡ true → meets input row.key ≡ true
of_schemas_met held row has (node.Fetch info schema metric) named flow = flow
of_schemas_met held row has (node.Filter info by input) named flow =
    let parts = and_parts (is_point_kept by info.columns row) (row_flows input row) flow in
    let below = of_schemas_met held row has input named.1 parts.1 in
    let columns : info.columns ≡ columns_fetched has.target has.metric = named.0 ∙ columns_below held input row has
    named.1 below in
    and_from (lets_in by info.columns row.key) (meets input row.key)
    (kept_let_in has.target has.metric row (row_of_schemas has.target has.metric row has.of) by info.columns columns
    parts.0)
    below
of_schemas_met held row has (node.Align info by input) named flow = absurd (false≢true flow)
of_schemas_met held row has (node.GroupBy info by with input) named flow = absurd (false≢true flow)
of_schemas_met held row has (node.Value info items input) named flow = absurd (false≢true flow)
of_schemas_met held row has (node.Top info most column input) named flow = absurd (false≢true flow)
of_schemas_met held row has (node.Join info left right) named flow = absurd (false≢true flow)
of_schemas_met held row has (node.Union info left right) named flow = absurd (false≢true flow)

-- a row that fits, of which all filters hold, is of a series that meets the fetch
pub flows_met : (held : SchemaLists) (row : Row) → fits held row ≡ true → (input : NodeTree)
    → HasFetchColumns held input → row_flows input row ≡ true → meets input row.key ≡ true
flows_met held row fit = of_schemas_met held row (schemas held row fit)
