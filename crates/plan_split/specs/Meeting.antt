-- What a formula promises, and which children the hint words let in.
use Rattle.std.specs.Prelude.{◌≡◌, ℕ, true, List, [], ◌∷◌, length, Some, Bool, false, map, get_or}
use Rattle.std.specs.List.{range_with_len}
use Rattle.mon_value.specs.declared.rows.SeriesKey.{SeriesKey}
use Rattle.mon_value.specs.declared.schemas.MetricSchema.{MetricSchema}
use Rattle.mon_value.specs.declared.schemas.TargetSchema.{TargetSchema}
use Rattle.mon_hints.specs.Formulas.{FormulaTree, holds, any_holds, formula_tree, formulas}
use Rattle.mon_hints.specs.Hints.{series_buckets, buckets_of_child}
use Rattle.mon_schema.specs.Names.{SchemaLists, metric_named, target_named}
use Rattle.mql_ast.specs.Trees.{PredicateTree}
use Rattle.mql_ast.specs.Rows.{predicate_truth}
use Rattle.typed_trees.specs.Fetches.{columns_fetched}
use Rattle.typed_trees.specs.Meaning.{meets, series_cells}
use Rattle.typed_trees.specs.Nodes.{NodeTree}
use Rattle.typed_trees.specs.declared.plans.Plan.{Plan}

-- What a formula promises: a series of which it doesn't hold can't be what is looked for.

-- a series has as many values as its target and its metric have fields
pub record HasFields (target : TargetSchema) (metric : MetricSchema) (key : SeriesKey) : Type 0 where
  pub of_target : length key.target.fields ≡ length target.fields
  pub of_metric : length key.fields ≡ length metric.fields

-- a formula holds of the buckets of each series of a schema whose fields are as a predicate asks
abbrev pub HoldsWhereTrue : ℕ → List ℕ → PredicateTree → FormulaTree → Type 0
HoldsWhereTrue buckets schema predicate formula =
    (target : TargetSchema) (metric : MetricSchema) (key : SeriesKey)
    → HasFields target metric key → key.target.schema ≡ schema
    → predicate_truth predicate (columns_fetched target metric) (series_cells key) ≡ true
    → holds formula (series_buckets buckets target metric key) ≡ true

-- a formula holds of the buckets of each series, of schemas that are held, that meets a fetch
abbrev pub HoldsWhereMet : SchemaLists → ℕ → NodeTree → FormulaTree → Type 0
HoldsWhereMet held buckets fetch formula =
    (target : TargetSchema) (metric : MetricSchema) (key : SeriesKey)
    → target_named key.target.schema held.targets ≡ Some target
    → metric_named key.metric held.metrics ≡ Some metric
    → HasFields target metric key → meets fetch key ≡ true
    → holds formula (series_buckets buckets target metric key) ≡ true

-- there is a formula for each fetch, and each holds where its fetch is met
abbrev pub AllHoldWhereMet : SchemaLists → ℕ → List NodeTree → List FormulaTree → Type 0
AllHoldWhereMet held buckets [] [] = Unit {0}
AllHoldWhereMet held buckets [] (formula ∷ formulas) = ⊥
AllHoldWhereMet held buckets (fetch ∷ fetches) [] = ⊥
AllHoldWhereMet held buckets (fetch ∷ fetches) (formula ∷ formulas) =
    HoldsWhereMet held buckets fetch formula × AllHoldWhereMet held buckets fetches formulas

-- Which children the hint words let in.

-- whether some formula of a plan holds of buckets
abbrev pub is_plan_met : Plan → List ℕ → Bool
is_plan_met plan buckets = any_holds (formulas (map formula_tree plan.formulas)) buckets

-- whether the words let a child in: some formula holds of the buckets whose word has its bit
abbrev pub lets_child_in : Plan → List ℕ → ℕ → Bool
lets_child_in plan words child = is_plan_met plan (buckets_of_child plan.buckets words child)

-- for each of so many children, whether the words let it in
abbrev pub let_in : Plan → List ℕ → ℕ → List Bool
let_in plan words count = map (lets_child_in plan words) (range_with_len 0 count)

abbrev pub flag_at : List Bool → ℕ → Bool
flag_at flags place = get_or flags place false
