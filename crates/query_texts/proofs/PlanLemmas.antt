-- A text's plan, step by step.
use Rattle.std.proofs.Common.{◌≡◌, ◌<◌, ℕ, List, Result, Ok, map, sym, ap, subst}
use Rattle.std.specs.List.{AllByRecursion}
use Rattle.mon_hints.specs.Formulas.{all_named, formula_tree, formulas, IsListing}
use Rattle.mon_schema.specs.Fits.{AreMetricsHeld, AllTellLocations}
use Rattle.mon_schema.specs.Names.{SchemaLists}
use Rattle.mon_value.specs.Answers.{◌>>=◌, GivesView}
use Rattle.mon_value.specs.declared.refusals.Refusal.{Refusal}
use Rattle.mql_ast.specs.Grammar.{Spells}
use Rattle.mql_ast.specs.Trees.{PipeTree}
use Rattle.mql_parse.specs.PipeReading.{text_outcome}
use Rattle.typed_rows.proofs.DurationLemmas.{durations_spelled}
use Rattle.typed_rows.proofs.SpelledQueries.{query_spelled}
use Rattle.typed_trees.specs.Nodes.{TypedTree, typed_tree}
use Rattle.typed_trees.specs.Plans.{fetches}
use Rattle.typed_trees.specs.Soundness.{IsQueryType}
use Rattle.typed_trees.specs.Typing.{typing}
use Rattle.typed_trees.specs.declared.plans.Plan.{Plan}
use Rattle.plan_split.specs.FetchFormulas.{plan_formulas}
use Rattle.plan_split.specs.Meeting.{AllHoldWhereMet}
use Rattle.query_texts.specs.TextTypes.{IsPlanOver, refused_as, text_type, tree_type}
use Rattle.query_texts.specs.declared.faults.TextFault.{TextFault}
use Rattle.query_texts.specs.declared.faults.TextFault.TheVariants as fault

-- a text that was read comes to what its tree does
pub read_as : (held : SchemaLists) (text : List ℕ) (tree : PipeTree) → text_outcome text ≡ Ok tree
    → tree_type held tree ≡ text_type held text
read_as held text tree is = sym (ap (λ answer. refused_as fault.Parse answer >>= tree_type held) is)

-- what a call gives that gives what the tree comes to
pub gives_read : {X : Type 0} (view : X → TypedTree) (result : Result X (Refusal TextFault)) (held : SchemaLists)
    (text : List ℕ) (tree : PipeTree) → text_outcome text ≡ Ok tree → GivesView view result (tree_type held tree)
    → GivesView view result (text_type held text)
gives_read view result held text tree is gives = subst (GivesView view result) (read_as held text tree is) gives

-- a text's query that has a type over lawful schemas
pub has_type : (held : SchemaLists) (query : PipeTree) (text : List ℕ) (typed : TypedTree) → AreMetricsHeld held.metrics
    → AllTellLocations held.targets
    → Spells query text → typing held query ≡ Ok typed → IsQueryType held typed
has_type held query text typed metrics targets spelled is = record {
  query = query;
  metrics = metrics;
  targets = targets;
  spelled = query_spelled query text spelled;
  durations = durations_spelled query text spelled;
  is = is;
}

-- the plan of a query that has a type
pub plan_over : (held : SchemaLists) (buckets : ℕ) (typed : TypedTree) → IsQueryType held typed
    → (plan : Plan) → typed_tree plan.typed ≡ typed
    → map formula_tree plan.formulas ≡ plan_formulas buckets typed.tree
    → IsListing (all_named (formulas (map formula_tree plan.formulas))) plan.buckets
    → AllByRecursion (λ (bucket : ℕ). bucket < buckets) plan.buckets
    → AllHoldWhereMet held buckets (fetches typed.tree) (map formula_tree plan.formulas)
    → IsPlanOver held buckets plan
plan_over held buckets typed query plan same hints listed below promise =
    record {
      query = subst (λ (of : TypedTree). IsQueryType held of) (sym same) query;
      hints = subst (λ (of : TypedTree). map formula_tree plan.formulas ≡ plan_formulas buckets of.tree) (sym same) hints;
      promise = subst (λ (of : TypedTree). AllHoldWhereMet held buckets (fetches of.tree) (map formula_tree plan.formulas))
          (sym same) promise;
      listed = listed;
      below = below;
    }
