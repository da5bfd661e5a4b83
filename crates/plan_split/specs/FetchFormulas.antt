-- Which buckets a series has where it meets a fetch, by its target, its metric and a predicate of its fields.
use Rattle.std.specs.Prelude.{List, [], ◌∷◌, ◌++◌, ℕ, map, if◌then◌else◌}
use Rattle.mon_hints.specs.Formulas.{FormulaTree, All, Bucket, And, Or, FormulaTrees, NoFormula, Then, formulas}
use Rattle.mon_value.specs.declared.values.FieldValue.{FieldValue}
use Rattle.mon_hints.specs.Hints.{pattern_excerpts, value_excerpts, bucket_of, metric_bucket}
use Rattle.mql_ast.specs.Trees as tree
use Rattle.mql_ast.specs.Trees.{PredicateTree}
use Rattle.mql_ast.specs.declared.predicates.Comparison.{Comparison}
use Rattle.mql_ast.specs.declared.predicates.Comparison.TheVariants as comparison
use Rattle.typed_trees.specs.Meaning.{names_keys}
use Rattle.typed_trees.specs.Nodes as node
use Rattle.typed_trees.specs.Nodes.{NodeTree}
use Rattle.typed_trees.specs.Plans.{fetches}

-- Formulas joined to one: what joins them stands in one list, so that a long chain is no deeper than its parts.

abbrev pub formula_list : FormulaTrees → List FormulaTree
formula_list NoFormula = []
formula_list (Then tree trees) = tree ∷ formula_list trees

-- all of some formulas; of none it is `All`
abbrev pub all_of : List FormulaTree → FormulaTree
all_of [] = All
all_of (tree ∷ trees) = And (formulas (tree ∷ trees))

-- the formulas of which a formula wants all
abbrev pub wanted_formulas : FormulaTree → List FormulaTree
wanted_formulas All = []
wanted_formulas (Bucket bucket) = Bucket bucket ∷ []
wanted_formulas (And all) = formula_list all
wanted_formulas (Or any) = Or any ∷ []

-- the formulas of which a formula wants one
abbrev pub choices : FormulaTree → List FormulaTree
choices All = All ∷ []
choices (Bucket bucket) = Bucket bucket ∷ []
choices (And all) = And all ∷ []
choices (Or any) = formula_list any

-- both of two formulas
abbrev pub both : FormulaTree → FormulaTree → FormulaTree
both left right = all_of (wanted_formulas left ++ wanted_formulas right)

-- one of two formulas at least; it names the buckets of both, also where one of them wants none
abbrev pub one_of : FormulaTree → FormulaTree → FormulaTree
one_of left right = Or (formulas (choices left ++ choices right))

-- Which buckets a series has where a predicate holds of its fields.

-- the bucket of an excerpt of a schema's field, among so many
abbrev pub bucket_formula : ℕ → List ℕ → List ℕ → List ℕ → FormulaTree
bucket_formula buckets schema field excerpt = Bucket (bucket_of buckets schema field excerpt)

-- the buckets of all of some excerpts
abbrev pub excerpts_formula : ℕ → List ℕ → List ℕ → List (List ℕ) → FormulaTree
excerpts_formula buckets schema field excerpts = all_of (map (bucket_formula buckets schema field) excerpts)

-- `==` wants the buckets of its value, and another comparison none
abbrev pub comparison_formula : ℕ → List ℕ → List ℕ → Comparison → FieldValue → FormulaTree
comparison_formula buckets schema field comparison.Equal value =
    excerpts_formula buckets schema field (value_excerpts value)
comparison_formula buckets schema field comparison.NotEqual value = All
comparison_formula buckets schema field comparison.Less value = All
comparison_formula buckets schema field comparison.AtMost value = All
comparison_formula buckets schema field comparison.Greater value = All
comparison_formula buckets schema field comparison.AtLeast value = All

-- a pattern wants the buckets of its own excerpts
abbrev pub likeness_formula : ℕ → List ℕ → List ℕ → List (List ℕ) → FormulaTree
likeness_formula buckets schema field pieces = excerpts_formula buckets schema field (pattern_excerpts pieces)

-- `&&` wants both, and `||` one; that something isn't so, no bucket tells
abbrev pub predicate_formula : ℕ → List ℕ → PredicateTree → FormulaTree
predicate_formula buckets schema (tree.Compare name how literal) =
    comparison_formula buckets schema name.text how literal.value
predicate_formula buckets schema (tree.Like name pattern) =
    likeness_formula buckets schema name.text pattern.pieces
predicate_formula buckets schema (tree.Not p) = All
predicate_formula buckets schema (tree.And p q) =
    both (predicate_formula buckets schema p) (predicate_formula buckets schema q)
predicate_formula buckets schema (tree.Or p q) =
    one_of (predicate_formula buckets schema p) (predicate_formula buckets schema q)

-- Which buckets a series has where it meets a fetch.

-- the name of the schema that a fetch, with filters on it, fetches
abbrev pub schema_fetched : NodeTree → List ℕ
schema_fetched (node.Fetch info schema metric) = schema
schema_fetched (node.Filter info by input) = schema_fetched input
schema_fetched (node.Align info by input) = []
schema_fetched (node.GroupBy info by with input) = []
schema_fetched (node.Value info items input) = []
schema_fetched (node.Top info most column input) = []
schema_fetched (node.Join info left right) = []
schema_fetched (node.Union info left right) = []

-- a fetch wants the bucket of its metric, and what each filter wants that names its keys alone
abbrev pub fetch_formula : ℕ → NodeTree → FormulaTree
fetch_formula buckets (node.Fetch info schema metric) = Bucket (metric_bucket buckets schema metric)
fetch_formula buckets (node.Filter info by input) =
    if names_keys info.columns by
    then both (fetch_formula buckets input) (predicate_formula buckets (schema_fetched input) by)
    else fetch_formula buckets input
fetch_formula buckets (node.Align info by input) = All
fetch_formula buckets (node.GroupBy info by with input) = All
fetch_formula buckets (node.Value info items input) = All
fetch_formula buckets (node.Top info most column input) = All
fetch_formula buckets (node.Join info left right) = All
fetch_formula buckets (node.Union info left right) = All

-- the formulas of a tree's fetches, from the left
abbrev pub plan_formulas : ℕ → NodeTree → List FormulaTree
plan_formulas buckets tree = map (fetch_formula buckets) (fetches tree)
