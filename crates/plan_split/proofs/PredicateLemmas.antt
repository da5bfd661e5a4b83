-- Where a predicate holds of a series' fields, its formula holds of the series' buckets.
use Rattle.std.proofs.Common.{◌≡◌, ◌∙◌, ℕ, Bool, true, List, map, Option, Some, None, refl, sym, subst, inl, inr}
use Rattle.std.specs.List.{list_all}
use Rattle.std.specs.Ordering.{is_eq}
use Rattle.std.specs.declared.cmp.Ordering.{Ordering}
use Rattle.std.specs.declared.cmp.Ordering.TheVariants.{Less, Equal, Greater}
use Rattle.std.proofs.lemmas.Bool.{and_from, and_parts, or_cases, or_left, or_right}
use Rattle.std.proofs.lemmas.List.Folds.{list_all-map}
use Rattle.mon_value.proofs.OrderLemmas.{exact_values, same_fields}
use Rattle.mon_value.specs.Order.{field_as_value, value_cmp}
use Rattle.mon_value.specs.declared.rows.SeriesKey.{SeriesKey}
use Rattle.mon_value.specs.declared.schemas.MetricSchema.{MetricSchema}
use Rattle.mon_value.specs.declared.schemas.TargetSchema.{TargetSchema}
use Rattle.mon_value.specs.declared.values.FieldValue.{FieldValue}
use Rattle.mon_value.specs.declared.values.FieldValue.TheVariants as field
use Rattle.mon_value.specs.declared.values.Value.{Value}
use Rattle.mon_hints.proofs.PatternLemmas.{test_passes}
use Rattle.mon_hints.specs.Hints.{front, pattern_excerpts, value_excerpts, bucket_of, series_buckets}
use Rattle.mon_hints.specs.Formulas.{FormulaTree, holds, is_among}
use Rattle.mql_ast.specs.Rows.{cell_named, is_compared, is_like, is_passed, predicate_truth}
use Rattle.mql_ast.specs.Trees as tree
use Rattle.mql_ast.specs.Trees.{PredicateTree}
use Rattle.mql_ast.specs.declared.predicates.Comparison.{Comparison}
use Rattle.mql_ast.specs.declared.predicates.Comparison.TheVariants as comparison
use Rattle.typed_trees.specs.Fetches.{columns_fetched}
use Rattle.typed_trees.specs.Meaning.{series_cells}
use Rattle.plan_split.specs.FetchFormulas.{bucket_formula, comparison_formula, excerpts_formula, likeness_formula}
use Rattle.plan_split.specs.FetchFormulas.{predicate_formula}
use Rattle.plan_split.specs.Meeting.{HasFields, HoldsWhereTrue}
use Rattle.plan_split.proofs.HintLemmas.{IsHinted, excerpts_hinted, field_hinted}
use Rattle.plan_split.proofs.JoinedLemmas.{holds-all_of, holds-both, holds-one_of}

-- whether a series has all buckets of some excerpts
abbrev pub has_excerpts : ℕ → List ℕ → List ℕ → List ℕ → List (List ℕ) → Bool
has_excerpts buckets schema name hints excerpts =
    list_all (λ excerpt. is_among (bucket_of buckets schema name excerpt) hints) excerpts

holds-excerpts : (buckets : ℕ) (schema name hints : List ℕ) (excerpts : List (List ℕ))
    → has_excerpts buckets schema name hints excerpts ≡ true
    → holds (excerpts_formula buckets schema name excerpts) hints ≡ true
holds-excerpts buckets schema name hints excerpts h =
    holds-all_of hints (map (bucket_formula buckets schema name) excerpts)
    ∙ list_all-map (λ (tree : FormulaTree). holds tree hints) (bucket_formula buckets schema name) excerpts
    ∙ h

-- ---- a condition on a cell

is_eq-Equal : (order : Ordering) → is_eq order ≡ true → order ≡ Equal
is_eq-Equal Less e = cc
is_eq-Equal Equal e = refl
is_eq-Equal Greater e = cc

equal_hinted : (buckets : ℕ) (schema name hints : List ℕ) (cell : Value) (literal : FieldValue)
    → IsHinted buckets schema name cell hints → is_compared comparison.Equal literal cell ≡ true
    → has_excerpts buckets schema name hints (value_excerpts literal) ≡ true
equal_hinted buckets schema name hints cell literal hinted e =
    let same : hinted.value ≡ literal = same_fields hinted.value literal
    (sym hinted.is
    ∙ exact_values cell (field_as_value literal) (is_eq-Equal (value_cmp cell (field_as_value literal)) e)) in
    subst (λ (held : FieldValue). has_excerpts buckets schema name hints (value_excerpts held) ≡ true) same
    (excerpts_hinted buckets schema name cell hints hinted)

like_hinted : (buckets : ℕ) (schema name hints : List ℕ) (pieces : List (List ℕ)) (held : FieldValue)
    → has_excerpts buckets schema name hints (value_excerpts held) ≡ true → is_like pieces (field_as_value held) ≡ true
    → has_excerpts buckets schema name hints (pattern_excerpts pieces) ≡ true
like_hinted buckets schema name hints pieces (field.Int z) h e = cc
like_hinted buckets schema name hints pieces (field.Bool p) h e = cc
like_hinted buckets schema name hints pieces (field.Text text) h e =
    test_passes (λ excerpt. is_among (bucket_of buckets schema name excerpt) hints) front pieces text e h

-- a test holds of a cell that is there
pub record IsPassed (test : Value → Bool) (cell : Option Value) : Type 0 where
  pub value : Value
  pub is : cell ≡ Some value
  pub passed : test value ≡ true

passed_cell : (test : Value → Bool) (cell : Option Value) → is_passed test cell ≡ true → IsPassed test cell
passed_cell test None e = cc
passed_cell test (Some held) e = record { value = held; is = refl; passed = e }

-- ---- predicates

-- a formula holds of the buckets of a series
abbrev pub Holds : ℕ → TargetSchema → MetricSchema → SeriesKey → FormulaTree → Type 0
Holds buckets target metric key formula = holds formula (series_buckets buckets target metric key) ≡ true

-- a test holds of a series' field
abbrev pub Passes : TargetSchema → MetricSchema → SeriesKey → List ℕ → (Value → Bool) → Type 0
Passes target metric key name test =
    is_passed test (cell_named name (columns_fetched target metric) (series_cells key)) ≡ true

equal_promise : (buckets : ℕ) (target : TargetSchema) (metric : MetricSchema) (key : SeriesKey) (name : List ℕ)
    (literal : FieldValue) → HasFields target metric key
    → Passes target metric key name (is_compared comparison.Equal literal)
    → Holds buckets target metric key (excerpts_formula buckets key.target.schema name (value_excerpts literal))
equal_promise buckets target metric key name literal fits e =
    let hints = series_buckets buckets target metric key in
    let cell = passed_cell (is_compared comparison.Equal literal)
    (cell_named name (columns_fetched target metric) (series_cells key)) e in
    holds-excerpts buckets key.target.schema name hints (value_excerpts literal)
    (equal_hinted buckets key.target.schema name hints cell.value literal
    (field_hinted buckets target metric key name cell.value fits cell.is) cell.passed)

comparison_promise : (buckets : ℕ) (target : TargetSchema) (metric : MetricSchema) (key : SeriesKey) (name : List ℕ)
    (how : Comparison) (literal : FieldValue) → HasFields target metric key
    → Passes target metric key name (is_compared how literal)
    → Holds buckets target metric key (comparison_formula buckets key.target.schema name how literal)
comparison_promise buckets target metric key name comparison.Equal literal fits e =
    equal_promise buckets target metric key name literal fits e
comparison_promise buckets target metric key name comparison.NotEqual literal fits e = refl
comparison_promise buckets target metric key name comparison.Less literal fits e = refl
comparison_promise buckets target metric key name comparison.AtMost literal fits e = refl
comparison_promise buckets target metric key name comparison.Greater literal fits e = refl
comparison_promise buckets target metric key name comparison.AtLeast literal fits e = refl

likeness_promise : (buckets : ℕ) (target : TargetSchema) (metric : MetricSchema) (key : SeriesKey) (name : List ℕ)
    (pieces : List (List ℕ)) → HasFields target metric key → Passes target metric key name (is_like pieces)
    → Holds buckets target metric key (likeness_formula buckets key.target.schema name pieces)
likeness_promise buckets target metric key name pieces fits e =
    let hints = series_buckets buckets target metric key in
    let schema = key.target.schema in
    let cell = passed_cell (is_like pieces) (cell_named name (columns_fetched target metric) (series_cells key)) e in
    let hinted = field_hinted buckets target metric key name cell.value fits cell.is in
    holds-excerpts buckets schema name hints (pattern_excerpts pieces)
    (like_hinted buckets schema name hints pieces hinted.value
    (excerpts_hinted buckets schema name cell.value hints hinted)
    (subst (λ (held : Value). is_like pieces held ≡ true) hinted.is cell.passed))

own_promise : (buckets : ℕ) (target : TargetSchema) (metric : MetricSchema) (key : SeriesKey)
    (predicate : PredicateTree) → HasFields target metric key
    → predicate_truth predicate (columns_fetched target metric) (series_cells key) ≡ true
    → Holds buckets target metric key (predicate_formula buckets key.target.schema predicate)
own_promise buckets target metric key (tree.Compare name how literal) fits e =
    comparison_promise buckets target metric key name.text how literal.value fits e
own_promise buckets target metric key (tree.Like name pattern) fits e =
    likeness_promise buckets target metric key name.text pattern.pieces fits e
own_promise buckets target metric key (tree.Not p) fits e = refl
own_promise buckets target metric key (tree.And p q) fits e =
    let hints = series_buckets buckets target metric key in
    let columns = columns_fetched target metric in
    let left = predicate_formula buckets key.target.schema p in
    let right = predicate_formula buckets key.target.schema q in
    let parts = and_parts (predicate_truth p columns (series_cells key))
    (predicate_truth q columns (series_cells key)) e in
    holds-both hints left right
    ∙ and_from (holds left hints) (holds right hints) (own_promise buckets target metric key p fits parts.0)
    (own_promise buckets target metric key q fits parts.1)
own_promise buckets target metric key (tree.Or p q) fits e =
    let hints = series_buckets buckets target metric key in
    let columns = columns_fetched target metric in
    let left = predicate_formula buckets key.target.schema p in
    let right = predicate_formula buckets key.target.schema q in
    holds-one_of hints left right
    ∙ elim (or_cases (predicate_truth p columns (series_cells key)) (predicate_truth q columns (series_cells key)) e) [
      | inl l ↦ or_left (holds left hints) (holds right hints) (own_promise buckets target metric key p fits l)
      | inr r ↦ or_right (holds left hints) (holds right hints) (own_promise buckets target metric key q fits r)
    ]

pub predicate_promise : (buckets : ℕ) (schema : List ℕ) (predicate : PredicateTree)
    → HoldsWhereTrue buckets schema predicate (predicate_formula buckets schema predicate)
predicate_promise buckets schema predicate target metric key fits named e =
    subst (λ (text : List ℕ). Holds buckets target metric key (predicate_formula buckets text predicate)) named
    (own_promise buckets target metric key predicate fits e)
