-- The buckets that a query's formulas name are below their number.
use Rattle.std.proofs.Common.{◌≡◌, ◌∙◌, ◌<◌, ℕ, zero, suc, Bool, true, false, cond, eqb, List, [], ◌∷◌, ◌++◌}
use Rattle.std.proofs.Common.{length, map, get_or, inl, inr, sym, subst, arith}
use Rattle.std.specs.List.{AllByRecursion as All}
use Rattle.std.proofs.lemmas.Bool.{eqb-true, or_cases}
use Rattle.mon_hints.proofs.ListingLemmas.{place_among}
use Rattle.mon_value.proofs.PlainLemmas.{all_append}
use Rattle.mon_hints.specs.Hints.{bucket_of, pattern_excerpts, value_excerpts}
use Rattle.mon_hints.specs.Formulas.{All as Always, And, Bucket, FormulaTree, FormulaTrees, NoFormula, Or, Then}
use Rattle.mon_hints.specs.Formulas.{all_named, formulas, named_buckets, IsListing, is_among}
use Rattle.mon_value.specs.declared.values.FieldValue.{FieldValue}
use Rattle.mql_ast.specs.Trees as tree
use Rattle.mql_ast.specs.Trees.{PredicateTree}
use Rattle.mql_ast.specs.declared.predicates.Comparison.{Comparison}
use Rattle.mql_ast.specs.declared.predicates.Comparison.TheVariants as comparison
use Rattle.typed_trees.specs.Meaning.{names_keys}
use Rattle.typed_trees.specs.Nodes as node
use Rattle.typed_trees.specs.Nodes.{NodeTree}
use Rattle.typed_trees.specs.Plans.{fetches}
use Rattle.plan_split.specs.FetchFormulas.{fetch_formula, plan_formulas, schema_fetched, all_of, both, choices}
use Rattle.plan_split.specs.FetchFormulas.{formula_list, one_of, wanted_formulas, bucket_formula, comparison_formula}
use Rattle.plan_split.specs.FetchFormulas.{predicate_formula}

module _ (count : ℕ) (some : 0 < count) where
  abbrev pub AreBelow : List ℕ → Type 0
  AreBelow = All (λ (bucket : ℕ). bucket < count)

  -- a formula names such buckets alone
  abbrev IsBelow : FormulaTree → Type 0
  IsBelow tree = AreBelow (named_buckets tree)

  abbrev AllBelow : List FormulaTree → Type 0
  AllBelow = All IsBelow

  bucket_below : (schema field excerpt : List ℕ) → bucket_of count schema field excerpt < count
  bucket_below schema field excerpt = grind (arith)

  named_below : (trees : List FormulaTree) → AllBelow trees → AreBelow (all_named (formulas trees))
  named_below [] all = tt
  named_below (tree ∷ trees) all =
      all_append (λ (bucket : ℕ). bucket < count) (named_buckets tree) (all_named (formulas trees)) all.0
      (named_below trees all.1)

  front_below : (some more : List ℕ) → AreBelow (some ++ more) → AreBelow some
  front_below [] more all = tt
  front_below (bucket ∷ some) more all = (all.0, front_below some more all.1)

  back_below : (some more : List ℕ) → AreBelow (some ++ more) → AreBelow more
  back_below [] more all = all
  back_below (bucket ∷ some) more all = back_below some more all.1

  listed_below : (trees : FormulaTrees) → AreBelow (all_named trees) → AllBelow (formula_list trees)
  listed_below NoFormula all = tt
  listed_below (Then tree trees) all = (
    front_below (named_buckets tree) (all_named trees) all,
    listed_below trees (back_below (named_buckets tree) (all_named trees) all),
  )

  all_of_below : (trees : List FormulaTree) → AllBelow trees → IsBelow (all_of trees)
  all_of_below [] all = tt
  all_of_below (tree ∷ trees) all = named_below (tree ∷ trees) all

  wanted_below : (tree : FormulaTree) → IsBelow tree → AllBelow (wanted_formulas tree)
  wanted_below Always all = tt
  wanted_below (Bucket bucket) all = (all, tt)
  wanted_below (And trees) all = listed_below trees all
  wanted_below (Or trees) all = (all, tt)

  choices_below : (tree : FormulaTree) → IsBelow tree → AllBelow (choices tree)
  choices_below Always all = (tt, tt)
  choices_below (Bucket bucket) all = (all, tt)
  choices_below (And trees) all = (all, tt)
  choices_below (Or trees) all = listed_below trees all

  both_below : (left right : FormulaTree) → IsBelow left → IsBelow right → IsBelow (both left right)
  both_below left right first second =
      all_of_below (wanted_formulas left ++ wanted_formulas right)
      (all_append IsBelow (wanted_formulas left) (wanted_formulas right) (wanted_below left first)
      (wanted_below right second))

  one_of_below : (left right : FormulaTree) → IsBelow left → IsBelow right → IsBelow (one_of left right)
  one_of_below left right first second =
      named_below (choices left ++ choices right)
      (all_append IsBelow (choices left) (choices right) (choices_below left first) (choices_below right second))

  excerpts_below : (schema field : List ℕ) (excerpts : List (List ℕ))
      → AllBelow (map (bucket_formula count schema field) excerpts)
  excerpts_below schema field [] = tt
  excerpts_below schema field (excerpt ∷ excerpts) =
      ((bucket_below schema field excerpt, tt), excerpts_below schema field excerpts)

  texts_below : (schema field : List ℕ) (excerpts : List (List ℕ))
      → IsBelow (all_of (map (bucket_formula count schema field) excerpts))
  texts_below schema field excerpts =
      all_of_below (map (bucket_formula count schema field) excerpts) (excerpts_below schema field excerpts)

  comparison_below : (schema field : List ℕ) (how : Comparison) (value : FieldValue)
      → IsBelow (comparison_formula count schema field how value)
  comparison_below schema field comparison.Equal value = texts_below schema field (value_excerpts value)
  comparison_below schema field comparison.NotEqual value = tt
  comparison_below schema field comparison.Less value = tt
  comparison_below schema field comparison.AtMost value = tt
  comparison_below schema field comparison.Greater value = tt
  comparison_below schema field comparison.AtLeast value = tt

  predicate_below : (schema : List ℕ) (predicate : PredicateTree) → IsBelow (predicate_formula count schema predicate)
  predicate_below schema (tree.Compare name how literal) = comparison_below schema name.text how literal.value
  predicate_below schema (tree.Like name pattern) = texts_below schema name.text (pattern_excerpts pattern.pieces)
  predicate_below schema (tree.Not p) = tt
  predicate_below schema (tree.And p q) =
      both_below (predicate_formula count schema p) (predicate_formula count schema q) (predicate_below schema p)
      (predicate_below schema q)
  predicate_below schema (tree.Or p q) =
      one_of_below (predicate_formula count schema p) (predicate_formula count schema q) (predicate_below schema p)
      (predicate_below schema q)

  filter_by : (input : NodeTree) (by : PredicateTree) (b : Bool) → IsBelow (fetch_formula count input)
      → IsBelow (cond b (both (fetch_formula count input) (predicate_formula count (schema_fetched input) by))
      (fetch_formula count input))
  filter_by input by true all =
      both_below (fetch_formula count input) (predicate_formula count (schema_fetched input) by) all
      (predicate_below (schema_fetched input) by)
  filter_by input by false all = all

  fetch_below : (fetch : NodeTree) → IsBelow (fetch_formula count fetch)
  fetch_below (node.Fetch info schema metric) = (bucket_below schema [] metric, tt)
  fetch_below (node.Filter info by input) = filter_by input by (names_keys info.columns by) (fetch_below input)
  fetch_below (node.Align info by input) = tt
  fetch_below (node.GroupBy info by with input) = tt
  fetch_below (node.Value info items input) = tt
  fetch_below (node.Top info most column input) = tt
  fetch_below (node.Join info left right) = tt
  fetch_below (node.Union info left right) = tt

  fetches_below : (trees : List NodeTree) → AllBelow (map (fetch_formula count) trees)
  fetches_below [] = tt
  fetches_below (fetch ∷ trees) = (fetch_below fetch, fetches_below trees)

  -- ---- buckets of a listing

  below_by : (bucket first : ℕ) (rest : List ℕ) → AreBelow (first ∷ rest) → is_among bucket (first ∷ rest) ≡ true
      → (is_among bucket rest ≡ true → bucket < count) → bucket < count
  below_by bucket first rest all here later = elim (or_cases (eqb bucket first) (is_among bucket rest) here) [
    | inl same ↦ subst (λ (n : ℕ). n < count) (sym (eqb-true bucket first same)) all.0
    | inr more ↦ later more
  ]

  among_below : (bucket : ℕ) (buckets : List ℕ) → AreBelow buckets → is_among bucket buckets ≡ true → bucket < count
  among_below bucket [] all here = absurd cc
  among_below bucket (first ∷ rest) all here = below_by bucket first rest all here (among_below bucket rest all.1)

  all_of_places : (buckets : List ℕ) → ((i : ℕ) → i < length buckets → get_or buckets i 0 < count) → AreBelow buckets
  all_of_places [] each = tt
  all_of_places (bucket ∷ buckets) each =
      (each 0 (omega arith), all_of_places buckets (λ i within. each (suc i) (omega (arith, within))))

  -- the buckets that a query loads words of
  pub plan_below : (root : NodeTree) (trees : List FormulaTree) (buckets : List ℕ) → trees ≡ plan_formulas count root
      → IsListing (all_named (formulas trees)) buckets → AreBelow buckets
  plan_below root trees buckets hints listing =
      let named : AreBelow (all_named (formulas trees)) =
      subst (λ (some : List FormulaTree). AreBelow (all_named (formulas some))) (sym hints)
      (named_below (plan_formulas count root) (fetches_below (fetches root))) in
      all_of_places buckets (λ i within.
      among_below (get_or buckets i 0) (all_named (formulas trees)) named
      (sym (listing.same (get_or buckets i 0)) ∙ place_among buckets i 0 within))

  -- the next one is, whether there is one or not
  pub next_below : (buckets : List ℕ) → AreBelow buckets → (i : ℕ) → get_or buckets i 0 < count
  next_below [] all zero = some
  next_below [] all (suc i) = some
  next_below (bucket ∷ buckets) all zero = all.0
  next_below (bucket ∷ buckets) all (suc i) = next_below buckets all.1 i
