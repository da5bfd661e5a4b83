-- Formulas: which buckets a series must have.
use Rattle.std.specs.Prelude.{◌≡◌, ℕ, ◌==◌, Bool, true, List, false, ◌&&◌, ◌||◌, [], ◌∷◌, ◌++◌}
use Rattle.std.specs.List.{list_any}
use Rattle.std.specs.List.Sorted.{IsStrictlyIncreasing}
use Rattle.mon_hints.specs.declared.formulas.Formula.{Formula, Row_of-Formula, end_of-Formula, more_of-Formula}
use Rattle.mon_hints.specs.declared.formulas.Formula.TheVariants as formula

-- Buckets listed: rising, each once.

-- whether a number is in a list
abbrev pub is_among : ℕ → List ℕ → Bool
is_among n numbers = list_any (λ other. n == other) numbers

-- whatever is in a list is in another one
abbrev pub AreAmong : List ℕ → List ℕ → Type 0
AreAmong some others = (n : ℕ) → is_among n some ≡ true → is_among n others ≡ true

-- the listing of some buckets has just these, rising, each once
pub record IsListing (buckets listed : List ℕ) : Type 0 where
  pub rising : IsStrictlyIncreasing listed
  pub same : (bucket : ℕ) → is_among bucket listed ≡ is_among bucket buckets

-- Formulas: which buckets a series must have.

-- a formula, apart from where it lies in memory, and formulas in order
mutual
  pub data FormulaTree : Type 0 where
    All : FormulaTree
    Bucket : ℕ → FormulaTree
    And : FormulaTrees → FormulaTree
    Or : FormulaTrees → FormulaTree

  pub data FormulaTrees : Type 0 where
    NoFormula : FormulaTrees
    Then : FormulaTree → FormulaTrees → FormulaTrees

abbrev pub formulas : List FormulaTree → FormulaTrees
formulas [] = NoFormula
formulas (tree ∷ trees) = Then tree (formulas trees)

-- whether a formula holds of a series that has these buckets: more buckets never make it fail
abbrev mutual
  pub holds : FormulaTree → List ℕ → Bool
  holds All buckets = true
  holds (Bucket bucket) buckets = is_among bucket buckets
  holds (And all) buckets = all_hold all buckets
  holds (Or any) buckets = any_holds any buckets

  pub all_hold : FormulaTrees → List ℕ → Bool
  all_hold NoFormula buckets = true
  all_hold (Then tree trees) buckets = holds tree buckets && all_hold trees buckets

  pub any_holds : FormulaTrees → List ℕ → Bool
  any_holds NoFormula buckets = false
  any_holds (Then tree trees) buckets = holds tree buckets || any_holds trees buckets

-- the buckets that a formula names
abbrev mutual
  pub named_buckets : FormulaTree → List ℕ
  named_buckets All = []
  named_buckets (Bucket bucket) = bucket ∷ []
  named_buckets (And all) = all_named all
  named_buckets (Or any) = all_named any

  pub all_named : FormulaTrees → List ℕ
  all_named NoFormula = []
  all_named (Then tree trees) = named_buckets tree ++ all_named trees

-- the tree that a formula is
abbrev mutual
  pub formula_tree : Formula → FormulaTree
  formula_tree formula.All = All
  formula_tree (formula.Bucket bucket) = Bucket bucket
  formula_tree (formula.And' shape all) = And (row_trees all)
  formula_tree (formula.Or' shape any) = Or (row_trees any)

  pub row_trees : {m : _} → Row_of-Formula m → FormulaTrees
  row_trees end_of-Formula = NoFormula
  row_trees (more_of-Formula first rest) = Then (formula_tree first) (row_trees rest)
