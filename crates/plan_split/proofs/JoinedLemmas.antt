-- What joined formulas hold of, and how their lists lie in memory.
use Rattle.std.proofs.Common.{◌≡◌, ◌∙◌, ℕ, Bool, ◌&&◌, ◌||◌, List, [], ◌∷◌, ◌++◌, map, refl, ap, sym}
use Rattle.std.specs.List.{list_all, list_any}
use Rattle.std.specs.declared.alloc.Global.{Global}
use Rattle.std.specs.declared.vec.Vec.{Vec}
use Rattle.std.proofs.lemmas.List.{map-append}
use Rattle.std.proofs.lemmas.List.Folds.{list_all-append, list_any-append}
use Rattle.mon_hints.proofs.FormulaLemmas.{and_tree, or_tree}
use Rattle.mon_value.proofs.PlainLemmas.{and_true, or_false}
use Rattle.mon_hints.specs.Formulas.{FormulaTree, All, Bucket, And, Or, FormulaTrees, NoFormula, Then, all_hold}
use Rattle.mon_hints.specs.Formulas.{any_holds, formulas, formula_tree, holds}
use Rattle.mon_hints.specs.declared.formulas.Formula.{Formula}
use Rattle.mon_hints.specs.declared.formulas.Formula.TheVariants as formula
use Rattle.plan_split.specs.FetchFormulas.{all_of, both, choices, formula_list, one_of, wanted_formulas}

pub formula_list-formulas : (trees : List FormulaTree) → formula_list (formulas trees) ≡ trees
formula_list-formulas [] = refl
formula_list-formulas (tree ∷ trees) = ap (λ rest. tree ∷ rest) (formula_list-formulas trees)

-- ---- what holds

abbrev pub each_holds : List ℕ → List FormulaTree → Bool
each_holds buckets trees = list_all (λ tree. holds tree buckets) trees

abbrev pub some_holds : List ℕ → List FormulaTree → Bool
some_holds buckets trees = list_any (λ tree. holds tree buckets) trees

each_listed : (buckets : List ℕ) (trees : FormulaTrees) → each_holds buckets (formula_list trees)
    ≡ all_hold trees buckets
each_listed buckets NoFormula = refl
each_listed buckets (Then tree trees) = ap (λ b. holds tree buckets && b) (each_listed buckets trees)

some_listed : (buckets : List ℕ) (trees : FormulaTrees) → some_holds buckets (formula_list trees)
    ≡ any_holds trees buckets
some_listed buckets NoFormula = refl
some_listed buckets (Then tree trees) = ap (λ b. holds tree buckets || b) (some_listed buckets trees)

all_hold-formulas : (buckets : List ℕ) (trees : List FormulaTree)
    → all_hold (formulas trees) buckets ≡ each_holds buckets trees
all_hold-formulas buckets [] = refl
all_hold-formulas buckets (tree ∷ trees) = ap (λ b. holds tree buckets && b) (all_hold-formulas buckets trees)

any_holds-formulas : (buckets : List ℕ) (trees : List FormulaTree)
    → any_holds (formulas trees) buckets ≡ some_holds buckets trees
any_holds-formulas buckets [] = refl
any_holds-formulas buckets (tree ∷ trees) = ap (λ b. holds tree buckets || b) (any_holds-formulas buckets trees)

pub holds-all_of : (buckets : List ℕ) (trees : List FormulaTree)
    → holds (all_of trees) buckets ≡ each_holds buckets trees
holds-all_of buckets [] = refl
holds-all_of buckets (tree ∷ trees) = all_hold-formulas buckets (tree ∷ trees)

holds-wanted : (buckets : List ℕ) (tree : FormulaTree) → each_holds buckets (wanted_formulas tree) ≡ holds tree buckets
holds-wanted buckets All = refl
holds-wanted buckets (Bucket bucket) = and_true (holds (Bucket bucket) buckets)
holds-wanted buckets (And all) = each_listed buckets all
holds-wanted buckets (Or any) = and_true (holds (Or any) buckets)

holds-choices : (buckets : List ℕ) (tree : FormulaTree) → some_holds buckets (choices tree) ≡ holds tree buckets
holds-choices buckets All = refl
holds-choices buckets (Bucket bucket) = or_false (holds (Bucket bucket) buckets)
holds-choices buckets (And all) = or_false (holds (And all) buckets)
holds-choices buckets (Or any) = some_listed buckets any

pub holds-both : (buckets : List ℕ) (left right : FormulaTree)
    → holds (both left right) buckets ≡ (holds left buckets && holds right buckets)
holds-both buckets left right =
    holds-all_of buckets (wanted_formulas left ++ wanted_formulas right)
    ∙ list_all-append (λ tree. holds tree buckets) (wanted_formulas left) (wanted_formulas right)
    ∙ ap (λ b. b && each_holds buckets (wanted_formulas right)) (holds-wanted buckets left)
    ∙ ap (λ b. holds left buckets && b) (holds-wanted buckets right)

pub holds-one_of : (buckets : List ℕ) (left right : FormulaTree)
    → holds (one_of left right) buckets ≡ (holds left buckets || holds right buckets)
holds-one_of buckets left right =
    any_holds-formulas buckets (choices left ++ choices right)
    ∙ list_any-append (λ tree. holds tree buckets) (choices left) (choices right)
    ∙ ap (λ b. b || some_holds buckets (choices right)) (holds-choices buckets left)
    ∙ ap (λ b. holds left buckets || b) (holds-choices buckets right)

-- ---- in memory

pub wanted_formulas-And : (all : Vec Formula Global) → map formula_tree all.items
    ≡ wanted_formulas (formula_tree (formula.And all))
wanted_formulas-And all = sym (ap wanted_formulas (and_tree all) ∙ formula_list-formulas (map formula_tree all.items))

pub choices-Or : (any : Vec Formula Global) → map formula_tree any.items ≡ choices (formula_tree (formula.Or any))
choices-Or any = sym (ap choices (or_tree any) ∙ formula_list-formulas (map formula_tree any.items))

pub and-all_of : (all : List Formula) → (all ≡ [] → ⊥)
    → And (formulas (map formula_tree all)) ≡ all_of (map formula_tree all)
and-all_of [] some = absurd (some refl)
and-all_of (first ∷ all) some = refl

pub or-one_of : (any some more : Vec Formula Global) (left right : FormulaTree) → any.items ≡ some.items ++ more.items
    → map formula_tree some.items ≡ choices left → map formula_tree more.items ≡ choices right
    → formula_tree (formula.Or any) ≡ one_of left right
or-one_of any some more left right all of_left of_right =
    or_tree any
    ∙ ap (λ items. Or (formulas (map formula_tree items))) all
    ∙ ap (λ trees. Or (formulas trees)) (map-append formula_tree some.items more.items)
    ∙ ap (λ trees. Or (formulas (trees ++ map formula_tree more.items))) of_left
    ∙ ap (λ trees. Or (formulas (choices left ++ trees))) of_right
