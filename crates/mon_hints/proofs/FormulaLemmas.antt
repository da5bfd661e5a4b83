-- Formulas hold of more buckets too, and how their lists lie in memory.
use Rattle.std.proofs.Common.{◌≡◌, ℕ, true, List, map, refl, sym, ap, ◌∙◌, inl, inr}
use Rattle.std.proofs.lemmas.Bool.{and_parts, and_from, or_cases, or_left, or_right, false≢true}
use Rattle.std.specs.declared.vec.Vec.{Vec}
use Rattle.std.specs.declared.alloc.Global.{Global}
use Rattle.mon_hints.specs.Formulas.{FormulaTree, All, Bucket, And, Or, FormulaTrees, NoFormula, Then, formulas, holds}
use Rattle.mon_hints.specs.Formulas.{all_hold, any_holds, formula_tree, row_trees, AreAmong}
use Rattle.mon_hints.specs.declared.formulas.Formula.{Formula, Row_of-Formula, end_of-Formula, more_of-Formula}
use Rattle.mon_hints.specs.declared.formulas.Formula.{items-the_row-Formula, items_hidden-the_row-Formula-0}
use Rattle.mon_hints.specs.declared.formulas.Formula.TheBlock.{hidden-the_row-Formula-0}
use Rattle.mon_hints.specs.declared.formulas.Formula.TheVariants as formula

mutual
  pub holds_more : (tree : FormulaTree) (buckets more : List ℕ) → AreAmong buckets more → holds tree buckets ≡ true →
      holds tree more ≡ true
  holds_more All buckets more all h = refl
  holds_more (Bucket bucket) buckets more all h = all bucket h
  holds_more (And trees) buckets more all h = all_hold_more trees buckets more all h
  holds_more (Or trees) buckets more all h = any_holds_more trees buckets more all h

  all_hold_more : (trees : FormulaTrees) (buckets more : List ℕ) → AreAmong buckets more → all_hold trees buckets
      ≡ true →
      all_hold trees more ≡ true
  all_hold_more NoFormula buckets more all h = refl
  all_hold_more (Then tree trees) buckets more all h =
      let parts = and_parts (holds tree buckets) (all_hold trees buckets) h in
      and_from (holds tree more) (all_hold trees more) (holds_more tree buckets more all parts.0)
      (all_hold_more trees buckets more all parts.1)

  any_holds_more : (trees : FormulaTrees) (buckets more : List ℕ) → AreAmong buckets more → any_holds trees buckets
      ≡ true →
      any_holds trees more ≡ true
  any_holds_more NoFormula buckets more all h = absurd (false≢true h)
  any_holds_more (Then tree trees) buckets more all h = elim (or_cases (holds tree buckets) (any_holds trees buckets)
      h) [
        | inl now ↦ or_left (holds tree more) (any_holds trees more) (holds_more tree buckets more all now)
        | inr later ↦ or_right (holds tree more) (any_holds trees more) (any_holds_more trees buckets more all later)
      ]

-- ---- lists of formulas

pub row_listed : (n : _) (row : Row_of-Formula n) → row_trees row
    ≡ formulas (map formula_tree (items-the_row-Formula n row))
row_listed n end_of-Formula = refl
row_listed n (more_of-Formula {n = m} first rest) = ap (Then (formula_tree first)) (row_listed m rest)

hidden_listed : (several : Vec Formula Global) →
    row_trees (hidden-the_row-Formula-0 several) ≡ formulas (map formula_tree several.items)
hidden_listed several =
    row_listed _ (hidden-the_row-Formula-0 several) ∙ ap (λ all. formulas (map formula_tree all))
    (items_hidden-the_row-Formula-0 several)

pub and_tree : (several : Vec Formula Global) → formula_tree (formula.And several)
    ≡ And (formulas (map formula_tree several.items))
and_tree several = ap And (hidden_listed several)

pub or_tree : (several : Vec Formula Global) → formula_tree (formula.Or several)
    ≡ Or (formulas (map formula_tree several.items))
or_tree several = ap Or (hidden_listed several)

-- the same of a formula that is matched, whose list is lent as a slice
pub and_seen : (whole : Formula) (several : Vec Formula Global) (lent : List Formula) → whole ≡ formula.And several
    → lent ≡ several.items →
    formula_tree whole ≡ And (formulas (map formula_tree lent))
and_seen whole several lent is same =
    ap formula_tree is ∙ and_tree several ∙ ap (λ all. And (formulas (map formula_tree all))) (sym same)

pub or_seen : (whole : Formula) (several : Vec Formula Global) (lent : List Formula) → whole ≡ formula.Or several
    → lent ≡ several.items →
    formula_tree whole ≡ Or (formulas (map formula_tree lent))
or_seen whole several lent is same =
    ap formula_tree is ∙ or_tree several ∙ ap (λ all. Or (formulas (map formula_tree all))) (sym same)
