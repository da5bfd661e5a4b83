-- A leaf's own hint words: a formula holds by them where it holds of the leaf's buckets.
use Rattle.std.proofs.Common.{◌≡◌, ◌∙◌, ◌||◌, ℕ, Bool, true, false, cond, eqb, List, [], ◌∷◌, map, refl, sym, ap}
use Rattle.std.proofs.Common.{subst, inl, inr}
use Rattle.std.proofs.lemmas.Bool.{eqb-true, or_cases, or_left, or_right}
use Rattle.mon_hints.specs.Formulas.{FormulaTrees, all_named, any_holds, formula_tree, formulas, AreAmong, is_among}
use Rattle.mon_hints.specs.Hints.{buckets_of_child, has_bit}
use Rattle.typed_trees.specs.declared.plans.Plan.{Plan}
use Rattle.plan_split.proofs.NamedBuckets.{any_on}
use Rattle.plan_split.specs.Meeting.{is_plan_met, lets_child_in}

abbrev pub own_word : List ℕ → ℕ → ℕ
own_word own bucket = cond (is_among bucket own) 1 0

own_bit : (b : Bool) → has_bit (cond b 1 0) 0 ≡ b
own_bit true = refl
own_bit false = refl

module _ (own : List ℕ) where
  abbrev found : List ℕ → List ℕ
  found named = buckets_of_child named (map (own_word own) named) 0

  first_found : (bucket : ℕ) (named : List ℕ) → found (bucket ∷ named) ≡ cond (is_among bucket own)
      (bucket ∷ found named) (found named)
  first_found bucket named =
      ap (λ b. cond b (bucket ∷ found named) (found named)) (own_bit (is_among bucket own))

  here_by : (n bucket : ℕ) (rest : List ℕ) (b : Bool) → is_among n (cond b (bucket ∷ rest) rest) ≡ true
      → (b ≡ true → eqb n bucket ≡ true → is_among n own ≡ true) → (is_among n rest ≡ true → is_among n own ≡ true)
      → is_among n own ≡ true
  here_by n bucket rest true here first later = elim (or_cases (eqb n bucket) (is_among n rest) here) [
    | inl same ↦ first refl same
    | inr more ↦ later more
  ]
  here_by n bucket rest false here first later = later here

  -- what is found is the leaf's
  found_own : (named : List ℕ) (n : ℕ) → is_among n (found named) ≡ true → is_among n own ≡ true
  found_own [] n here = absurd cc
  found_own (bucket ∷ named) n here =
      here_by n bucket (found named) (is_among bucket own)
      (sym (ap (is_among n) (first_found bucket named)) ∙ here)
      (λ is same. subst (λ (m : ℕ). is_among m own ≡ true) (sym (eqb-true n bucket same)) is)
      (found_own named n)

  there_by : (n bucket : ℕ) (rest : List ℕ) (b : Bool) → (eqb n bucket ≡ true → b ≡ true)
      → (eqb n bucket || false) ≡ true → is_among n (cond b (bucket ∷ rest) rest) ≡ true
  there_by n bucket rest true is here =
      or_left (eqb n bucket) (is_among n rest) (only (eqb n bucket) here)
    where
      only : (b : Bool) → (b || false) ≡ true → b ≡ true
      only true e = refl
      only false e = e
  there_by n bucket rest false is here = absurd (clash (eqb n bucket) here is)
    where
      clash : (b : Bool) → (b || false) ≡ true → (b ≡ true → false ≡ true) → ⊥
      clash true e is = let no = is refl in absurd cc
      clash false e is = absurd cc

  later_by : (n bucket : ℕ) (rest : List ℕ) (b : Bool) → is_among n rest ≡ true
      → is_among n (cond b (bucket ∷ rest) rest) ≡ true
  later_by n bucket rest true here = or_right (eqb n bucket) (is_among n rest) here
  later_by n bucket rest false here = here

  -- and what of the leaf's is named is found
  own_found : (named : List ℕ) (n : ℕ) → is_among n named ≡ true → is_among n own ≡ true
      → is_among n (found named) ≡ true
  own_found [] n here is = absurd cc
  own_found (bucket ∷ named) n here is =
      ap (is_among n) (first_found bucket named)
      ∙ (elim (or_cases (eqb n bucket) (is_among n named) here) [
        | inl same ↦ there_by n bucket (found named) (is_among bucket own)
            (λ e. subst (λ (m : ℕ). is_among m own ≡ true) (eqb-true n bucket e) is)
            (or_left (eqb n bucket) false same)
        | inr more ↦ later_by n bucket (found named) (is_among bucket own) (own_found named n more is)
      ])

  same_truth : (a b : Bool) → (a ≡ true → b ≡ true) → (b ≡ true → a ≡ true) → a ≡ b
  same_truth true true f g = refl
  same_truth false false f g = refl
  same_truth true false f g = sym (f refl)
  same_truth false true f g = g refl

  holds_alike : (trees : FormulaTrees) (named : List ℕ) → AreAmong (all_named trees) named
      → any_holds trees (found named) ≡ any_holds trees own
  holds_alike trees named listed =
      same_truth (any_holds trees (found named)) (any_holds trees own)
      (any_on trees (found named) own (λ n in_named here. found_own named n here))
      (any_on trees own (found named) (λ n in_named here. own_found named n (listed n in_named) here))

  -- a plan lets the leaf in by its own words where a formula holds of its buckets
  pub met_by_words : (plan : Plan) (words : List ℕ)
      → AreAmong (all_named (formulas (map formula_tree plan.formulas))) plan.buckets
      → words ≡ map (own_word own) plan.buckets → lets_child_in plan words 0 ≡ is_plan_met plan own
  met_by_words plan words listed is =
      ap (λ (words : List ℕ). lets_child_in plan words 0) is
      ∙ holds_alike (formulas (map formula_tree plan.formulas)) plan.buckets listed
