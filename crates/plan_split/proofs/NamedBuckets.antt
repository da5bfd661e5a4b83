-- A formula that holds of some buckets holds of others that have what it names of them.
use Rattle.std.proofs.Common.{◌≡◌, ◌∙◌, ℕ, true, false, List, ◌++◌}
use Rattle.std.proofs.Common.{eqb, refl, inl, inr}
use Rattle.std.proofs.lemmas.Bool.{and_from, and_parts, eq-eqb, or_cases, or_left, or_right}
use Rattle.std.proofs.lemmas.List.Folds.{list_any-append}
use Rattle.mon_hints.specs.Formulas.{All as Always, And, Bucket, FormulaTree, FormulaTrees, NoFormula, Or, Then}
use Rattle.mon_hints.specs.Formulas.{all_hold, all_named, any_holds, holds, named_buckets, is_among}

-- what a formula names of these buckets is among those
abbrev pub NamedAreAmong : List ℕ → List ℕ → List ℕ → Type 0
NamedAreAmong named some others =
    (bucket : ℕ) → is_among bucket named ≡ true → is_among bucket some ≡ true → is_among bucket others ≡ true

first_named : (a b some others : List ℕ) → NamedAreAmong (a ++ b) some others → NamedAreAmong a some others
first_named a b some others all bucket here =
    all bucket (list_any-append (λ other. eqb bucket other) a b ∙ or_left (is_among bucket a) (is_among bucket b) here)

second_named : (a b some others : List ℕ) → NamedAreAmong (a ++ b) some others → NamedAreAmong b some others
second_named a b some others all bucket here =
    all bucket (list_any-append (λ other. eqb bucket other) a b ∙ or_right (is_among bucket a) (is_among bucket b) here)

mutual
  holds_on : (tree : FormulaTree) (some others : List ℕ) → NamedAreAmong (named_buckets tree) some others
      → holds tree some ≡ true → holds tree others ≡ true
  holds_on Always some others named h = refl
  holds_on (Bucket bucket) some others named h =
      named bucket (or_left (eqb bucket bucket) false (eq-eqb bucket bucket refl)) h
  holds_on (And trees) some others named h = all_on trees some others named h
  holds_on (Or trees) some others named h = any_on trees some others named h

  all_on : (trees : FormulaTrees) (some others : List ℕ) → NamedAreAmong (all_named trees) some others
      → all_hold trees some ≡ true → all_hold trees others ≡ true
  all_on NoFormula some others named h = refl
  all_on (Then tree trees) some others named h =
      let both = and_parts (holds tree some) (all_hold trees some) h in
      and_from (holds tree others) (all_hold trees others)
      (holds_on tree some others (first_named (named_buckets tree) (all_named trees) some others named) both.0)
      (all_on trees some others (second_named (named_buckets tree) (all_named trees) some others named) both.1)

  pub any_on : (trees : FormulaTrees) (some others : List ℕ) → NamedAreAmong (all_named trees) some others
      → any_holds trees some ≡ true → any_holds trees others ≡ true
  any_on NoFormula some others named h = h
  any_on (Then tree trees) some others named h =
      elim (or_cases (holds tree some) (any_holds trees some) h) [
        | inl first ↦ or_left (holds tree others) (any_holds trees others)
            (holds_on tree some others (first_named (named_buckets tree) (all_named trees) some others named) first)
        | inr rest ↦ or_right (holds tree others) (any_holds trees others)
            (any_on trees some others (second_named (named_buckets tree) (all_named trees) some others named) rest)
      ]
