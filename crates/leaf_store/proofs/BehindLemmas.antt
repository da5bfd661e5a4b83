-- An entry that comes behind all that were brought to their replicas, and is brought at once.
use Rattle.std.proofs.Common.{◌≡◌, ◌∙◌, ◌≤◌, ℕ, Bool, true, false, List, [], ◌∷◌, ◌++◌, drop, length, refl, sym, ap, subst}
use Rattle.std.proofs.Common.{append-nil, arith}
use Rattle.mon_value.specs.LeafHistories.{IsWellFormed}
use Rattle.mon_value.specs.declared.histories.Entry.{Entry}
use Rattle.leaf_store.specs.declared.kept.Kept.{Kept}
use Rattle.leaf_store.specs.within.Replicas.{IsInTwoParts, Replicas, SettlesEntry, shown_entries}
use Rattle.leaf_store.proofs.StepLemmas.{settled}

pub by_test : (P : Type 0) (b : Bool) → (b ≡ true → P) → (b ≡ false → P) → P
by_test P true then other = then refl
by_test P false then other = other refl

pub none_left : {A : Type 0} (es : List A) → drop (length es) es ≡ []
none_left [] = refl
none_left (e ∷ es) = none_left es

pub none_behind : {A : Type 0} (es : List A) (n : ℕ) → n ≤ length es → length es ≤ n → drop n es ≡ []
none_behind es n within all =
    let same : n ≡ length es = omega (arith, within, all) in ap (λ (k : ℕ). drop k es) same ∙ none_left es

module _ (replicas : Replicas) (ks : List Kept) (left history : List Entry) (e : Entry)
    (holds : IsInTwoParts replicas ks left) (none : left ≡ [])
    (same : shown_entries replicas ks ++ left ≡ history) where
  pub shown : shown_entries replicas ks ≡ history
  shown = sym (append-nil (shown_entries replicas ks))
      ∙ ap (λ (es : List Entry). shown_entries replicas ks ++ es) (sym none) ∙ same

  pub comes_behind : IsWellFormed (history ++ e ∷ []) → IsInTwoParts replicas ks (e ∷ [])
  comes_behind formed = record {
    there = holds.there;
    formed = subst (λ (es : List Entry). IsWellFormed (es ++ e ∷ [])) (sym shown) formed;
    holds = holds.holds;
  }

  pub is_behind : (new : Replicas) (own : Kept) → IsInTwoParts replicas ks (e ∷ []) → SettlesEntry replicas new e own
      → IsInTwoParts new (ks ++ own ∷ []) left × (shown_entries new (ks ++ own ∷ []) ++ left ≡ history ++ e ∷ [])
  is_behind new own two settles =
      let step = settled replicas new ks own e [] two settles in (
        subst (IsInTwoParts new (ks ++ own ∷ [])) (sym none) step.0,
        ap (λ (es : List Entry). shown_entries new (ks ++ own ∷ []) ++ es) none ∙ step.1
            ∙ ap (λ (es : List Entry). es ++ e ∷ []) shown,
      )
