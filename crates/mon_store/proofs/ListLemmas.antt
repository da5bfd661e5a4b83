-- Lists whose items differ, and where an item stands that was mapped, kept or put together with others.
use Rattle.std.proofs.Common.{◌≡◌, ◌≢◌, List, [], ◌∷◌, ◌++◌}
use Rattle.std.proofs.Common.{refl, sym, ap, ◌∙◌, arith, inl, inr, ◌⊎◌}
use Rattle.std.specs.Prelude.{Contains}
use mathlib.Core.List.{IsPrefix}
use Rattle.std.proofs.lemmas.List.{append_assoc, append_cancel_left}
use Rattle.std.proofs.lemmas.List.Elements.{Contains-append_cases}
use Rattle.write_core.proofs.AckLemmas.{contains_later, contains_one}
use Rattle.mon_value.proofs.PlainLemmas.{contains_none}

-- ---- where an item stands

-- ---- items that differ

module _ {X : Type 0} where
  -- none stands in a list twice
  abbrev pub Differ : List X → Type 0
  Differ [] = Unit {0}
  Differ (x ∷ xs) = ((y : X) → Contains xs y → x ≢ y) × Differ xs

  pub differ-append : (xs ys : List X) → Differ xs → Differ ys
      → ((x y : X) → Contains xs x → Contains ys y → x ≢ y) → Differ (xs ++ ys)
  differ-append [] ys h k apart = k
  differ-append (x ∷ xs) ys h k apart = (
    λ y there. by y (Contains-append_cases xs ys y there),
    differ-append xs ys h.1 k (λ a b in_a in_b. apart a b (contains_later x a xs in_a) in_b),
  )
    where
      by : (y : X) → Contains xs y ⊎ Contains ys y → x ≢ y
      by y (inl here) = h.0 y here
      by y (inr there) = apart x y (0, omega arith, refl) there

  abbrev rest : List X → List X
  rest [] = []
  rest (x ∷ xs) = xs

  abbrev first_or : X → List X → X
  first_or d [] = d
  first_or d (x ∷ xs) = x

  -- a beginning that has each item of a list whose items differ is all of it
  all_there : (front all : List X) → IsPrefix front all → Differ all
      → ((x : X) → Contains all x → Contains front x) → front ≡ all
  all_there [] [] p d h = refl
  all_there [] (x ∷ all) p d h = absurd (contains_none x (h x (0, omega arith, refl)))
  all_there (x ∷ front) [] p d h = absurd cc
  all_there (x ∷ front) (y ∷ all) p d h =
      let same : x ≡ y = ap (first_or x) p.1 in
      let later : front ≡ all = all_there front all (p.0, ap rest p.1) d.1
      (λ z there. by z there (Contains-append_cases (x ∷ []) front z (h z (contains_later y z all there)))) in
      (λ i. same i ∷ later i)
    where
      by : (z : X) → Contains all z → Contains (x ∷ []) z ⊎ Contains front z → Contains front z
      by z there (inl here) = absurd (d.0 z there (sym (ap (first_or x) p.1) ∙ contains_one x z here))
      by z there (inr later) = later

  -- what begins with some items and is the beginning of them and of others that differ, and has all of these behind the
  -- first, is all
  pub all_came : (was now more : List X) (p : IsPrefix was now) → IsPrefix now (was ++ more) → Differ more
      → ((x : X) → Contains more x → Contains p.0 x) → now ≡ was ++ more
  all_came was now more p q d has =
      let front : IsPrefix p.0 more = (
        q.0,
        append_cancel_left was (p.0 ++ q.0) more
            (sym (append_assoc was p.0 q.0) ∙ ap (λ (xs : List X). xs ++ q.0) p.1 ∙ q.1),
      ) in
      sym p.1 ∙ ap (λ (xs : List X). was ++ xs) (all_there p.0 more front d has)
