-- In a run each entry that is a line's stands where the line ran, if no line that ran before or behind it made one.
use Rattle.std.proofs.Common.{◌≡◌, ℕ, zero, suc, ◌+◌, ◌-◌, ◌<◌, ◌≤◌, nat_eq, Bool, true, false, ◌||◌, List, [], ◌∷◌}
use Rattle.std.proofs.Common.{◌++◌, length, filter, cond, slice_get, Some, refl, ap, ◌∙◌, subst, arith, inl, inr}
use Rattle.std.specs.List.{list_any}
use Rattle.std.proofs.lemmas.Bool.{cases_lt, false≢true, eqb-true}
use Rattle.std.proofs.lemmas.Bool.Decides.{nat_tests}
use mathlib.Core.Logic.{◌⊎◌}
use Rattle.run_theory.specs.InPlace.{AreDistinct, AreNotFirst, AreUnder, ArePlaced, FoundThere}
use Rattle.run_theory.specs.Parts.{AreBelow, EachRan, PartRan, PartsRan, Ran, between, Part, lines_of}
use Rattle.run_theory.proofs.Marks.{parts_below, parts_push}
use Rattle.run_theory.proofs.Owned.{all_between}

-- ---- lists

abbrev Stands : {X : Type 0} → List X → X → Type 0
Stands xs x = (j : ℕ) × (slice_get xs j ≡ Some x)

abbrev nil_of : (X : Type 0) → List X
nil_of X = []

module _ {X : Type 0} where
  get_nothing : (k : ℕ) (x : X) (C : Type 0) → slice_get (nil_of X) k ≡ Some x → C
  get_nothing zero x C there = absurd cc
  get_nothing (suc k) x C there = absurd cc

  one_back : (x : X) (xs : List X) (y : X) → Stands xs y → Stands (x ∷ xs) y
  one_back x xs y at = (suc at.0, at.1)

  kept_first : (p : X → Bool) (x : X) (xs : List X) (b : Bool) → p x ≡ b → b ≡ true
      → Stands (cond b (x ∷ filter p xs) (filter p xs)) x
  kept_first p x xs true is passes = (0, refl)
  kept_first p x xs false is passes = absurd (false≢true passes)

  kept_later : (p : X → Bool) (x : X) (xs : List X) (y : X) (b : Bool) → Stands (filter p xs) y
      → Stands (cond b (x ∷ filter p xs) (filter p xs)) y
  kept_later p x xs y true at = one_back x (filter p xs) y at
  kept_later p x xs y false at = at

  -- what stands in a list and passes stands in what the test keeps
  pub kept_stands : (p : X → Bool) (xs : List X) (k : ℕ) (y : X) → slice_get xs k ≡ Some y → p y ≡ true
      → Stands (filter p xs) y
  kept_stands p [] k y there passes = get_nothing k y (Stands (filter p (nil_of X)) y) there
  kept_stands p (x ∷ xs) zero y there passes =
      let same : x ≡ y = cc in
      subst (λ w. Stands (filter p (x ∷ xs)) w) same (kept_first p x xs (p x) refl (ap p same ∙ passes))
  kept_stands p (x ∷ xs) (suc k) y there passes =
      kept_later p x xs y (p x) (kept_stands p xs k y there passes)

  -- what stands between two lengths stands in what lies there
  pub between_stands : (from to : ℕ) (xs : List X) (k : ℕ) (y : X) → slice_get xs k ≡ Some y → from ≤ k → k < to
      → Stands (between from to xs) y
  between_stands from zero xs k y there low high = absurd (omega arith)
  between_stands from (suc to) [] k y there low high =
      get_nothing k y (Stands (between from (suc to) (nil_of X)) y) there
  between_stands zero (suc to) (x ∷ xs) zero y there low high = (0, there)
  between_stands zero (suc to) (x ∷ xs) (suc k) y there low high =
      let at = between_stands zero to xs k y there (omega arith) (omega arith) in (suc at.0, at.1)
  between_stands (suc from) (suc to) (x ∷ xs) zero y there low high = absurd (omega arith)
  between_stands (suc from) (suc to) (x ∷ xs) (suc k) y there low high =
      between_stands from to xs k y there (omega arith) (omega arith)

pub same_to : (n m : ℕ) → n ≡ m → nat_eq n m ≡ true
same_to n m is = grind (arith, nat_tests)

either_by : {C : Type 0} (b r : Bool) → (b || r) ≡ true → (b ≡ true → C) → (r ≡ true → C) → C
either_by true r is here there = here refl
either_by false r is here there = there is

module _ {W H E R : Type 0} (content : W → H → List E) (under : E → ℕ)
    (Makes : ℕ → R → (H → List E) → Type 0) (Finds : W → (H → ℕ) → (H → ℕ) → ℕ → R → Type 0) (whole : W) where
  -- ---- who made an entry

  -- a line ran between two marks that made an entry
  record Owner (from to : H → ℕ) (h : H) (k : ℕ) (e : E) : Type 0 where
    pub line : R
    pub first : H → ℕ
    pub last : H → ℕ
    pub number : ℕ
    pub ran : Ran content under Makes Finds whole first last number line
    pub there : Stands (ran.made h) e
    pub low : AreBelow from first
    pub high : AreBelow last to
    pub since : first h ≤ k
    pub until : k < last h

  owned_wider : (from to less more : H → ℕ) (h : H) (k : ℕ) (e : E) → AreBelow less from → AreBelow to more
      → Owner from to h k e
      → Owner less more h k e
  owned_wider from to less more h k e low high owner = record {
    line = owner.line;
    first = owner.first;
    last = owner.last;
    number = owner.number;
    ran = owner.ran;
    there = owner.there;
    low = λ g. let a = low g in let b = owner.low g in omega arith;
    high = λ g. let a = high g in let b = owner.high g in omega arith;
    since = owner.since;
    until = owner.until;
  }

  owned_by : (from to : H → ℕ) (number : ℕ) (line : R) (h : H) (k : ℕ) (e : E)
      → Ran content under Makes Finds whole from to number line → slice_get (content whole h) k ≡ Some e → from h ≤ k
      → k < to h → under e ≡ number → Owner from to h k e
  owned_by from to number line h k e ran there low high mine =
      let at = between_stands (from h) (to h) (content whole h) k e there low high in
      let kept = kept_stands (λ x. nat_eq (under x) number) (between (from h) (to h) (content whole h)) at.0 e at.1
      (same_to (under e) number mine) in
      record {
        line = line;
        first = from;
        last = to;
        number = number;
        ran = ran;
        there = subst (λ w. Stands w e) (ran.exact h) kept;
        low = λ g. omega arith;
        high = λ g. omega arith;
        since = low;
        until = high;
      }

  owner_in : (from to : H → ℕ) (numbers : List ℕ) (lines : List R) (h : H) (k : ℕ) (e : E)
      → EachRan content under Makes Finds whole from to numbers lines → list_any (nat_eq (under e)) numbers ≡ true
      → slice_get (content whole h) k ≡ Some e → from h ≤ k → k < to h → Owner from to h k e
  owner_in from to [] lines h k e each has there low high = absurd (false≢true has)
  owner_in from to (number ∷ numbers) [] h k e each has there low high = absurd each
  owner_in from to (number ∷ numbers) (line ∷ lines) h k e each has there low high =
      either_by (nat_eq (under e) number) (list_any (nat_eq (under e)) numbers) has
      (λ is. owned_by from to number line h k e each.0 there low high (eqb-true (under e) number is))
      (λ rest. owner_in from to numbers lines h k e each.1 rest there low high)

  owner_of_part : (from to : H → ℕ) (part : Part R) (h : H) (k : ℕ) (e : E)
      → PartRan content under Makes Finds whole from to part → slice_get (content whole h) k ≡ Some e → from h ≤ k
      → k < to h → Owner from to h k e
  owner_of_part from to part h k e ran there low high =
      owner_in from to ran.numbers (lines_of part) h k e ran.each
      (all_between (λ x. list_any (nat_eq (under x)) ran.numbers ≡ true) (from h) (to h) (content whole h) k e
      (ran.theirs h) there low high)
      there low high

  by_place : {C : Type 0} (k n : ℕ) → (k < n) ⊎ (n ≤ k) → (k < n → C) → (n ≤ k → C) → C
  by_place k n (inl less) here there = here less
  by_place k n (inr more) here there = there more

  -- some line made what stands where the parts ran
  owner_of : (from to : H → ℕ) (parts : List (Part R)) (h : H) (k : ℕ) (e : E)
      → PartsRan content under Makes Finds whole from to parts → slice_get (content whole h) k ≡ Some e → from h ≤ k
      → k < to h → Owner from to h k e
  owner_of from to [] h k e ran there low high =
      let same : from h ≡ to h = ap (λ f. f h) ran in absurd (omega arith)
  owner_of from to (part ∷ parts) h k e ran there low high =
      let below = parts_below content under Makes Finds whole ran.0 to parts ran.3 in
      by_place k (ran.0 h) (cases_lt k (ran.0 h))
      (λ less. owned_wider from ran.0 from to h k e (λ g. omega arith) below
      (owner_of_part from ran.0 part h k e ran.2 there low less))
      (λ more. owned_wider ran.0 to from to h k e ran.1 (λ g. omega arith)
      (owner_of ran.0 to parts h k e ran.3 there more high))

  -- ---- entries in their places

  module _ (is_of : R → H → ℕ → E → Bool) (begin end : H → ℕ)
      (distinct : AreDistinct content under Makes Finds is_of whole)
      (first : AreNotFirst content under Makes Finds is_of whole begin)
      (all : (h : H) → length (content whole h) ≤ end h) where
    abbrev There : W → (H → ℕ) → (H → ℕ) → ℕ → R → Type 0
    There = FoundThere content is_of Finds

    in_list : (xs : List E) (k : ℕ) (e : E) → slice_get xs k ≡ Some e → k < length xs
    in_list [] k e there = get_nothing k e (k < length (nil_of E)) there
    in_list (x ∷ xs) zero e there = omega arith
    in_list (x ∷ xs) (suc k) e there = let l = in_list xs k e there in omega arith

    module _ (from to : H → ℕ) (number : ℕ) (line : R) (ran : Ran content under Makes Finds whole from to number line)
        (front parts : List (Part R)) (before : PartsRan content under Makes Finds whole begin from front)
        (behind : PartsRan content under Makes Finds whole to end parts) where
      not_before : (h : H) (k : ℕ) (e : E) → slice_get (content whole h) k ≡ Some e → is_of line h k e ≡ true
          → begin h ≤ k → k < from h → ⊥
      not_before h k e there is low high =
          let owner = owner_of begin from front h k e before there low high in
          (distinct owner.first owner.last from to owner.number number owner.line line h owner.there.0 k e owner.ran ran
          owner.high there).0 owner.there.1 owner.until is

      not_behind : (h : H) (k : ℕ) (e : E) → slice_get (content whole h) k ≡ Some e → is_of line h k e ≡ true
          → to h ≤ k → ⊥
      not_behind h k e there is low =
          let within = in_list (content whole h) k e there in let most = all h in
          let owner = owner_of to end parts h k e behind there low (omega arith) in
          (distinct from to owner.first owner.last number owner.number line owner.line h owner.there.0 k e ran owner.ran
          owner.low there).1 owner.there.1 owner.since is

      at_least : (h : H) (k : ℕ) (e : E) → slice_get (content whole h) k ≡ Some e → is_of line h k e ≡ true
          → from h ≤ k
      at_least h k e there is = by_place k (from h) (cases_lt k (from h))
          (λ less. by_place k (begin h) (cases_lt k (begin h))
          (λ none. absurd (first from to number line h k e ran
          (parts_below content under Makes Finds whole begin from front before) there none is))
          (λ more. absurd (not_before h k e there is more less)))
          (λ more. more)

      below : (h : H) (k : ℕ) (e : E) → slice_get (content whole h) k ≡ Some e → is_of line h k e ≡ true → k < to h
      below h k e there is = by_place k (to h) (cases_lt k (to h)) (λ less. less)
          (λ more. absurd (not_behind h k e there is more))

      ran_there : Ran content under Makes There whole from to number line
      ran_there = record {
        made = ran.made;
        makes = ran.makes;
        exact = ran.exact;
        found = (ran.found, (λ h k e there is. (at_least h k e there is, below h k e there is)));
      }

    each_there : (from to : H → ℕ) (numbers : List ℕ) (lines : List R) (front parts : List (Part R))
        → PartsRan content under Makes Finds whole begin from front
        → PartsRan content under Makes Finds whole to end parts
        → EachRan content under Makes Finds whole from to numbers lines
        → EachRan content under Makes There whole from to numbers lines
    each_there from to [] [] front parts before behind each = tt
    each_there from to [] (line ∷ lines) front parts before behind each = absurd each
    each_there from to (number ∷ numbers) [] front parts before behind each = absurd each
    each_there from to (number ∷ numbers) (line ∷ lines) front parts before behind each = (
      ran_there from to number line each.0 front parts before behind,
      each_there from to numbers lines front parts before behind each.1,
    )

    parts_there : (from : H → ℕ) (front parts : List (Part R))
        → PartsRan content under Makes Finds whole begin from front
        → PartsRan content under Makes Finds whole from end parts
        → PartsRan content under Makes There whole from end parts
    parts_there from front [] before ran = ran
    parts_there from front (part ∷ parts) before ran = (
      ran.0,
      ran.1,
      record {
        numbers = ran.2.numbers;
        each = each_there from ran.0 ran.2.numbers (lines_of part) front parts before ran.3 ran.2.each;
        apart = ran.2.apart;
        theirs = ran.2.theirs;
      },
      parts_there ran.0 (front ++ part ∷ []) parts
          (parts_push content under Makes Finds whole begin from ran.0 front part before ran.1 ran.2) ran.3,
    )

    -- each line ran where all entries stand that are its own
    pub all_there : (parts : List (Part R)) → PartsRan content under Makes Finds whole begin end parts
        → PartsRan content under Makes There whole begin end parts
    all_there parts ran = parts_there begin [] parts refl ran

    pub there_placed : AreUnder content under Makes Finds is_of whole → ArePlaced content under Makes There is_of whole
    there_placed mine from to number line h k e ran there is =
        let at = ran.found.1 h k e there is in
        let plain : Ran content under Makes Finds whole from to number line = record {
          made = ran.made;
          makes = ran.makes;
          exact = ran.exact;
          found = ran.found.0;
        } in
        (at.0, at.1, mine from to number line h k e plain there at.0 at.1 is)
