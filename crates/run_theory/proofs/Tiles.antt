-- What lies between two lengths is of the lines that ran there.
use Rattle.std.proofs.Common.{◌≡◌, ℕ, ◌≤◌, nat_eq, Bool, true, false, List, [], ◌∷◌}
use Rattle.std.proofs.Common.{◌++◌, filter}
use Rattle.std.proofs.Common.{take, refl, sym, ap, ◌∙◌, subst, arith, cond, ◌||◌}
use Rattle.std.specs.List.{AllByRecursion, flat_map, list_any}
use Rattle.std.proofs.lemmas.Bool.{false≢true, or_parts}
use Rattle.std.proofs.lemmas.Bool.Decides.{nat_tests}
use Rattle.std.proofs.lemmas.List.{append-nil, drop_all, length-take}
use Rattle.std.proofs.lemmas.List.Concat.{flat_map-append}
use Rattle.std.proofs.lemmas.List.Elements.{filter-append}
use Rattle.run_theory.specs.Parts.{AreApart, EachRan, PartRan, PartsRan, Ran, between, Part, all_lines, lines_of}
use Rattle.run_theory.proofs.Lists.{between_cut}
use Rattle.run_theory.proofs.Marks.{all_as, parts_below}

module _ {X : Type 0} where
  -- nothing lies between two lengths of which the first is no less
  pub between_same : (from to : ℕ) (xs : List X) → to ≤ from → between from to xs ≡ []
  between_same from to xs le = drop_all from (take to xs) (let e = length-take to xs in omega arith)

  pub filter_none : (p : X → Bool) (xs : List X) → AllByRecursion (λ x. p x ≡ false) xs → filter p xs ≡ []
  filter_none p [] all = refl
  filter_none p (x ∷ xs) all = ap (λ b. cond b (x ∷ filter p xs) (filter p xs)) all.0 ∙ filter_none p xs all.1

not_by : (n m : ℕ) (numbers : List ℕ) (b : Bool) → nat_eq m n ≡ b → list_any (nat_eq m) numbers ≡ true
    → list_any (nat_eq n) numbers ≡ false → nat_eq m n ≡ false
not_by n m numbers true e has none =
    let same : m ≡ n = grind (arith, nat_tests) in
    absurd (false≢true (sym none ∙ subst (λ w. list_any (nat_eq w) numbers ≡ true) same has))
not_by n m numbers false e has none = e

-- a number that stands among others is none that doesn't
not_among : (n m : ℕ) (numbers : List ℕ) → list_any (nat_eq m) numbers ≡ true → list_any (nat_eq n) numbers ≡ false
    → nat_eq m n ≡ false
not_among n m numbers has none = not_by n m numbers (nat_eq m n) refl has none

module _ {W H E R X : Type 0} (content : W → H → List E) (under : E → ℕ)
    (Makes : ℕ → R → (H → List E) → Type 0) (Finds : W → (H → ℕ) → (H → ℕ) → ℕ → R → Type 0) (told : E → List X)
    (tells : ℕ → R → H → List X)
    (own : (number : ℕ) (line : R) (made : H → List E) (h : H) → Makes number line made
    → flat_map told (made h) ≡ tells number line h)
    (other : (number n : ℕ) (line : R) (made : H → List E) (h : H) → Makes number line made
    → nat_eq n number ≡ false → tells n line h ≡ []) where
  abbrev told_under : ℕ → List E → List X
  told_under n history = flat_map told (filter (λ e. nat_eq (under e) n) history)

  -- lines of other numbers tell nothing
  none_tell : (whole : W) (from to : H → ℕ) (numbers : List ℕ) (lines : List R) (n : ℕ) (h : H)
      → EachRan content under Makes Finds whole from to numbers lines → list_any (nat_eq n) numbers ≡ false
      → flat_map (λ line. tells n line h) lines ≡ []
  none_tell whole from to [] [] n h each none = refl
  none_tell whole from to [] (line ∷ lines) n h each none = absurd each
  none_tell whole from to (number ∷ numbers) [] n h each none = absurd each
  none_tell whole from to (number ∷ numbers) (line ∷ lines) n h each none =
      let two = or_parts (nat_eq n number) (list_any (nat_eq n) numbers) none in
      ap (λ w. w ++ flat_map (λ line. tells n line h) lines)
      (other number n line each.0.made h each.0.makes two.0)
      ∙ none_tell whole from to numbers lines n h each.1 two.1

  tell_by : (whole : W) (from to : H → ℕ) (number : ℕ) (numbers : List ℕ) (line : R) (lines : List R) (n : ℕ)
      (h : H) (b : Bool) → nat_eq n number ≡ b → Ran content under Makes Finds whole from to number line
      → EachRan content under Makes Finds whole from to numbers lines → list_any (nat_eq number) numbers ≡ false
      → (b || list_any (nat_eq n) numbers) ≡ true
      → (list_any (nat_eq n) numbers ≡ true → flat_map (λ line. tells n line h) lines
      ≡ told_under n (between (from h) (to h) (content whole h)))
      → tells n line h ++ flat_map (λ line. tells n line h) lines ≡ told_under n
      (between (from h) (to h) (content whole h))
  tell_by whole from to number numbers line lines n h true e ran each apart has rest =
      let same : n ≡ number = grind (arith, nat_tests) in
      let none = none_tell whole from to numbers lines n h each
      (subst (λ w. list_any (nat_eq w) numbers ≡ false) (sym same) apart) in
      ap (λ w. tells n line h ++ w) none ∙ append-nil (tells n line h) ∙ ap (λ w. tells w line h) same
      ∙ sym (own number line ran.made h ran.makes) ∙ ap (flat_map told) (sym (ran.exact h))
      ∙ ap (λ w. told_under w (between (from h) (to h) (content whole h))) (sym same)
  tell_by whole from to number numbers line lines n h false e ran each apart has rest =
      ap (λ w. w ++ flat_map (λ line. tells n line h) lines) (other number n line ran.made h ran.makes e) ∙ rest has

  -- the line of a number tells all that stands there under it
  each_tells : (whole : W) (from to : H → ℕ) (numbers : List ℕ) (lines : List R) (n : ℕ) (h : H)
      → EachRan content under Makes Finds whole from to numbers lines → AreApart numbers
      → list_any (nat_eq n) numbers ≡ true
      → flat_map (λ line. tells n line h) lines ≡ told_under n (between (from h) (to h) (content whole h))
  each_tells whole from to [] lines n h each apart has = absurd (false≢true has)
  each_tells whole from to (number ∷ numbers) [] n h each apart has = absurd each
  each_tells whole from to (number ∷ numbers) (line ∷ lines) n h each apart has =
      tell_by whole from to number numbers line lines n h (nat_eq n number) refl each.0 each.1 apart.0 has
      (each_tells whole from to numbers lines n h each.1 apart.1)

  part_by : (whole : W) (from to : H → ℕ) (part : Part R) (n : ℕ) (h : H)
      (ran : PartRan content under Makes Finds whole from to part) (b : Bool) → list_any (nat_eq n) ran.numbers ≡ b
      → flat_map (λ line. tells n line h) (lines_of part) ≡ told_under n (between (from h) (to h) (content whole h))
  part_by whole from to part n h ran true e =
      each_tells whole from to ran.numbers (lines_of part) n h ran.each ran.apart e
  part_by whole from to part n h ran false e =
      none_tell whole from to ran.numbers (lines_of part) n h ran.each e
      ∙ ap (flat_map told) (sym (filter_none (λ e. nat_eq (under e) n) (between (from h) (to h) (content whole h))
      (all_as (λ x. list_any (nat_eq (under x)) ran.numbers ≡ true) (λ x. nat_eq (under x) n ≡ false)
      (λ x has. not_among n (under x) ran.numbers has e) (between (from h) (to h) (content whole h)) (ran.theirs h))))

  -- What stands under a number is what the lines of that number tell, in their order
  pub parts_tell : (whole : W) (from to : H → ℕ) (parts : List (Part R)) (n : ℕ) (h : H)
      → PartsRan content under Makes Finds whole from to parts
      → flat_map (λ line. tells n line h) (all_lines parts) ≡ told_under n (between (from h) (to h) (content whole h))
  parts_tell whole from to [] n h ran =
      let e : from h ≡ to h = ap (λ f. f h) ran in
      ap (told_under n) (sym (between_same (from h) (to h) (content whole h) (omega arith)))
  parts_tell whole from to (part ∷ parts) n h ran =
      flat_map-append (λ line. tells n line h) (lines_of part) (all_lines parts)
      ∙ ap (λ w. w ++ flat_map (λ line. tells n line h) (all_lines parts))
      (part_by whole from ran.0 part n h ran.2 (list_any (nat_eq n) ran.2.numbers) refl)
      ∙ ap (λ w. told_under n (between (from h) (ran.0 h) (content whole h)) ++ w)
      (parts_tell whole ran.0 to parts n h ran.3)
      ∙ sym (flat_map-append told (filter (λ e. nat_eq (under e) n) (between (from h) (ran.0 h) (content whole h)))
      (filter (λ e. nat_eq (under e) n) (between (ran.0 h) (to h) (content whole h))))
      ∙ ap (flat_map told)
      (sym (filter-append (λ e. nat_eq (under e) n) (between (from h) (ran.0 h) (content whole h))
      (between (ran.0 h) (to h) (content whole h)))
      ∙ ap (filter (λ e. nat_eq (under e) n))
      (sym (between_cut (from h) (ran.0 h) (to h) (content whole h) (ran.1 h)
      (parts_below content under Makes Finds whole ran.0 to parts ran.3 h))))
