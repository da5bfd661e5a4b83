-- Marks stay as histories grow, go on with a part more, and say of each line what holds of it in its place.
use Rattle.std.proofs.Common.{◌≡◌, ℕ, nat_eq, true, List, [], ◌∷◌}
use Rattle.std.proofs.Common.{◌++◌, filter}
use Rattle.std.proofs.Common.{refl, sym, ap, ◌∙◌, subst, arith}
use Rattle.std.specs.List.{AllByRecursion, list_any}
use Rattle.run_theory.specs.Parts.{AreBelow, EachRan, GrowAlong, IsWithin, PartRan, PartsRan, Ran, RanBefore, RanBehind}
use Rattle.run_theory.specs.Parts.{Each, Part, all_lines, lines_of}
use Rattle.run_theory.proofs.Lists.{between_stays}

module _ {R : Type 0} where
  pub all_apart : (P : R → Type 0) (xs ys : List R) → AllByRecursion P xs → AllByRecursion P ys
      → AllByRecursion P (xs ++ ys)
  all_apart P [] ys p q = q
  all_apart P (x ∷ xs) ys p q = (p.0, all_apart P xs ys p.1 q)

  pub all_as : (P Q : R → Type 0) → ((x : R) → P x → Q x) → (xs : List R) → AllByRecursion P xs → AllByRecursion Q xs
  all_as P Q f [] p = tt
  all_as P Q f (x ∷ xs) p = (f x p.0, all_as P Q f xs p.1)

module _ {W H E R : Type 0} (content : W → H → List E) (under : E → ℕ)
    (Makes : ℕ → R → (H → List E) → Type 0) (Finds : W → (H → ℕ) → (H → ℕ) → ℕ → R → Type 0) where
  pub parts_below : (whole : W) (from to : H → ℕ) (parts : List (Part R))
      → PartsRan content under Makes Finds whole from to parts → AreBelow from to
  parts_below whole from to [] ran = λ h. let e : from h ≡ to h = ap (λ f. f h) ran in omega arith
  parts_below whole from to (part ∷ parts) ran = λ h.
      let a = ran.1 h in let b = parts_below whole ran.0 to parts ran.3 h in omega arith

  pub within_before : (whole : W) (from to : H → ℕ) → AreBelow from to → IsWithin content to whole
      → IsWithin content from whole
  within_before whole from to below within = λ h. let a = below h in let b = within h in omega arith

  -- ---- a part more

  pub parts_push : (whole : W) (from mid to : H → ℕ) (parts : List (Part R)) (part : Part R)
      → PartsRan content under Makes Finds whole from mid parts → AreBelow mid to
      → PartRan content under Makes Finds whole mid to part
      → PartsRan content under Makes Finds whole from to (parts ++ part ∷ [])
  parts_push whole from mid to [] part ran below last = (
    to,
    (λ h. let a : from h ≡ mid h = ap (λ f. f h) ran in let b = below h in omega arith),
    subst (λ f. PartRan content under Makes Finds whole f to part) (sym ran) last,
    refl,
  )
  parts_push whole from mid to (first ∷ parts) part ran below last =
      (ran.0, ran.1, ran.2, parts_push whole ran.0 mid to parts part ran.3 below last)

  -- ---- what holds of each line

  each_before : (whole : W) (from to : H → ℕ) (numbers : List ℕ) (lines : List R)
      → EachRan content under Makes Finds whole from to numbers lines
      → AllByRecursion (RanBefore content under Makes Finds whole to) lines
  each_before whole from to [] [] each = tt
  each_before whole from to [] (line ∷ lines) each = absurd each
  each_before whole from to (number ∷ numbers) [] each = tt
  each_before whole from to (number ∷ numbers) (line ∷ lines) each = (
    record { from = from; to = to; number = number; ran = each.0; below = λ h. omega arith },
    each_before whole from to numbers lines each.1,
  )

  each_behind : (whole : W) (from to : H → ℕ) (numbers : List ℕ) (lines : List R)
      → EachRan content under Makes Finds whole from to numbers lines
      → AllByRecursion (RanBehind content under Makes Finds whole from) lines
  each_behind whole from to [] [] each = tt
  each_behind whole from to [] (line ∷ lines) each = absurd each
  each_behind whole from to (number ∷ numbers) [] each = tt
  each_behind whole from to (number ∷ numbers) (line ∷ lines) each = (
    record { from = from; to = to; number = number; ran = each.0; below = λ h. omega arith },
    each_behind whole from to numbers lines each.1,
  )

  before_on : (whole : W) (end more : H → ℕ) → AreBelow end more → (line : R)
      → RanBefore content under Makes Finds whole end line → RanBefore content under Makes Finds whole more line
  before_on whole end more below line ran = record {
    from = ran.from;
    to = ran.to;
    number = ran.number;
    ran = ran.ran;
    below = λ h. let a = ran.below h in let b = below h in omega arith;
  }

  behind_back : (whole : W) (begin less : H → ℕ) → AreBelow less begin → (line : R)
      → RanBehind content under Makes Finds whole begin line → RanBehind content under Makes Finds whole less line
  behind_back whole begin less below line ran = record {
    from = ran.from;
    to = ran.to;
    number = ran.number;
    ran = ran.ran;
    below = λ h. let a = ran.below h in let b = below h in omega arith;
  }

  -- all lines of the parts ran from where these began
  pub all_behind : (whole : W) (from to : H → ℕ) (parts : List (Part R))
      → PartsRan content under Makes Finds whole from to parts
      → AllByRecursion (RanBehind content under Makes Finds whole from) (all_lines parts)
  all_behind whole from to [] ran = tt
  all_behind whole from to (part ∷ parts) ran =
      all_apart (RanBehind content under Makes Finds whole from) (lines_of part) (all_lines parts)
      (each_behind whole from ran.0 ran.2.numbers (lines_of part) ran.2.each)
      (all_as (RanBehind content under Makes Finds whole ran.0) (RanBehind content under Makes Finds whole from)
      (behind_back whole ran.0 from ran.1) (all_lines parts) (all_behind whole ran.0 to parts ran.3))

  module _ (whole : W) (begin : H → ℕ) (claim : List R → List R → R → Type 0)
      (holds : (from to : H → ℕ) (number : ℕ) (line : R) (seen later : List R) → AreBelow begin from
      → AreBelow from to → IsWithin content to whole
      → Ran content under Makes Finds whole from to number line
      → AllByRecursion (RanBefore content under Makes Finds whole from) seen
      → AllByRecursion (RanBehind content under Makes Finds whole to) later → claim seen later line) where
    each_holds : (from to : H → ℕ) (numbers : List ℕ) (lines seen later : List R) → AreBelow begin from
        → AreBelow from to → IsWithin content to whole
        → EachRan content under Makes Finds whole from to numbers lines
        → AllByRecursion (RanBefore content under Makes Finds whole from) seen
        → AllByRecursion (RanBehind content under Makes Finds whole to) later → AllByRecursion (claim seen later) lines
    each_holds from to [] [] seen later begun forth within each a b = tt
    each_holds from to [] (line ∷ lines) seen later begun forth within each a b = absurd each
    each_holds from to (number ∷ numbers) [] seen later begun forth within each a b = tt
    each_holds from to (number ∷ numbers) (line ∷ lines) seen later begun forth within each a b = (
      holds from to number line seen later begun forth within each.0 a b,
      each_holds from to numbers lines seen later begun forth within each.1 a b,
    )

    -- what follows for a line from its marks, with those of the lines that its caller had seen before them and those of
    -- the lines whose callers had seen it behind them, holds of each line of the script
    pub each_from : (from to : H → ℕ) (seen : List R) (parts : List (Part R)) → AreBelow begin from
        → IsWithin content to whole
        → AllByRecursion (RanBefore content under Makes Finds whole from) seen
        → PartsRan content under Makes Finds whole from to parts → Each claim seen parts
    each_from from to seen [] begun within before ran = tt
    each_from from to seen (part ∷ parts) begun within before ran = (
      each_holds from ran.0 ran.2.numbers (lines_of part) seen (all_lines parts) begun ran.1
          (within_before whole ran.0 to (parts_below whole ran.0 to parts ran.3) within)
          ran.2.each
          before (all_behind whole ran.0 to parts ran.3),
      each_from ran.0 to (seen ++ lines_of part) parts
          (λ h. let a = begun h in let b = ran.1 h in omega arith) within
          (all_apart (RanBefore content under Makes Finds whole ran.0) seen (lines_of part)
          (all_as (RanBefore content under Makes Finds whole from) (RanBefore content under Makes Finds whole ran.0)
          (before_on whole from ran.0 ran.1) seen before)
          (each_before whole from ran.0 ran.2.numbers (lines_of part) ran.2.each))
          ran.3,
    )

module _ {W H E R : Type 0} (content : W → H → List E) (under : E → ℕ)
    (Makes : ℕ → R → (H → List E) → Type 0) (Finds : W → (H → ℕ) → (H → ℕ) → ℕ → R → Type 0)
    (grown : W → W → Type 0) (grows : GrowAlong content grown Finds) where
  -- ---- growth

  pub ran_grows : (whole more : W) (from to : H → ℕ) (number : ℕ) (line : R) → IsWithin content to whole
      → grown whole more → Ran content under Makes Finds whole from to number line
      → Ran content under Makes Finds more from to number line
  ran_grows whole more from to number line within goes ran = record {
    made = ran.made;
    makes = ran.makes;
    exact = λ h. ap (filter (λ e. nat_eq (under e) number))
        (sym (between_stays (from h) (to h) (content whole h) (content more h) (within h)
        (grows.goes whole more goes h))) ∙ ran.exact h;
    found = grows.finds whole more from to number line within goes ran.found;
  }

  pub each_grows : (whole more : W) (from to : H → ℕ) (numbers : List ℕ) (lines : List R) → IsWithin content to whole
      → grown whole more → EachRan content under Makes Finds whole from to numbers lines
      → EachRan content under Makes Finds more from to numbers lines
  each_grows whole more from to [] [] within goes each = tt
  each_grows whole more from to [] (line ∷ lines) within goes each = absurd each
  each_grows whole more from to (number ∷ numbers) [] within goes each = absurd each
  each_grows whole more from to (number ∷ numbers) (line ∷ lines) within goes each = (
    ran_grows whole more from to number line within goes each.0,
    each_grows whole more from to numbers lines within goes each.1,
  )

  pub part_grows : (whole more : W) (from to : H → ℕ) (part : Part R) → IsWithin content to whole
      → grown whole more → PartRan content under Makes Finds whole from to part
      → PartRan content under Makes Finds more from to part
  part_grows whole more from to part within goes ran = record {
    numbers = ran.numbers;
    each = each_grows whole more from to ran.numbers (lines_of part) within goes ran.each;
    apart = ran.apart;
    theirs = λ h. subst (AllByRecursion (λ e. list_any (nat_eq (under e)) ran.numbers ≡ true))
        (between_stays (from h) (to h) (content whole h) (content more h) (within h) (grows.goes whole more goes h))
        (ran.theirs h);
  }

  pub parts_grow : (whole more : W) (from to : H → ℕ) (parts : List (Part R)) → IsWithin content to whole
      → grown whole more → PartsRan content under Makes Finds whole from to parts
      → PartsRan content under Makes Finds more from to parts
  parts_grow whole more from to [] within goes ran = ran
  parts_grow whole more from to (part ∷ parts) within goes ran = (
    ran.0,
    ran.1,
    part_grows whole more from ran.0 part
        (within_before content under Makes Finds whole ran.0 to
        (parts_below content under Makes Finds whole ran.0 to parts ran.3) within)
        goes ran.2,
    parts_grow whole more ran.0 to parts within goes ran.3,
  )
