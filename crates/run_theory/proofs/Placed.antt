-- Each line of a run in its place, and with no entry of another's.
use Rattle.std.proofs.Common.{◌≡◌, ◌≤◌, ◌<◌, ℕ, Bool, true, List, [], ◌∷◌, slice_get, Some, arith}
use Rattle.std.specs.List.{AllByRecursion}
use Rattle.run_theory.specs.InPlace.{ArePlaced, RanInPlace, AreAlone, IsAlone}
use Rattle.run_theory.specs.Parts.{AreBelow, IsWithin, PartsRan, Ran, RanBefore, RanBehind, Each, Part, lines_of}
use Rattle.run_theory.proofs.InPlace.{high_behind, low_within}
use Rattle.run_theory.proofs.Marks.{each_from}
use Rattle.run_theory.proofs.Shares.{not_later, part_alone}

module _ {W H E R : Type 0} (content : W → H → List E) (under : E → ℕ)
    (Makes : ℕ → R → (H → List E) → Type 0) (Finds : W → (H → ℕ) → (H → ℕ) → ℕ → R → Type 0)
    (is_of : R → H → ℕ → E → Bool) (whole : W)
    (placed : ArePlaced content under Makes Finds is_of whole) where
  between_marks : (from to : H → ℕ) (number : ℕ) (line : R) (h : H) (k : ℕ) (e : E)
      → Ran content under Makes Finds whole from to number line → slice_get (content whole h) k ≡ Some e
      → is_of line h k e ≡ true
      → (from h ≤ k) × (k < to h)
  between_marks from to number line h k e ran there is =
      let p = placed from to number line h k e ran there is in (p.0, p.1)

  in_place : (begin from to : H → ℕ) (number : ℕ) (line : R) (seen later : List R) → AreBelow begin from
      → AreBelow from to → IsWithin content to whole
      → Ran content under Makes Finds whole from to number line
      → AllByRecursion (RanBefore content under Makes Finds whole from) seen
      → AllByRecursion (RanBehind content under Makes Finds whole to) later
      → RanInPlace content under Makes Finds is_of whole begin seen later line
  in_place begin from to number line seen later begun forth within ran before behind = record {
    from = from;
    to = to;
    number = number;
    ran = ran;
    begun = begun;
    forth = forth;
    within = within;
    from_low = λ h. low_within content under Makes Finds is_of whole between_marks from h seen before;
    to_high = λ h. high_behind content under Makes Finds is_of whole between_marks to h later within behind;
    before = before;
    behind = behind;
  }

  -- each line ran in its place
  pub each_in_place : (from to : H → ℕ) (parts : List (Part R)) → IsWithin content to whole
      → PartsRan content under Makes Finds whole from to parts
      → Each (RanInPlace content under Makes Finds is_of whole from) [] parts
  each_in_place from to parts within ran = each_from content under Makes Finds whole from
      (RanInPlace content under Makes Finds is_of whole from) (in_place from) from to [] parts (λ h. omega arith)
      within tt ran

  alone : (begin from to : H → ℕ) (number : ℕ) (line : R) (seen later : List R) → AreBelow begin from
      → AreBelow from to → IsWithin content to whole
      → Ran content under Makes Finds whole from to number line
      → AllByRecursion (RanBefore content under Makes Finds whole from) seen
      → AllByRecursion (RanBehind content under Makes Finds whole to) later → IsAlone is_of (content whole) line later
  alone begin from to number line seen later begun forth within ran before behind = λ h k e there mine.
      not_later content under Makes Finds is_of whole placed from to number line later h k e ran behind there mine

  -- no line has an entry of one whose caller had seen it
  pub each_alone : (from to : H → ℕ) (parts : List (Part R)) → IsWithin content to whole
      → PartsRan content under Makes Finds whole from to parts
      → Each (λ seen later line. IsAlone is_of (content whole) line later) [] parts
  each_alone from to parts within ran = each_from content under Makes Finds whole from
      (λ seen later line. IsAlone is_of (content whole) line later) (alone from) from to [] parts (λ h. omega arith)
      within tt ran

module _ {W H E R : Type 0} (content : W → H → List E) (under : E → ℕ)
    (Makes : ℕ → R → (H → List E) → Type 0) (Finds : W → (H → ℕ) → (H → ℕ) → ℕ → R → Type 0)
    (is_of : R → H → ℕ → E → Bool) (whole : W)
    (placed : ArePlaced content under Makes Finds is_of whole) where
  -- nor has one of those that ran beside it
  pub parts_alone : (from to : H → ℕ) (parts : List (Part R)) → PartsRan content under Makes Finds whole from to parts
      → AllByRecursion (λ part. AreAlone is_of (content whole) (lines_of part)) parts
  parts_alone from to [] ran = tt
  parts_alone from to (part ∷ parts) ran = (
    part_alone content under Makes Finds is_of whole placed from ran.0 ran.2.numbers (lines_of part) ran.2.each
        ran.2.apart,
    parts_alone ran.0 to parts ran.3,
  )
