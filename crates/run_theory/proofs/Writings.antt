-- A part ran where the script's caller has seen all that its lines wrote.
use Rattle.std.proofs.Common.{ℕ, List, [], ◌∷◌, ◌++◌, length}
use Rattle.std.proofs.Common.{arith}
use Rattle.run_theory.specs.Parts.{EachRan, GoesOn, GrowAlong, PartRan, PartsRan, Part, lines_of}
use Rattle.run_theory.specs.Writings.{EachWrote, PartWrote}
use Rattle.run_theory.proofs.Callers.{exact_from, theirs_from}
use Rattle.run_theory.proofs.Lists.{prefix_longer}
use Rattle.run_theory.proofs.Marks.{parts_grow, parts_push}

module _ {W H E R : Type 0} (content : W → H → List E) (under : E → ℕ)
    (Makes : ℕ → R → (H → List E) → Type 0) (Finds : W → (H → ℕ) → (H → ℕ) → ℕ → R → Type 0)
    (grown : W → W → Type 0) (grows : GrowAlong content grown Finds) where
  each_wrote : (before after : W) (numbers : List ℕ) (lines : List R) → GoesOn content before after
      → EachWrote content under Makes Finds grown before after numbers lines
      → EachRan content under Makes Finds after (λ h. length (content before h)) (λ h. length (content after h)) numbers
      lines
  each_wrote before after [] [] goes each = tt
  each_wrote before after [] (line ∷ lines) goes each = absurd each
  each_wrote before after (number ∷ numbers) [] goes each = absurd each
  each_wrote before after (number ∷ numbers) (line ∷ lines) goes each = (
    record {
      made = each.0.made;
      makes = each.0.makes;
      exact = λ h. exact_from under (content before h) (content after h) (each.0.own h) (each.0.made h) number (goes h)
          (each.0.first h) (each.0.then h);
      found = each.0.found;
    },
    each_wrote before after numbers lines goes each.1,
  )

  pub part_wrote : (before after : W) (part : Part R) → PartWrote content under Makes Finds grown before after part
      → PartRan content under Makes Finds after (λ h. length (content before h)) (λ h. length (content after h)) part
  part_wrote before after part wrote =
      let goes = grows.goes before after wrote.goes in
      record {
        numbers = wrote.numbers;
        each = each_wrote before after wrote.numbers (lines_of part) goes wrote.each;
        apart = wrote.apart;
        theirs = λ h. theirs_from under (content before h) (content after h) wrote.old wrote.numbers (goes h)
            (wrote.same h) (wrote.covered h);
      }

  -- so far the parts ran up to what was seen, and one more wrote
  pub one_more : (begin : H → ℕ) (before after : W) (parts : List (Part R)) (part : Part R)
      → PartsRan content under Makes Finds before begin (λ h. length (content before h)) parts
      → PartWrote content under Makes Finds grown before after part
      → PartsRan content under Makes Finds after begin (λ h. length (content after h)) (parts ++ part ∷ [])
  one_more begin before after parts part ran wrote =
      parts_push content under Makes Finds after begin (λ h. length (content before h))
      (λ h. length (content after h)) parts part
      (parts_grow content under Makes Finds grown grows before after begin (λ h. length (content before h)) parts
      (λ h. omega arith) wrote.goes ran)
      (λ h. prefix_longer (content before h) (content after h) (grows.goes before after wrote.goes h))
      (part_wrote before after part wrote)
