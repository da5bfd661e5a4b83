-- What holds of each line of a whole run.
use Rattle.std.proofs.Common.{◌≡◌, ◌≤◌, ℕ, Bool, List, [], length, arith}
use Rattle.std.specs.List.{AllByRecursion}
use Rattle.run_theory.specs.InPlace.{AreDistinct, AreNotFirst, AreUnder, FoundThere, RanInPlace, AreAlone, IsAlone}
use Rattle.run_theory.specs.Parts.{IsWithin, PartsRan, Each, Part, lines_of}
use Rattle.run_theory.proofs.Placed.{each_alone, each_in_place, parts_alone}
use Rattle.run_theory.proofs.Stands.{all_there, there_placed}

module _ {W H E R : Type 0} (content : W → H → List E) (under : E → ℕ)
    (Makes : ℕ → R → (H → List E) → Type 0) (Finds : W → (H → ℕ) → (H → ℕ) → ℕ → R → Type 0)
    (is_of : R → H → ℕ → E → Bool) (whole : W) (begin end : H → ℕ)
    (mine : AreUnder content under Makes Finds is_of whole)
    (distinct : AreDistinct content under Makes Finds is_of whole)
    (first : AreNotFirst content under Makes Finds is_of whole begin)
    (all : (h : H) → end h ≡ length (content whole h)) where
  most : (h : H) → length (content whole h) ≤ end h
  most h = let e = all h in omega arith

  within : IsWithin content end whole
  within h = let e = all h in omega arith

  -- each line ran in its place, where its own entries stand
  pub placed_in_run : (parts : List (Part R)) → PartsRan content under Makes Finds whole begin end parts
      → Each (RanInPlace content under Makes (FoundThere content is_of Finds) is_of whole begin) [] parts
  placed_in_run parts ran = each_in_place content under Makes (FoundThere content is_of Finds) is_of whole
      (there_placed content under Makes Finds whole is_of begin end distinct first most mine) begin end parts within
      (all_there content under Makes Finds whole is_of begin end distinct first most parts ran)

  -- no line has an entry of a later one
  pub alone_later : (parts : List (Part R)) → PartsRan content under Makes Finds whole begin end parts
      → Each (λ seen later line. IsAlone is_of (content whole) line later) [] parts
  alone_later parts ran = each_alone content under Makes (FoundThere content is_of Finds) is_of whole
      (there_placed content under Makes Finds whole is_of begin end distinct first most mine) begin end parts within
      (all_there content under Makes Finds whole is_of begin end distinct first most parts ran)

  -- nor of one beside it
  pub alone_beside : (parts : List (Part R)) → PartsRan content under Makes Finds whole begin end parts
      → AllByRecursion (λ part. AreAlone is_of (content whole) (lines_of part)) parts
  alone_beside parts ran = parts_alone content under Makes (FoundThere content is_of Finds) is_of whole
      (there_placed content under Makes Finds whole is_of begin end distinct first most mine) begin end parts
      (all_there content under Makes Finds whole is_of begin end distinct first most parts ran)
