-- What the script's caller knows before a part and behind it, by which the part ran.
use Rattle.std.specs.Prelude.{◌≡◌, ℕ, nat_eq, true, List, [], ◌∷◌, ◌++◌, length, filter}
use Rattle.std.specs.Bool.{⊤}
use Rattle.std.specs.List.{AllByRecursion, list_any}
use Rattle.run_theory.specs.Parts.{AreApart, Part, lines_of}

module _ {W H E R : Type 0}
    (content : W → H → List E)
    (under : E → ℕ)
    (Makes : ℕ → R → (H → List E) → Type 0)
    (Finds : W → (H → ℕ) → (H → ℕ) → ℕ → R → Type 0)
    (grown : W → W → Type 0)
    (before after : W) where
  abbrev pub seen_under : ℕ → List E → List E
  seen_under n = filter (λ e. nat_eq (under e) n)

  -- a line wrote just what it made under its number, and all of that was seen before and is seen behind it
  pub record Wrote (number : ℕ) (line : R) : Type 0 where
    pub own : H → List E
    pub made : H → List E
    pub makes : Makes number line made
    pub first : (h : H) → seen_under number (content before h) ≡ own h
    pub then : (h : H) → seen_under number (content after h) ≡ own h ++ made h
    pub found : Finds after (λ h. length (content before h)) (λ h. length (content after h)) number line

  abbrev pub EachWrote : List ℕ → List R → Type 0
  EachWrote [] [] = ⊤
  EachWrote [] (line ∷ lines) = ⊥
  EachWrote (number ∷ numbers) [] = ⊥
  EachWrote (number ∷ numbers) (line ∷ lines) = Wrote number line × EachWrote numbers lines

  -- The lines of a part wrote under numbers of their own; nothing more was seen under the numbers that were kept
  -- before; and whatever is seen behind the part is under one of these or of those
  pub record PartWrote (part : Part R) : Type 0 where
    pub old : List ℕ
    pub numbers : List ℕ
    pub goes : grown before after
    pub each : EachWrote numbers (lines_of part)
    pub apart : AreApart numbers
    pub same : (h : H) → AllByRecursion (λ n. seen_under n (content after h) ≡ seen_under n (content before h)) old
    pub covered : (h : H) → AllByRecursion (λ e. list_any (nat_eq (under e)) (old ++ numbers) ≡ true) (content after h)
