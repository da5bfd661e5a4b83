-- What the entries under a number tell, and what the lines of that number tell.
use Rattle.std.specs.Prelude.{◌≡◌, ℕ, nat_eq, false, List, [], filter}
use Rattle.std.specs.List.{flat_map}

module _ {H E R X : Type 0} (under : E → ℕ) (Makes : ℕ → R → (H → List E) → Type 0) (told : E → List X)
    (tells : ℕ → R → H → List X) where
  -- a line tells, under its number, what the entries tell that it made
  abbrev pub TellTheirs : Type 0
  TellTheirs = (number : ℕ) (line : R) (made : H → List E) (h : H) → Makes number line made
      → flat_map told (made h) ≡ tells number line h

  -- and nothing under another number
  abbrev pub TellNoOthers : Type 0
  TellNoOthers = (number n : ℕ) (line : R) (made : H → List E) (h : H) → Makes number line made
      → nat_eq n number ≡ false → tells n line h ≡ []

  -- what the entries under a number tell
  abbrev pub told_under : ℕ → List E → List X
  told_under n history = flat_map told (filter (λ e. nat_eq (under e) n) history)
