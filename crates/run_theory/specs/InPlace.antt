-- The place of a line in histories, and lines that share no entry.
use Rattle.std.specs.Prelude.{ℕ, zero, suc, Bool, true, false, List, [], ◌∷◌, if◌then◌else◌, ◌≡◌, ◌≤◌, ◌<◌, slice_get}
use Rattle.std.specs.Prelude.{Some}
use Rattle.std.specs.List.{AllByRecursion, list_any}
use Rattle.std.specs.Bool.{⊤}
use Rattle.run_theory.specs.Parts.{AreBelow, IsWithin, Ran, RanBefore, RanBehind}

-- Places in a history, counted from 0, that pass a test.

-- behind what comes, one more
abbrev pub end_behind : Bool → ℕ → ℕ
end_behind found (suc n) = suc (suc n)
end_behind true zero = 1
end_behind false zero = 0

module _ {E : Type 0} where
  -- the least length that holds every entry that passes a test of its place and of itself
  abbrev pub last_end : (ℕ → E → Bool) → List E → ℕ
  last_end test [] = 0
  last_end test (e ∷ history) = end_behind (test 0 e) (last_end (λ k. test (suc k)) history)

  -- the greatest length that holds none
  abbrev pub first_place : (ℕ → E → Bool) → List E → ℕ
  first_place test [] = 0
  first_place test (e ∷ history) = if test 0 e then 0 else suc (first_place (λ k. test (suc k)) history)

-- The place of a line: how far histories had been seen as it ran, against the entries of the other lines.

module _ {H E R : Type 0} (is_of : R → H → ℕ → E → Bool) (whole : H → List E) where
  -- the least length of a history that holds every entry of some lines
  abbrev pub low : List R → H → ℕ
  low lines h = last_end (λ k e. list_any (λ line. is_of line h k e) lines) (whole h)

  -- the greatest length that holds no entry of theirs
  abbrev pub high : List R → H → ℕ
  high lines h = first_place (λ k e. list_any (λ line. is_of line h k e) lines) (whole h)

module _ {W H E R : Type 0} (content : W → H → List E) (under : E → ℕ)
    (Makes : ℕ → R → (H → List E) → Type 0) (Finds : W → (H → ℕ) → (H → ℕ) → ℕ → R → Type 0)
    (is_of : R → H → ℕ → E → Bool) (whole : W) where
  -- an entry that is a line's stands where the line ran, under its number
  abbrev pub ArePlaced : Type 0
  ArePlaced = (from to : H → ℕ) (number : ℕ) (line : R) (h : H) (k : ℕ) (e : E)
      → Ran content under Makes Finds whole from to number line → slice_get (content whole h) k ≡ Some e
      → is_of line h k e ≡ true
      → (from h ≤ k) × (k < to h) × (under e ≡ number)

  -- an entry that stands where a line ran, under its number, is the line's
  abbrev pub AreTheirs : Type 0
  AreTheirs = (from to : H → ℕ) (number : ℕ) (line : R) (h : H) (k : ℕ) (e : E)
      → Ran content under Makes Finds whole from to number line → slice_get (content whole h) k ≡ Some e
      → from h ≤ k → k < to h
      → under e ≡ number → is_of line h k e ≡ true

  -- A line ran in its place: no sooner than the first line, behind every entry of the lines that its caller had seen,
  -- and before every one of those whose callers had seen it; and these lines ran before and behind it
  pub record RanInPlace (begin : H → ℕ) (seen later : List R) (line : R) : Type 0 where
    pub from : H → ℕ
    pub to : H → ℕ
    pub number : ℕ
    pub ran : Ran content under Makes Finds whole from to number line
    pub begun : AreBelow begin from
    pub forth : AreBelow from to
    pub within : IsWithin content to whole
    pub from_low : (h : H) → low is_of (content whole) seen h ≤ from h
    pub to_high : (h : H) → to h ≤ high is_of (content whole) later h
    pub before : AllByRecursion (RanBefore content under Makes Finds whole from) seen
    pub behind : AllByRecursion (RanBehind content under Makes Finds whole to) later

  -- ---- which entries may be told to be a line's, by themselves and by their places

  -- those where it ran are under its number
  abbrev pub AreUnder : Type 0
  AreUnder = (from to : H → ℕ) (number : ℕ) (line : R) (h : H) (k : ℕ) (e : E)
      → Ran content under Makes Finds whole from to number line → slice_get (content whole h) k ≡ Some e
      → from h ≤ k → k < to h
      → is_of line h k e ≡ true → under e ≡ number

  -- none was made by another line where that one ran: neither by one that ran before it nor by one behind it
  abbrev pub AreDistinct : Type 0
  AreDistinct = (a b c d : H → ℕ) (n m : ℕ) (sooner later : R) (h : H) (j k : ℕ) (e : E)
      (one : Ran content under Makes Finds whole a b n sooner) (other : Ran content under Makes Finds whole c d m later)
      → AreBelow b c → slice_get (content whole h) k ≡ Some e
      → (slice_get (one.made h) j ≡ Some e → k < b h → is_of later h k e ≡ true → ⊥)
      × (slice_get (other.made h) j ≡ Some e → c h ≤ k → is_of sooner h k e ≡ true → ⊥)

  -- and none stands before the first line
  abbrev pub AreNotFirst : (H → ℕ) → Type 0
  AreNotFirst begin = (from to : H → ℕ) (number : ℕ) (line : R) (h : H) (k : ℕ) (e : E)
      → Ran content under Makes Finds whole from to number line → AreBelow begin from
      → slice_get (content whole h) k ≡ Some e → k < begin h
      → is_of line h k e ≡ true → ⊥

-- What a line found, and that each entry that is its own stands where it ran
abbrev pub FoundThere : {W H E R : Type 0} → (W → H → List E) → (R → H → ℕ → E → Bool)
    → (W → (H → ℕ) → (H → ℕ) → ℕ → R → Type 0) → W → (H → ℕ) → (H → ℕ) → ℕ → R → Type 0
FoundThere {W} {H} {E} {R} content is_of Finds whole from to number line = Finds whole from to number line
    × ((h : H) (k : ℕ) (e : E) → slice_get (content whole h) k ≡ Some e → is_of line h k e ≡ true
    → (from h ≤ k) × (k < to h))

-- Lines that share no entry.

module _ {H E R : Type 0} (is_of : R → H → ℕ → E → Bool) (whole : H → List E) where
  -- no entry of the line is one of the others
  abbrev pub IsAlone : R → List R → Type 0
  IsAlone line others = (h : H) (k : ℕ) (e : E) → slice_get (whole h) k ≡ Some e → is_of line h k e ≡ true
      → list_any (λ other. is_of other h k e) others ≡ false

  abbrev pub AreAlone : List R → Type 0
  AreAlone [] = ⊤
  AreAlone (line ∷ lines) = IsAlone line lines × AreAlone lines
