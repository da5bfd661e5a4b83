-- What holds of a lock: while its value is at home, it fits the tag.
use Rattle.std.specs.Prelude.{◌≡◌, ℕ, ◌<◌, [], ◌∷◌, length, slice_index, Option, Some}
use mathlib.Core.Option.{some}
use lib.ListN.{get_elem?}
use Rattle.atomic_table.specs.Seated.{TableId}
use Rattle.atomic_table.specs.Table.{Me, State, Step}

-- what contracts see of a lock: its tag, and which one it is
pub record LockView : Type 0 where
  pub tag : ℕ
  pub id : TableId

module _ {T : Type 0} (fits : ℕ → T → Type 0) where
  -- a value lies in the lock's one place, and fits
  pub record IsAtHome (tag : ℕ) (state : State (Option T) ℕ) : Type 0 where
    pub value : T
    pub there : get_elem? state.homes 0 ≡ some (some (Some value))
    pub fit : fits tag value

  -- where the word says so, it is at home
  pub record IsKept (tag : ℕ) (state : State (Option T) ℕ) : Type 0 where
    pub word : 0 < length state.words
    pub home : slice_index state.words 0 ≡ 1 → IsAtHome tag state

  -- a value is taken that fits
  pub record IsTaken (tag : ℕ) (after : Me (Option T) ℕ) : Type 0 where
    pub value : T
    pub taken : after.1 ≡ (0, Some value) ∷ []
    pub fit : fits tag value

  abbrev pub Takes : Step (Option T) → Me (Option T) ℕ → ℕ → Me (Option T) ℕ → Type 0
  Takes step before found after = found ≡ 1 → IsTaken before.0 after
