-- Distributions that are merged one after another.
use Rattle.std.specs.Prelude.{ℕ, Bool, List}

-- the counts of the distributions so far, and whether there was one
pub record CountsSoFar : Type 0 where
  pub counts : List ℕ
  pub any : Bool
