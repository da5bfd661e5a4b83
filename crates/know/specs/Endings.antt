-- What is left of a caller's knowledge.
use Rattle.std.specs.Prelude.{ℕ, Option}
use Rattle.mon_value.specs.declared.histories.Histories.{Histories}

-- the number, if there was one, and the histories that were seen
pub record Ending : Type 0 where
  pub number : Option ℕ
  pub seen : Histories
