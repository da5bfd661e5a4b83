-- Rows of two lists that are paired, and those that stay.
use Rattle.std.specs.Prelude.{List, [], ◌∷◌, ◌++◌, IsPermutation, Option}
use Rattle.std.specs.Option.{option_to_list}
use Rattle.mon_value.specs.declared.tables.TimedRow.{TimedRow}
use Rattle.kept_exchanges.specs.Exchanges.{comes, gones}
use Rattle.kept_exchanges.specs.declared.exchanges.Exchange.{Exchange}

-- exchanges lead from rows to others, beside rows that stay
pub record LeadTo (before after : List TimedRow) (exchanges : List Exchange) : Type 0 where
  pub stay : List TimedRow
  pub gone : IsPermutation before (gones exchanges ++ stay)
  pub come : IsPermutation after (comes exchanges ++ stay)

-- the same where some rows of either list are left
pub record LeadOn (before left after rest : List TimedRow) (exchanges : List Exchange) : Type 0 where
  pub stay : List TimedRow
  pub gone : IsPermutation before (left ++ (gones exchanges ++ stay))
  pub come : IsPermutation after (rest ++ (comes exchanges ++ stay))

-- one pair more: an exchange, or a row that stays
pub record IsPushed (gone : Option TimedRow) (come : TimedRow) (before after : List Exchange) : Type 0 where
  pub stay : List TimedRow
  pub goes : IsPermutation (option_to_list gone ++ gones before) (gones after ++ stay)
  pub comes_so : IsPermutation (come ∷ comes before) (comes after ++ stay)
