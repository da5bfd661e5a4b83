-- What a caller of the store knows, and what calls make of that.
use Rattle.std.specs.Prelude.{ℕ, ◌+◌, ◌-◌, ◌^◌, min, Option, Some, None, if◌then◌else◌}
use Rattle.mon_value.specs.declared.histories.Histories.{Histories}
use Rattle.history_book.specs.declared.views.Purse.{Purse}
use Rattle.mon_value.specs.Histories.{joined_histories}
use Rattle.history_book.specs.Numbers.{is_spent}
use Rattle.history_book.specs.Seats.{Seat, first_handed, met_purse, no_purse, with_stock_handed}
use Rattle.mon_hints.specs.declared.places.Place.{Place}
use Rattle.raise_table.specs.declared.views.Hints.{Hints}
use Rattle.raise_table.specs.Seats as hints
use Rattle.know.specs.declared.answers.NumbersSpent.{NumbersSpent}

-- The known bits of the hint words and the words that were loaded; the beginning of each history that was seen; what
-- comes with the seat in the book, as the number, the stock and the rooms; how many rows were handed to the caller
pub record Knowledge : Type 0 where
  pub hints : Hints
  pub seen : Histories
  pub purse : Purse
  pub handed : ℕ

-- ---- rows that were handed out

-- a count stops at its last value
abbrev pub stopped_count : ℕ → ℕ
stopped_count n = min n (2 ^ 64 - 1)

abbrev pub after_handing : ℕ → Knowledge → Knowledge
after_handing rows know = record {
  hints = know.hints;
  seen = know.seen;
  purse = know.purse;
  handed = stopped_count (know.handed + rows);
}

-- ---- seats

-- what two seats know at first
abbrev pub from_seats : Hints → Seat → Knowledge
from_seats hints seat = record { hints = hints; seen = seat.seen; purse = seat.purse; handed = 0 }

-- what is split off knows and has seen as much, and has nothing else
abbrev pub split_off : Knowledge → Knowledge
split_off know = record { hints = hints.without_notes know.hints; seen = know.seen; purse = no_purse; handed = 0 }

-- or it has a number and a stock beside that
abbrev pub numbered_knowledge : Knowledge → Knowledge
numbered_knowledge know = record {
  hints = hints.without_notes know.hints;
  seen = know.seen;
  purse = first_handed know.purse;
  handed = 0;
}

-- which whoever it is split off has no longer
abbrev pub after_numbering : Knowledge → Knowledge
after_numbering know = record {
  hints = know.hints;
  seen = know.seen;
  purse = with_stock_handed know.purse;
  handed = know.handed;
}

-- no number is left where the stock is spent
abbrev pub numbers_fault : Knowledge → Option NumbersSpent
numbers_fault know = if is_spent know.purse.stock then Some (record {}) else None

-- what two know together
abbrev pub meeting : Knowledge → Knowledge → Knowledge
meeting other know = record {
  hints = hints.met know.hints other.hints;
  seen = joined_histories know.seen other.seen;
  purse = met_purse know.purse other.purse;
  handed = stopped_count (know.handed + other.handed);
}

-- a hint word was loaded
abbrev pub after_load : Place → ℕ → ℕ → Knowledge → Knowledge
after_load place bucket found know = record {
  hints = hints.after_load place bucket found know.hints;
  seen = know.seen;
  purse = know.purse;
  handed = know.handed;
}
