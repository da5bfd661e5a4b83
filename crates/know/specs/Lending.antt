-- What a caller comes to an owner with, and what it goes on with.
use Rattle.history_book.specs.Seats.{Seat, no_purse}
use Rattle.raise_table.specs.Seats as hints
use Rattle.raise_table.specs.declared.views.Hints.{Hints}
use Rattle.know.specs.Knowledge.{Knowledge}

-- the seat in the book
abbrev pub lent_seat : Knowledge → Seat
lent_seat know = record { seen = know.seen; purse = know.purse }

-- what is left without it
abbrev pub without_purse : Knowledge → Knowledge
without_purse know = record { hints = know.hints; seen = know.seen; purse = no_purse; handed = know.handed }

-- another seat in the book, and the bits that lead to what it has seen
abbrev pub back_with : Hints → Seat → Knowledge → Knowledge
back_with known seat know =
    record { hints = hints.met know.hints known; seen = seat.seen; purse = seat.purse; handed = know.handed }
