-- The numbers that entries are told apart by, and how they are handed out.
use Rattle.std.specs.Prelude.{ℕ, ◌+◌, ◌-◌, nat_lt, Bool, not, ◌&&◌, cond, if◌then◌else◌}
use Rattle.history_book.specs.declared.numbers.Numbers.{Numbers}
use Rattle.history_book.specs.declared.numbers.TheConstants.{MANY, SHARE}

abbrev pub numbers_between : ℕ → ℕ → Numbers
numbers_between from to = record { from = from; to = to }

abbrev pub is_number_among : ℕ → Numbers → Bool
is_number_among n numbers = not (nat_lt n numbers.from) && nat_lt n numbers.to

-- how often a number stands among some
abbrev pub times_among : ℕ → Numbers → ℕ
times_among n numbers = cond (is_number_among n numbers) 1 0

abbrev pub is_spent : Numbers → Bool
is_spent numbers = not (nat_lt numbers.from numbers.to)

-- whether enough are left once the first was handed out, so that some go with it
abbrev pub are_many : Numbers → Bool
are_many numbers = nat_lt MANY (numbers.to - (numbers.from + 1))

abbrev pub after_handing : Numbers → Numbers
after_handing numbers = numbers_between (numbers.from + 1) (if are_many numbers then numbers.to - SHARE else numbers.to)

abbrev pub handed_numbers : Numbers → Numbers
handed_numbers numbers = numbers_between (if are_many numbers then numbers.to - SHARE else numbers.to) numbers.to
