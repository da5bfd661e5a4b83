-- How often numbers stand in purses.
use Rattle.std.proofs.Common.{◌≡◌, ℕ, ◌+◌, ◌<◌, ◌≤◌, [], ◌∷◌, ◌++◌, ◌∙◌, refl, arith}
use Rattle.std.specs.Prelude.{Some}
use Rattle.std.specs.List.{sum_by}
use Rattle.std.proofs.lemmas.List.Sums.{sum_by-append, sum_by-cons}
use Rattle.history_book.specs.Numbers.{times_among}
use Rattle.history_book.specs.Seats.{HasEveryNumber, first_handed, met_purse, no_purse, numbered_purse, times_lost}
use Rattle.history_book.specs.Seats.{times_number, with_stock_handed}
use Rattle.history_book.specs.declared.numbers.TheConstants.{NUMBER_END}
use Rattle.history_book.specs.declared.views.Purse.{Purse}
use Rattle.history_book.proofs.FirstLemmas.{first_numbers}
use Rattle.history_book.proofs.PurseLemmas.{among_high, among_yes, none_among, number_handed}

-- ---- a new book

pub first_once : (n : ℕ) → n < NUMBER_END → times_number n (numbered_purse 0 1 NUMBER_END) ≡ 1
first_once n low = first_numbers n 0 0 ∙ among_yes n 0 NUMBER_END (omega arith) low

pub beyond_none : (n : ℕ) → NUMBER_END ≤ n → times_number n (numbered_purse 0 1 NUMBER_END) ≡ 0
beyond_none n high = first_numbers n 0 0 ∙ among_high n 0 NUMBER_END high

pub every_number : HasEveryNumber (numbered_purse 0 1 NUMBER_END)
every_number n low = let once = first_once n low in omega arith

-- ---- numbers that are handed out, and met

pub purse_handed : (n : ℕ) (purse : Purse) → purse.stock.from < purse.stock.to
    → times_number n (with_stock_handed purse) + times_number n (first_handed purse) ≡ times_number n purse
purse_handed n purse = number_handed n (Some purse)

pub lost_met : (n : ℕ) (purse other : Purse)
    → times_lost n (met_purse purse other) ≡ times_lost n purse + (times_among n other.stock + times_lost n other)
lost_met n purse other =
    let all : sum_by (times_among n) (purse.lost ++ other.stock ∷ other.lost)
    ≡ sum_by (times_among n) purse.lost + sum_by (times_among n) (other.stock ∷ other.lost)
    = sum_by-append (times_among n) purse.lost (other.stock ∷ other.lost) in
    let both : sum_by (times_among n) (other.stock ∷ other.lost)
    ≡ times_among n other.stock + sum_by (times_among n) other.lost
    = sum_by-cons (times_among n) other.stock other.lost in
    omega arith

pub lost_plain : (n : ℕ) (purse : Purse) → times_lost n (met_purse purse no_purse) ≡ times_lost n purse
lost_plain n purse =
    let all = lost_met n purse no_purse in
    let none = none_among n 0 in
    let empty : sum_by (times_among n) [] ≡ 0 = refl in
    omega arith
