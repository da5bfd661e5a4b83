use Rattle.history_book.proofs.CountLemmas.{beyond_none, every_number, first_once, lost_met, lost_plain, purse_handed}
use Rattle.history_book.proofs.PurseLemmas.{no_number, number_met}
use Rattle.history_book.proofs.laws.numbers_are_counted.Goals as goal

pub returns : goal.returns
returns c = record {
  first = first_once;
  beyond = beyond_none;
  every = every_number;
  none = no_number;
  handed = purse_handed;
  met = number_met;
  lost = lost_met;
  plain = lost_plain;
}
