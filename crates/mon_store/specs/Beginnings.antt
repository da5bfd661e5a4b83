-- What the first caller of a store has.
use Rattle.std.specs.Prelude.{◌≡◌, [], Some}
use Rattle.history_book.specs.Histories.{entries}
use Rattle.history_book.specs.Numbers.{numbers_between}
use Rattle.history_book.specs.Seats.{hand_of}
use Rattle.history_book.specs.declared.numbers.TheConstants.{NUMBER_END}
use Rattle.history_book.specs.declared.views.History.{History}
use Rattle.know.specs.Knowledge.{Knowledge}
use Rattle.mon_config.specs.declared.config.Config.{Config}
use Rattle.mon_topo.specs.HeldHistories.{first_histories}
use Rattle.mon_store.specs.Writes.{own_entries}

-- It has seen each range opened on its first replicas, which have no rows, and nothing else; these entries are its own;
-- and it has the number 0, and all others to hand out
pub record IsFirst (config : Config) (know : Knowledge) : Type 0 where
  pub seen : know.seen ≡ first_histories config.topology
  pub own : (history : History) → own_entries know.purse.own history ≡ entries know.seen history
  pub number : (hand_of know.purse).own ≡ Some 0
  pub stock : know.purse.stock ≡ numbers_between 1 NUMBER_END
  pub met : know.purse.met ≡ []
  pub lost : know.purse.lost ≡ []
  pub handed : know.handed ≡ 0
