use Rattle.mon_table.proofs.JoinLemmas.{joins_alike}
use Rattle.mon_table.proofs.bags.equal_bags_join_alike.Goals as goal

pub returns : goal.returns
returns c = record { alike = joins_alike }
