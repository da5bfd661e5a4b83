use Rattle.kept_groups.proofs.ChangeLemmas.{row_is}
use Rattle.kept_exchanges.proofs.pairing.is_row.Goals as goal

pub returns : goal.returns
returns c holds = row_is c.args.a.now c.args.b.now c.eq.result c.eq.ensures holds
