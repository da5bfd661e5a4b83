use Rattle.std.proofs.Common.{◌∙◌, sym, ap}
use Rattle.mon_meaning.specs.within.Paths.{trees_of}
use Rattle.kept_exchanges.specs.Flows.{row_flowing}
use Rattle.kept_exchanges.proofs.FlowLemmas.{none_flows}
use Rattle.kept_exchanges.proofs.trading.flowing_gone.Goals as goal

pub returns-in-None : goal.returns-in-None
returns-in-None c =
    let above = trees_of c.args.above.now in
    record { made = sym (none_flows above) ∙ ap (row_flowing above) (sym c.in-None.is) }
