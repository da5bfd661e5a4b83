use Rattle.thread_cases.proofs.HistoryLemmas.{fits_leaf}
use Rattle.thread_cases.proofs.histories.append_down.Goals as goal

pub append-requires-clause-fits : goal.append-requires-clause-fits
append-requires-clause-fits g c = fits_leaf c.args.owner.now.history g.E.NewEntry.entry _ c.requires.leaf
    c.requires.named
