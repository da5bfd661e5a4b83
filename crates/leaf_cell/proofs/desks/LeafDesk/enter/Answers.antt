use Rattle.mon_value.proofs.LeafHistoryLemmas.{IsWellFormed-push}
use Rattle.leaf_cell.proofs.desks.LeafDesk.enter.Goals as goal

pub apply-requires-clause-follows : goal.apply-requires-clause-follows
apply-requires-clause-follows g c =
    IsWellFormed-push c.args.self.now.state.history c.args.entry c.length-length.ensures.formed c.requires.may

pub apply_known-requires-clause-follows : goal.apply_known-requires-clause-follows
apply_known-requires-clause-follows g c =
    IsWellFormed-push c.args.self.now.state.history c.args.entry c.length-length.ensures.formed c.requires.may
