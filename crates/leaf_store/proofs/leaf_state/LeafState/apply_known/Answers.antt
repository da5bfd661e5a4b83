use Rattle.leaf_store.proofs.SeriesNumberLemmas.{numbered_put}
use Rattle.leaf_store.proofs.leaf_state.LeafState.apply_known.Goals as goal

pub line_up-requires : goal.line_up-requires
line_up-requires c = record {
  rows = numbered_put c.args.self.now.history c.args.entry c.args.series c.requires.numbered;
  numbered = c.requires.numbered;
  follows = c.requires.follows;
  promised = c.requires.promised;
}
