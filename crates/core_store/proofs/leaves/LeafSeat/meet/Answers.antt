use Rattle.mon_topo.proofs.SightLemmas.{leaf_noted_alike, leaf_there}
use Rattle.core_store.proofs.leaves.LeafSeat.meet.Goals as goal

pub note_leaf-requires : goal.note_leaf-requires
note_leaf-requires c = record {
  there = leaf_there c.join.new.self c.args.sight.now c.args.self.now.sight c.args.leaf c.join.ensures.joined
      c.requires.alike
      c.requires.there;
}

pub assign-requires : goal.assign-requires
assign-requires c = record {
  alike = leaf_noted_alike c.note_leaf.new.self c.join.new.self c.args.sight.now c.args.self.now.sight c.args.leaf _
      c.join.ensures.joined c.note_leaf.ensures.noted c.requires.alike;
}
