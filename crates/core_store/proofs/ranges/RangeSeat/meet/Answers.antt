use Rattle.mon_topo.proofs.SightLemmas.{range_noted_alike, range_there}
use Rattle.core_store.proofs.ranges.RangeSeat.meet.Goals as goal

pub note_range-requires : goal.note_range-requires
note_range-requires c = record {
  there = range_there c.join.new.self c.args.sight.now c.args.self.now.sight c.args.range c.join.ensures.joined
      c.requires.alike c.requires.there;
}

pub assign-requires : goal.assign-requires
assign-requires c = record {
  alike = range_noted_alike c.note_range.new.self c.join.new.self c.args.sight.now c.args.self.now.sight c.args.range _
      c.join.ensures.joined c.note_range.ensures.noted c.requires.alike;
}
