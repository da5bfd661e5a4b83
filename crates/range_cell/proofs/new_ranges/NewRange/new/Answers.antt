use Rattle.std.proofs.Common.{sym, subst}
use Rattle.owners.specs.Owners.{RangeView}
use Rattle.range_cell.proofs.NewRangeLemmas.{rests_new}
use Rattle.range_cell.specs.Rest.{IsRangeAtRest}
use Rattle.range_cell.proofs.new_ranges.NewRange.new.Goals as goal

pub lend-requires : goal.lend-requires
lend-requires g c = record {
  rest = subst (λ (o : RangeView). IsRangeAtRest o.range.0 c.new.result o) (sym c.new-owner.ensures.owner)
      (rests_new c.args.range c.args.hints c.args.book c.new.result c.requires.of_range.history c.requires.free
      c.requires.holds c.requires.only c.requires.none c.requires.fresh c.new.ensures.new);
  none = c.new.ensures.new;
}
