use Rattle.std.proofs.Common.{sym, subst}
use Rattle.mon_value.specs.LeafHistories.{IsSource}
use Rattle.standing_incr.specs.Needs.{is_before_by, is_met_by}
use Rattle.standing_incr.proofs.HeldLemmas.{source_needed}
use Rattle.standing_incr.proofs.needs.needed_rows_of.Goals as goal

pub rows_of_backwards-requires : goal.rows_of_backwards-requires
rows_of_backwards-requires c = record {
  source = subst IsSource (sym c.in_ok-backwards.ensures.needed)
      (source_needed (is_met_by c.args.needs.now) (is_before_by c.args.needs.now) c.args.needs.now.start c.args.rows.now
      c.requires.source);
}
