use Rattle.std.proofs.Common.{sym}
use Rattle.mon_series.proofs.EntryLemmas.{points_numbered}
use Rattle.mon_series.proofs.kept_rows.KeptRows.points.Goals as goal

pub returns : goal.returns
returns c = record {
  points = points_numbered c.self.inside.series.entries c.self.invariant c.self.view_is c.args.number c.in-Some.field-0-0.now c.in-Some.series.now
      (sym c.in-Some.ensures.entry) c.in-Some.ensures.value;
}
