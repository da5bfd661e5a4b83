use Rattle.std.proofs.Common.{sym}
use Rattle.mon_series.proofs.EntryLemmas.{entry_all, entry_kept}
use Rattle.mon_series.proofs.kept_rows.KeptRows.entry.Goals as goal

pub returns : goal.returns
returns c = record {
  entry = entry_kept c.self.inside.series.entries c.self.invariant c.self.view_is c.args.number c.in-Some.key.now c.in-Some.series.now
      (sym c.in-Some.ensures.entry) c.in-Some.ensures.value;
  all = entry_all c.self.inside.series.entries c.self.invariant c.self.view_is c.args.number c.in-Some.key.now c.in-Some.series.now
      (sym c.in-Some.ensures.entry);
}
