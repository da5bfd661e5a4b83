use Rattle.std.proofs.Common.{rules, ◌≡◌, ◌≤◌, length, subst, sym}
use Rattle.std.specs.List.{AllByRecursion}
use Rattle.mon_points.specs.Fitting.{ReadFits}
use Rattle.mon_points.specs.Records.{reads_of}
use Rattle.mon_points.proofs.ReadFitsLemmas.{reads_fit}
use Rattle.mon_points.proofs.RecordsLemmas.{reads_of-few}
use Rattle.mon_points.proofs.records.read_rows.Goals as goal

pub returns-in-Ok : goal.returns-in-Ok
returns-in-Ok c =
    let schemas = c.args.schemas.now in
    let bytes = c.args.bytes.now in
    let exact : c.read_left-read.new.reads ≡ reads_of schemas bytes = search rules in
    record {
      exact = exact;
      fit = subst (AllByRecursion (ReadFits schemas)) (sym exact) (reads_fit schemas bytes);
      few = subst (λ reads. length reads ≤ length bytes) (sym exact) (reads_of-few schemas bytes);
    }
