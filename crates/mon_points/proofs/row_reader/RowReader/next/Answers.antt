use Rattle.std.proofs.Common.{subst, sym}
use Rattle.csv.specs.Records.{fields_of}
use Rattle.mon_points.specs.Fitting.{ReadFits}
use Rattle.mon_points.proofs.ReadFitsLemmas.{one_fits}
use Rattle.mon_points.proofs.row_reader.RowReader.next.Goals as goal

pub returns-then-branch-clause-fits : goal.returns-then-branch-clause-fits
returns-then-branch-clause-fits c =
    let schemas = c.args.schemas.now in
    subst (ReadFits schemas) (sym c.in_ok-read.ensures.read) (one_fits schemas (fields_of c.take.new.cells))
