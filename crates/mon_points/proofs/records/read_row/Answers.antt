use Rattle.csv.specs.Records.{fields_of}
use Rattle.mon_points.proofs.FieldsReadLemmas.{row_read-short}
use Rattle.mon_points.proofs.records.read_row.Goals as goal

pub returns-in-None : goal.returns-in-None
returns-in-None c = record {
  row = row_read-short c.args.schemas.now (fields_of c.args.cells.now)
      c.in-None.ensures.leading;
}
