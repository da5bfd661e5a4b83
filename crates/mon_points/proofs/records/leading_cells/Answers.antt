use Rattle.std.proofs.Common.{lit<}
use Rattle.csv.specs.Records.{fields_of}
use Rattle.mon_points.proofs.FieldsReadLemmas.{short_at, leading_at, found_at}
use Rattle.mon_points.proofs.records.leading_cells.Goals as goal

pub returns-in_err-get : goal.returns-in_err-get
returns-in_err-get c = record {
  leading = rw c.from_residual.ensures (short_at (fields_of c.args.cells.now) 0
      c.get.result (lit< tt) c.get.ensures.value c.in_err-get.was);
}

pub returns-in_err-get-2 : goal.returns-in_err-get-2
returns-in_err-get-2 c = record {
  leading = rw c.from_residual-in_err-get-2.ensures
      (short_at (fields_of c.args.cells.now) 1 c.get-2.result (lit< tt) c.get-2.ensures.value c.in_err-get-2.was);
}

pub returns-in_err-get-3 : goal.returns-in_err-get-3
returns-in_err-get-3 c = record {
  leading = rw c.from_residual-in_err-get-3.ensures
      (short_at (fields_of c.args.cells.now) 2 c.get-3.result (lit< tt) c.get-3.ensures.value c.in_err-get-3.was);
}

pub returns-in_err-get-4 : goal.returns-in_err-get-4
returns-in_err-get-4 c = record {
  leading = rw c.from_residual-in_err-get-4.ensures
      (short_at (fields_of c.args.cells.now) 3 c.get-4.result (lit< tt) c.get-4.ensures.value c.in_err-get-4.was);
}

pub returns-in_err-get-5 : goal.returns-in_err-get-5
returns-in_err-get-5 c = record {
  leading = rw c.from_residual-in_err-get-5.ensures
      (short_at (fields_of c.args.cells.now) 4 c.get-5.result (lit< tt) c.get-5.ensures.value c.in_err-get-5.was);
}

pub returns : goal.returns
returns c =
    let cells = fields_of c.args.cells.now in
    record {
      leading = leading_at cells _ _ _ _ _
          (found_at cells 0 c.get.result c.in_ok-get.field-0 c.get.ensures.value c.in_ok-get.was)
          (found_at cells 1 c.get-2.result c.in_ok-get-2.field-0 c.get-2.ensures.value c.in_ok-get-2.was)
          (found_at cells 2 c.get-3.result c.in_ok-get-3.field-0 c.get-3.ensures.value c.in_ok-get-3.was)
          (found_at cells 3 c.get-4.result c.in_ok-get-4.field-0 c.get-4.ensures.value c.in_ok-get-4.was)
          (found_at cells 4 c.get-5.result c.in_ok-get-5.field-0 c.get-5.ensures.value c.in_ok-get-5.was);
    }
