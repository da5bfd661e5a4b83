use Rattle.typed_rows.proofs.QueryLaws.{typed_evaluable}
use Rattle.typed_rows.proofs.laws.tables_can_be_made.Goals as goal

pub returns : goal.returns
returns c = record { inputs = typed_evaluable }
