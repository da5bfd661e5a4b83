use Rattle.typed_rows.proofs.RowCounts.{rows_within_load}
use Rattle.typed_rows.proofs.laws.tables_are_within_loads.Goals as goal

pub returns : goal.returns
returns c = record { rows = rows_within_load }
