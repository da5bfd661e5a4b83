use Rattle.typed_rows.proofs.QueryLaws.{typed_narrow, typed_widths}
use Rattle.typed_rows.proofs.laws.widths_hold.Goals as goal

pub returns : goal.returns
returns c = record { narrow = typed_narrow; widths = typed_widths }
