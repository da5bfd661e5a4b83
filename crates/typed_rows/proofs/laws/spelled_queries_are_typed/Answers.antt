use Rattle.typed_rows.proofs.QueryLaws.{spelled_typed}
use Rattle.typed_rows.proofs.laws.spelled_queries_are_typed.Goals as goal

pub returns : goal.returns
returns c = record { typed = spelled_typed }
