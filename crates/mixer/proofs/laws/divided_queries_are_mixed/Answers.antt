use Rattle.mixer.proofs.MixedDivisions.{loads_mixed, root_joins_mixed, table_mixed}
use Rattle.mixer.proofs.laws.divided_queries_are_mixed.Goals as goal

pub returns : goal.returns
returns c = record { table = table_mixed; load = loads_mixed; joins = root_joins_mixed }
