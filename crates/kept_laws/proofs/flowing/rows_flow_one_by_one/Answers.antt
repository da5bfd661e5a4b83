use Rattle.kept_laws.proofs.FlowLemmas.{rows_apart, rows_few}
use Rattle.kept_laws.proofs.flowing.rows_flow_one_by_one.Goals as goal

pub returns-clause-apart : goal.returns-clause-apart
returns-clause-apart c tree rows others works = rows_apart tree rows others works

pub returns-clause-few : goal.returns-clause-few
returns-clause-few c tree row works = rows_few tree row works
