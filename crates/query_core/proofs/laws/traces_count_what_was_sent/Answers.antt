use Rattle.query_core.proofs.RightAnswers.{sent_rightly}
use Rattle.query_core.proofs.laws.traces_count_what_was_sent.Goals as goal

pub returns : goal.returns
returns c = record {
  sent = λ store setting moment view events answer asked from sound licensed.
      sent_rightly store setting moment asked from view events sound licensed answer;
}
