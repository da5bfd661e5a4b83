use Rattle.query_core.proofs.RightAnswers.{answered_rightly, none_rightly, stopped_rightly}
use Rattle.query_core.proofs.laws.sessions_answer_rightly.Goals as goal

pub returns : goal.returns
returns c = record {
  answered = λ store setting moment view events answer asked from sound licensed.
      answered_rightly store setting moment asked from view events sound licensed answer;
  stopped = λ store setting moment view events limit trace asked from sound licensed.
      stopped_rightly store setting moment asked from view events sound licensed limit trace;
  no_replica = λ store setting moment view events range named asked from sound licensed.
      none_rightly store setting moment asked from view events sound licensed range named;
}
