use Rattle.query_core.proofs.ToldAnswers.{all_there, can_read, may_be_told}
use Rattle.query_core.proofs.laws.sessions_may_go_on.Goals as goal

pub returns : goal.returns
returns c = record {
  told = λ store setting moment view events later answer asked from sound licensed grown sound_later.
      may_be_told store setting moment asked from view events sound licensed later grown sound_later answer;
  read = λ store setting moment view events later leaf cut asked from sound licensed grown sound_later between.
      can_read store setting moment asked from view events sound licensed later grown sound_later leaf cut between;
  there = λ store setting moment view events asked from sound licensed.
      all_there store setting moment asked from view events sound licensed;
}
