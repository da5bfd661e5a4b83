use Rattle.kept_laws.proofs.SeenLemmas.{touched_times, untouched_times}
use Rattle.kept_laws.proofs.touching.points_touch_few_times.Goals as goal

pub returns-clause-touched : goal.returns-clause-touched
returns-clause-touched c grid by points point lawful long rise can =
    touched_times grid by points point lawful long rise can

pub returns-clause-untouched : goal.returns-clause-untouched
returns-clause-untouched c by points point time e = untouched_times by points point time e
