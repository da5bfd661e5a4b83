use Rattle.mon_value.proofs.EarlierLemmas.{enough, sums_fit}
use Rattle.mon_value.proofs.aligners.earlier_points_are_enough.Goals as goal

pub returns-clause-enough : goal.returns-clause-enough
returns-clause-enough c time seconds start points long rise order = enough time seconds start order points rise

pub returns-clause-bits : goal.returns-clause-bits
returns-clause-bits c before points some all few = sums_fit before points some all few
