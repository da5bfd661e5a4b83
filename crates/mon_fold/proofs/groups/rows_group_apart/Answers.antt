use Rattle.mon_fold.proofs.MergeableGroups.{first_can, second_can}
use Rattle.mon_fold.proofs.groups.rows_group_apart.Goals as goal

pub returns-clause-first : goal.returns-clause-first
returns-clause-first c columns by with xs ys can = first_can columns by with xs ys can

pub returns-clause-second : goal.returns-clause-second
returns-clause-second c columns by with xs ys can = second_can columns by with xs ys can
