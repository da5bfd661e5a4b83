use Rattle.mon_fold.proofs.PartialGroupLemmas.{groups_finish, groups_merge}
use Rattle.mon_fold.proofs.groups.groups_stand_for_rows.Goals as goal

pub returns-clause-merge : goal.returns-clause-merge
returns-clause-merge c columns by with xs ys = groups_merge with by xs ys

pub returns-clause-finish : goal.returns-clause-finish
returns-clause-finish c columns by with rows = groups_finish with by rows
