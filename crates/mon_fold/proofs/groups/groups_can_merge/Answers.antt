use Rattle.mon_fold.proofs.MergeableGroups as mergeable
use Rattle.mon_fold.proofs.groups.groups_can_merge.Goals as goal

pub returns : goal.returns
returns c columns by with xs ys can few = mergeable.groups_can_merge columns by with xs ys can few
