use Rattle.std.proofs.Common.{ap}
use Rattle.mon_fold.specs.PartialGroups.{PartialGroup}
use Rattle.kept_groups.proofs.changes.change_of.Goals as goal

pub returns-then-branch-clause-made : goal.returns-then-branch-clause-made
returns-then-branch-clause-made c =
    c.change_with.ensures.made c.args.by.now c.args.with.now c.args.groups.now.entries
    (ap (λ (group : PartialGroup). group.0) c.in_ok-key.ensures)
    (ap (λ (group : PartialGroup). group.1) c.in_ok-key.ensures)
    (c.in_ok-can_go.ensures c.if-branch.true)
