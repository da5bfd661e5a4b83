-- the copies so far and those of the groups that are left are all
use Rattle.std.proofs.Common.{◌≡◌, ◌++◌, drop}
use Rattle.mon_fold.specs.PartialGroups.{new_to}
use Rattle.mon_fold.proofs.merging.new_groups.Given as goal

abbrev pub invariant-loop-key : goal.invariant-loop-key
invariant-loop-key l = l.copies.items ++ new_to l.groups.entries (drop l.key-index l.key-items) ≡ new_to l.groups.entries
    l.others.entries
