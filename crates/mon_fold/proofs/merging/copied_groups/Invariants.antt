-- the copies so far and the groups that are left are all
use Rattle.std.proofs.Common.{◌≡◌, ◌++◌, drop}
use Rattle.mon_fold.proofs.merging.copied_groups.Given as goal

abbrev pub invariant-loop-key : goal.invariant-loop-key
invariant-loop-key l = l.copied.entries ++ drop l.key-index l.key-items ≡ l.groups.entries
