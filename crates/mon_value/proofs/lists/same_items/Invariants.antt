-- the items that are left are the same just where all are
use Rattle.std.proofs.Common.{◌≡◌, drop}
use Rattle.std.specs.Cmp.Lexicographic.{pointwise}
use Rattle.mon_value.proofs.lists.same_items.Given as goal

abbrev pub invariant-loop-i : goal.invariant-loop-i
invariant-loop-i g l = pointwise g.T.PartialEq.eq (drop l.i l.own) (drop l.i l.others) ≡ pointwise g.T.PartialEq.eq l.own l.others
