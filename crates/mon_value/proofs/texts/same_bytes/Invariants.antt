-- the bytes that are left are the same just where all are
use Rattle.std.proofs.Common.{◌≡◌, drop, nat_eq}
use Rattle.std.specs.Cmp.Lexicographic.{pointwise}
use Rattle.mon_value.proofs.texts.same_bytes.Given as goal

abbrev pub invariant-loop-i : goal.invariant-loop-i
invariant-loop-i l = pointwise nat_eq (drop l.i l.own) (drop l.i l.others) ≡ pointwise nat_eq l.own l.others
