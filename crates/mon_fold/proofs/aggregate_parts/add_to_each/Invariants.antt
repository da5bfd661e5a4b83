-- the row so far is added to the first parts
use Rattle.std.proofs.Common.{◌≡◌, ◌∷◌, [], take}
use Rattle.mon_fold.specs.PartialGroups.{merged_parts, parts_over}
use Rattle.mon_fold.proofs.aggregate_parts.add_to_each.Given as goal

abbrev pub invariant-loop-i : goal.invariant-loop-i
invariant-loop-i l = l.parts ≡ merged_parts l.fn.parts (take l.i (parts_over l.with (l.row ∷ [])))
