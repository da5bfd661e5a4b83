-- the flags so far
use Rattle.std.proofs.Common.{◌≡◌, map}
use Rattle.std.specs.List.{range_with_len}
use Rattle.plan_split.specs.Meeting.{lets_child_in}
use Rattle.plan_split.proofs.meeting.let_in.Given as goal

abbrev pub invariant-loop-child : goal.invariant-loop-child
invariant-loop-child l = l.flags ≡ map (lets_child_in l.plan l.words) (range_with_len 0 l.child)
