-- what is held is what is held of the rows that were added so far
use Rattle.std.proofs.Common.{drop, take}
use Rattle.standing_incr.specs.Turns.{HoldsAll}
use Rattle.standing_incr.proofs.replaying.take_turns.Given as goal

abbrev pub invariant-loop-turn : goal.invariant-loop-turn
invariant-loop-turn l = HoldsAll l.fn.kept l.turns (take l.turn-index l.turns) (drop l.turn-index l.turns) l.kept
