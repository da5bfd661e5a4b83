-- What stands behind the pieces that are left, in what is left of the text.
use Rattle.std.proofs.Common.{◌≡◌, drop}
use Rattle.mon_expr.specs.Greedy.{rest_behind_all}
use Rattle.mon_expr.proofs.patterns.rest_behind_all.Given as goal

abbrev pub invariant-loop-piece : goal.invariant-loop-piece
invariant-loop-piece l = rest_behind_all (drop l.piece-index l.pieces) l.rest ≡ rest_behind_all l.pieces l.fn.text
