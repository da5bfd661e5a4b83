-- the row stands in the place of the other in the first parts
use Rattle.std.proofs.Common.{◌≡◌, take}
use Rattle.kept_groups.specs.Trades.{traded_parts}
use Rattle.kept_groups.proofs.trades.trade_each.Given as goal

abbrev pub invariant-loop-i : goal.invariant-loop-i
invariant-loop-i l = l.parts ≡ traded_parts (take l.i l.with) l.gone l.come l.fn.parts
