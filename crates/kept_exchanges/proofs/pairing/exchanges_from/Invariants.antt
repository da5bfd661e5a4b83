-- the rows that are left, with those of the exchanges so far and those that stay, are all
use Rattle.std.proofs.Common.{length}
use Rattle.kept_exchanges.specs.Pairs.{LeadOn}
use Rattle.kept_exchanges.proofs.pairing.exchanges_from.Given as goal

abbrev pub invariant-loop-come : goal.invariant-loop-come
invariant-loop-come l = LeadOn l.fn.left.items l.left.items l.fn.after.items l.rest.items l.made.items

abbrev pub decreases-loop-come : goal.decreases-loop-come
decreases-loop-come l = length l.rest.items
