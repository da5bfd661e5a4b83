-- the changes so far are those of the exchanges so far
use Rattle.std.proofs.Common.{take}
use Rattle.mon_meaning.specs.within.Paths.{trees_of}
use Rattle.kept_exchanges.specs.Traded.{AreChangesOf}
use Rattle.kept_exchanges.proofs.trading.changes_of.Given as goal

abbrev pub invariant-loop-exchange : goal.invariant-loop-exchange
invariant-loop-exchange l =
    AreChangesOf (trees_of l.above) l.by l.with l.groups.entries (take l.exchange-index l.exchanges) l.changes.items
