-- the entries so far were done to the rows, and the others are left
use Rattle.std.proofs.Common.{◌≡◌, drop}
use Rattle.mon_value.specs.Turns.{after_turns}
use Rattle.leaf_store.specs.within.FreshEntries.{entries_in}
use Rattle.leaf_store.specs.within.FromBehind.{replica_steps}
use Rattle.leaf_store.proofs.replays.turn_all.Given as goal

abbrev pub invariant-loop-fresh : goal.invariant-loop-fresh
invariant-loop-fresh l =
    after_turns l.rows (replica_steps l.replica.range l.replica.slot (entries_in (drop l.fresh-index l.entries)))
    ≡ after_turns l.fn.rows (replica_steps l.replica.range l.replica.slot (entries_in l.entries))
