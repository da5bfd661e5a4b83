-- what was brought so far and what is left are the whole history
use Rattle.std.proofs.Common.{◌≤◌, ◌-◌, length, drop}
use Rattle.leaf_store.specs.within.FreshEntries.{AreNumbered, entries_in}
use Rattle.leaf_store.specs.within.Replicas.{IsInTwoParts, SameHistory, shown_entries}
use Rattle.leaf_store.proofs.replays.settle_entries.Given as goal

abbrev pub invariant-loop-moved : goal.invariant-loop-moved
invariant-loop-moved l = record {
  within : l.moved ≤ length l.fresh;
  onward : l.fn.moved ≤ l.moved;
  holds : IsInTwoParts l.replicas.entries l.kept.items (entries_in (drop l.moved l.fresh));
  numbered : AreNumbered (shown_entries l.replicas.entries l.kept.items) (drop l.moved l.fresh);
  same : SameHistory l.fn.replicas.entries l.fn.kept.items (entries_in (drop l.fn.moved l.fresh))
      l.replicas.entries l.kept.items (entries_in (drop l.moved l.fresh));
}

abbrev pub decreases-loop-moved : goal.decreases-loop-moved
decreases-loop-moved l = length l.fresh - l.moved
