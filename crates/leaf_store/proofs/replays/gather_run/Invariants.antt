-- what the entries left make of what was gathered is what they all make of what there was
use Rattle.std.proofs.Common.{◌≡◌, ◌≤◌, length, take}
use Rattle.leaf_store.specs.within.FromBehind.{behind_turns, but_last, replica_steps}
use Rattle.leaf_store.specs.within.KeptEntries.{run_entries}
use Rattle.leaf_store.specs.within.Replicas.{shown_entries}
use Rattle.leaf_store.proofs.replays.gather_run.Given as goal

abbrev pub invariant-loop-number : goal.invariant-loop-number
invariant-loop-number l = record {
  within : l.number ≤ length (run_entries l.run);
  gathered : behind_turns (replica_steps l.replica.range l.replica.slot
      (shown_entries l.replicas.entries (take l.number (run_entries l.run)))) l.found
      ≡ behind_turns (replica_steps l.replica.range l.replica.slot
      (shown_entries l.replicas.entries (but_last l.behind (run_entries l.run)))) l.fn.found;
}

abbrev pub decreases-loop-number : goal.decreases-loop-number
decreases-loop-number l = l.number
