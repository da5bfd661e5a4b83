-- what the runs left make of what was gathered is what all entries of the cut make
use Rattle.std.proofs.Common.{◌≡◌, ◌≤◌, length, take}
use Rattle.std.specs.List.{flat_map}
use Rattle.leaf_store.specs.within.FromBehind.{behind_turns, but_last, none_standing, replica_steps}
use Rattle.leaf_store.specs.within.KeptEntries.{run_entries}
use Rattle.leaf_store.specs.within.Replicas.{AllHaveRows, shown_entries}
use Rattle.leaf_store.proofs.replays.rows_kept.Given as goal

abbrev pub invariant-loop-place : goal.invariant-loop-place
invariant-loop-place l = record {
  within : l.place ≤ length l.runs;
  there : AllHaveRows l.replicas.entries (flat_map run_entries (take l.place l.runs));
  gathered : behind_turns (replica_steps l.replica.range l.replica.slot
      (shown_entries l.replicas.entries (but_last l.behind (flat_map run_entries (take l.place l.runs))))) l.found
      ≡ behind_turns (replica_steps l.replica.range l.replica.slot
      (shown_entries l.replicas.entries (take l.cut l.kept.items))) none_standing;
}

abbrev pub decreases-loop-place : goal.decreases-loop-place
decreases-loop-place l = l.place
