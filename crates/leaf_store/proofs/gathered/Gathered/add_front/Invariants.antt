-- what the rows left make of what was gathered is what they all make of what there was
use Rattle.std.proofs.Common.{◌≡◌, ◌≤◌, map, take}
use Rattle.mon_value.specs.Turns.{Adds}
use Rattle.leaf_store.specs.within.FromBehind.{behind_turns}
use Rattle.leaf_store.proofs.gathered.Gathered.add_front.Given as goal

abbrev pub invariant-loop-number : goal.invariant-loop-number
invariant-loop-number l = record {
  within : l.number ≤ l.count;
  gathered : behind_turns (map Adds (take l.number l.slot.rows)) l.self
      ≡ behind_turns (map Adds (take l.count l.slot.rows)) l.fn.self;
}

abbrev pub decreases-loop-number : goal.decreases-loop-number
decreases-loop-number l = l.number
