-- the rows so far with those of the replicas that are left are all, and these were opened
use Rattle.std.proofs.Common.{◌≡◌, ◌++◌, drop, map}
use Rattle.leaf_eval.specs.Replicas.{view_of}
use Rattle.mon_meaning.specs.ReadableSlots.{AreOpened}
use Rattle.leaf_eval.proofs.leaf.held_rows.Given as goal

abbrev pub invariant-loop-own : goal.invariant-loop-own
invariant-loop-own l = record {
  rows : map (λ rows. rows.now) l.held.items ++ map (view_of l.leaf.history) (drop l.own-index l.slots)
      ≡ map (view_of l.leaf.history) l.slots;
  opened : AreOpened l.leaf.history (drop l.own-index l.slots);
}
