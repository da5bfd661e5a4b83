-- the openings so far came to the replay
use Rattle.std.proofs.Common.{◌≡◌, take}
use Rattle.mon_topo.specs.HeldHistories.{openings_from}
use Rattle.range_cell.proofs.new_ranges.replay_openings.Given as goal

abbrev pub invariant-loop-slot : goal.invariant-loop-slot
invariant-loop-slot l = l.replay.history ≡ openings_from 0 (take l.slot l.first)
