-- the rows so far
use Rattle.std.proofs.Common.{◌≡◌, ◌++◌, take}
use Rattle.leaf_store.proofs.replays.push_copies.Given as goal

abbrev pub invariant-loop-row : goal.invariant-loop-row
invariant-loop-row l = l.rows ≡ l.fn.rows ++ take l.row-index l.taken
