-- the copies so far are those of the texts so far
use Rattle.std.proofs.Common.{◌≡◌, ◌++◌, take}
use Rattle.mon_topo.proofs.lists.add_copies.Given as goal

abbrev pub invariant-loop-text : goal.invariant-loop-text
invariant-loop-text l = l.copies ≡ l.fn.copies ++ take l.text-index l.texts
