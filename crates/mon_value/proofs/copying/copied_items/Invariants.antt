-- the items so far are copies of the first ones
use Rattle.std.proofs.Common.{◌≡◌, take}
use Rattle.mon_value.proofs.copying.copied_items.Given as goal

abbrev pub invariant-loop-item : goal.invariant-loop-item
invariant-loop-item g l = l.copied.items ≡ take l.item-index l.items
