-- The formulas so far, with those that are left, are all.
use Rattle.std.proofs.Common.{◌≡◌, ◌++◌, length}
use Rattle.std.specs.Vec.Iter.{into_iter_items, into_iter_len}
use Rattle.plan_split.proofs.joined_formulas.appended.Given as goal

abbrev pub invariant-loop-formula : goal.invariant-loop-formula
invariant-loop-formula l = record {
  items : l.all.items ++ into_iter_items l.formula-iterator ≡ l.fn.some.items ++ l.fn.more.items;
  left : into_iter_len l.formula-iterator ≡ length (into_iter_items l.formula-iterator);
}
