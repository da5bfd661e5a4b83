-- the rows so far, with those that are left, are all
use Rattle.std.proofs.Common.{◌≡◌, ◌++◌, length}
use Rattle.std.specs.Vec.Iter.{into_iter_items, into_iter_len}
use Rattle.mon_store.proofs.gathering.push_all.Given as goal

abbrev pub invariant-loop-row : goal.invariant-loop-row
invariant-loop-row l = record {
  all : l.rows.items ++ into_iter_items l.row-iterator ≡ l.fn.rows.items ++ l.fn.more.items;
  counted : into_iter_len l.row-iterator ≡ length (into_iter_items l.row-iterator);
}
