-- there is room for the exchanges that are left, and the rows are those of the exchanges so far
use Rattle.std.proofs.Common.{◌≡◌, ◌≤◌, ◌+◌, ◌++◌, List, length, vec_capacity, IsPermutation}
use Rattle.std.specs.Vec.Iter.{into_iter_items, into_iter_len}
use Rattle.mon_value.specs.declared.tables.TimedRow.{TimedRow}
use Rattle.kept_exchanges.specs.declared.exchanges.Exchange.{Exchange}
use Rattle.kept_exchanges.specs.Exchanges.{comes, gones}
use Rattle.kept_exchanges.proofs.writing.write_exchanges.Given as goal

abbrev pub invariant-loop-exchange : goal.invariant-loop-exchange
invariant-loop-exchange l = record {
  room : length l.rows.items + length (into_iter_items l.exchange-iterator) ≤ vec_capacity l.rows;
  counted : into_iter_len l.exchange-iterator ≡ length (into_iter_items l.exchange-iterator);
  so_far : (done : List Exchange)
      × (l.fn.exchanges.items ≡ done ++ into_iter_items l.exchange-iterator)
      × ((rest : List TimedRow) → IsPermutation (gones l.fn.exchanges.items ++ rest) l.fn.rows.items
      → IsPermutation (gones (into_iter_items l.exchange-iterator) ++ (comes done ++ rest)) l.rows.items);
}
