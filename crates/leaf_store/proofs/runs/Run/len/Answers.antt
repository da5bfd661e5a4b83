use Rattle.std.proofs.Common.{◌∙◌, ◌+◌, ◌-◌, length, ap, sym, arith}
use Rattle.leaf_store.specs.within.KeptEntries.{run_entries}
use Rattle.leaf_store.proofs.KeptEntryLemmas.{puts_count}
use Rattle.leaf_store.proofs.runs.Run.len.Goals as goal

pub returns-in-Puts : goal.returns-in-Puts
returns-in-Puts c =
    let first = c.in-Puts.first in
    let last = c.in-Puts.last in
    record {
      count = omega (arith, c.saturating_sub.ensures)
          ∙ sym (puts_count c.in-Puts.pass c.in-Puts.replica first (last + 1 - first))
          ∙ ap (λ run. length (run_entries run)) (sym c.in-Puts.is);
    }
