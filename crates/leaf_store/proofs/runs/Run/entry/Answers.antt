use Rattle.std.proofs.Common.{◌∙◌, ◌+◌, ◌-◌, slice_get, rules, ap}
use Rattle.leaf_store.specs.within.KeptEntries.{run_entries}
use Rattle.leaf_store.proofs.KeptEntryLemmas.{puts_at, puts_within}
use Rattle.leaf_store.proofs.runs.Run.entry.Goals as goal

pub overflow_cast-result : goal.overflow_cast-result
overflow_cast-result c =
    let within = puts_within c.args.self c.in-Puts.replica c.in-Puts.first c.in-Puts.last c.in-Puts.pass c.args.number
    c.in-Puts.is c.requires.within in
    search rules

pub overflow_add-result : goal.overflow_add-result
overflow_add-result c =
    let within = puts_within c.args.self c.in-Puts.replica c.in-Puts.first c.in-Puts.last c.in-Puts.pass c.args.number
    c.in-Puts.is c.requires.within in
    search rules

pub returns-in-Puts : goal.returns-in-Puts
returns-in-Puts c =
    let first = c.in-Puts.first in
    let last = c.in-Puts.last in
    let within = puts_within c.args.self c.in-Puts.replica first last c.in-Puts.pass c.args.number c.in-Puts.is
    c.requires.within in
    record {
      entry = ap (λ run. slice_get (run_entries run) c.args.number) c.in-Puts.is
          ∙ puts_at c.in-Puts.pass c.in-Puts.replica first (last + 1 - first) c.args.number within;
    }
