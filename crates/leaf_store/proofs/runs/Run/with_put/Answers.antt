use Rattle.std.proofs.Common.{◌≡◌, ◌∙◌, ◌+◌, ◌-◌, ◌≤◌, ◌++◌, ◌∷◌, [], rules, ap, sym}
use Rattle.leaf_store.specs.declared.kept.Kept.TheVariants as one
use Rattle.leaf_store.specs.within.KeptEntries.{puts, run_entries}
use Rattle.leaf_store.proofs.KeptEntryLemmas.{puts_longer}
use Rattle.leaf_store.proofs.runs.Run.with_put.Goals as goal

pub returns-in-Puts : goal.returns-in-Puts
returns-in-Puts c =
    let pass = c.args.pass in
    let replica = c.args.replica in
    let first = c.in-Puts.first in
    let last = c.in-Puts.last in
    let within : first ≤ c.args.row = search rules in
    let next : c.args.row ≡ last + 1 = search rules in
    let own : run_entries c.args.self ≡ puts pass replica first (last + 1 - first) = ap run_entries c.in-Puts.is
    ∙ (λ i. puts (sym c.if-pass-by.true i) (sym c.if-replica-own.true i) first (last + 1 - first)) in
    record {
      longer = puts_longer pass replica first last c.args.row within next
          ∙ ap (λ entries. entries ++ one.Put pass replica c.args.row ∷ []) (sym own);
    }
