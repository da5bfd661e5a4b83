use Rattle.std.proofs.Common.{◌≡◌, ◌∙◌, ◌+◌, ◌-◌, take, sym, ap, arith}
use Rattle.leaf_store.specs.within.FromBehind.{behind_turns, replica_steps}
use Rattle.leaf_store.specs.within.KeptEntries.{run_entries}
use Rattle.leaf_store.specs.within.Replicas.{shown_entries}
use Rattle.leaf_store.proofs.StepLemmas.{gathered_next}
use Rattle.leaf_store.proofs.replays.gather_run.Goals as goal

pub loop-number-preserved : goal.loop-number-preserved
loop-number-preserved c =
    let replicas = c.args.replicas.now.entries in
    let replica = c.args.replica in
    let ks = run_entries c.args.run in
    let l = c.loop-number in
    let n = l.number - 1 in
    let next : l.number ≡ n + 1 = omega (arith, c.loop-number-test.true) in
    record {
      within = omega (arith, l.invariant.within);
      gathered = sym (gathered_next replica.range replica.slot replicas ks n c.entry.result l.found
          c.gather_kept.new.found c.requires.there c.entry.ensures.entry c.in_ok-gather_kept.ensures.gathered)
          ∙ ap (λ m. behind_turns (replica_steps replica.range replica.slot (shown_entries replicas (take m ks))) l.found)
          (sym next)
          ∙ l.invariant.gathered;
    }
