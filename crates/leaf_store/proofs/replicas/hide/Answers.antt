use Rattle.std.proofs.Common.{rules, ◌≡◌, ◌∙◌, ℤ, to_z, of_z, w64, sym, ap}
use Rattle.mon_value.specs.Turns.{Hides}
use Rattle.leaf_store.specs.within.Replicas.{with_turn}
use Rattle.leaf_store.proofs.ReplicaLemmas.{is_turned}
use Rattle.leaf_store.proofs.replicas.hide.Goals as goal

pub returns-clause-hidden : goal.returns-clause-hidden
returns-clause-hidden c =
    let held = c.in-Some-get_index_mut.slot.now in
    let same : c.in-Ok.number ≡ c.in-Some.at = search rules in
    let before : to_z w64 (of_z w64 c.args.before) ≡ c.args.before = search rules in
    is_turned c.args.replicas.now.entries c.args.replica (Hides c.args.before) c.in-Some.at c.in-Ok.number
    held c.hide.new.self (sym c.in-Some.ensures.place) c.in-Some-get_index_mut.ensures.value
    (c.hide.ensures.hidden ∙ ap (λ (bound : ℤ). with_turn (Hides bound) held) before) same
