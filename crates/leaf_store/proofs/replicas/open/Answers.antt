use Rattle.std.proofs.Common.{rules, ◌≡◌, ◌∙◌, ◌++◌, ◌∷◌, [], None, length, ap}
use Rattle.std.specs.Map.{lookup}
use Rattle.indexmap.specs.IndexMap.{get}
use Rattle.indexmap.proofs.CallerLemmas.{insert_entry-new}
use Rattle.mon_series.specs.SlotViews.{SlotView}
use Rattle.leaf_store.specs.contracts.replicas.ReplicaPartialEq.TheImpl as derived
use Rattle.leaf_store.proofs.ReplicaLemmas.{same_test}
use Rattle.leaf_store.proofs.replicas.open.Goals as goal

pub returns-clause-opened : goal.returns-clause-opened
returns-clause-opened c =
    let replicas = c.args.replicas.now in
    let replica = c.args.replica in
    let number : c.in-Ok.number ≡ length replicas.entries = search rules in
    let count : c.in-Ok-try_from.count ≡ length c.args.rows.now = search rules in
    let none : get derived.eq-value.it replicas replica ≡ None = ap (λ test. lookup test replicas.entries)
    (same_test replica) ∙ c.requires.fresh in
    record {
      number_is = number;
      count_is = count;
      grown = c.in_ok-insert.ensures.entries ∙ insert_entry-new derived.eq-value.it replicas replica
          c.in_ok-taken.taken none
          ∙ ap (λ (held : SlotView). replicas.entries ++ (replica, held) ∷ []) c.in_ok-taken.ensures.rows;
    }
