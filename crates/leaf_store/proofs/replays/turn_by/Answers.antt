use Rattle.std.proofs.Common.{rules, ◌≡◌, ◌∙◌, ◌++◌, true, cond, [], List, map, sym, ap}
use Rattle.std.proofs.lemmas.Result.{on_ok_weaker}
use Rattle.mon_value.specs.LeafHistories.{same_replica}
use Rattle.mon_value.specs.Turns.{Turn, Adds, after_turns}
use Rattle.leaf_store.specs.within.FromBehind.{entry_steps}
use Rattle.leaf_store.proofs.FromBehindLemmas.{added_all}
use Rattle.leaf_store.proofs.replays.turn_by.Goals as goal

pub returns-in-Opened : goal.returns-in-Opened
returns-in-Opened c =
    let rows = c.args.rows.now in
    let replica = c.args.replica in
    let taken = c.in-Opened.taken in
    let own : same_replica replica.range replica.slot c.in-Opened.range c.in-Opened.slot ≡ true = search rules in
    let steps : entry_steps replica.range replica.slot c.args.entry.now ≡ map Adds taken =
    ap (entry_steps replica.range replica.slot) c.in-Opened.is
    ∙ ap (λ b. cond {A = List Turn} b (map Adds taken) []) own in
    record {
      turned = on_ok_weaker c.push_copies.result
          (λ added. added ∙ ap (λ more. rows ++ more) c.as_slice.ensures.items ∙ sym (added_all rows taken)
          ∙ ap (after_turns rows) (sym steps)) c.push_copies.ensures.added;
    }
