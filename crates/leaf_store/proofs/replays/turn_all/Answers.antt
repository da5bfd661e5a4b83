use Rattle.std.proofs.Common.{◌≡◌, ◌∙◌, ◌+◌, ◌∷◌, List, drop, sym, ap}
use Rattle.std.proofs.lemmas.List.{drop_more}
use Rattle.mon_value.proofs.TurnLemmas.{after_turns-append}
use Rattle.mon_value.specs.Turns.{after_turns}
use Rattle.mon_value.specs.declared.rows.Row.{Row}
use Rattle.leaf_store.specs.declared.fresh.FreshEntry.{FreshEntry}
use Rattle.leaf_store.specs.within.FreshEntries.{entries_in}
use Rattle.leaf_store.specs.within.FromBehind.{entry_steps, replica_steps}
use Rattle.leaf_store.proofs.replays.turn_all.Goals as goal

pub loop-fresh-preserved : goal.loop-fresh-preserved
loop-fresh-preserved c =
    let range = c.args.replica.range in
    let slot = c.args.replica.slot in
    let entries = c.args.entries.now in
    let i = c.loop-fresh.fresh-index in
    let rows = c.loop-fresh.rows in
    let fresh : FreshEntry = c.fresh-item.result in
    let rest = drop (i + 1) entries in
    let next : drop i entries ≡ fresh ∷ rest =
    drop_more entries i fresh c.loop-fresh-test.true ∙ ap (λ (one : FreshEntry). one ∷ rest) (sym c.fresh-item.is) in
    let steps = replica_steps range slot (entries_in rest) in
    ap (λ (turned : List Row). after_turns turned steps) c.in_ok-turn_by.ensures.turned
    ∙ sym (after_turns-append rows (entry_steps range slot fresh.entry) steps)
    ∙ ap (λ (left : List FreshEntry). after_turns rows (replica_steps range slot (entries_in left))) (sym next)
    ∙ c.loop-fresh.invariant
