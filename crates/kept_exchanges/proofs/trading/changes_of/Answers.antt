use Rattle.std.proofs.Common.{◌≡◌, ◌∙◌, ◌+◌, ◌++◌, ◌∷◌, [], List, Option, Some, take, rules, sym, ap, subst}
use Rattle.mon_meaning.specs.within.Paths.{trees_of}
use Rattle.mon_value.specs.declared.tables.TimedRow.{TimedRow}
use Rattle.kept_exchanges.specs.Flows.{row_flowing}
use Rattle.kept_exchanges.specs.Traded.{AreChangesOf, HasTraded}
use Rattle.kept_exchanges.specs.declared.exchanges.Exchange.{Exchange}
use Rattle.kept_exchanges.proofs.TradeLemmas.{more_changes, take_last}
use Rattle.kept_exchanges.proofs.trading.changes_of.Goals as goal

pub loop-exchange-preserved : goal.loop-exchange-preserved
loop-exchange-preserved c =
    let above = trees_of c.args.above.now in
    let by = c.args.by.now in
    let with = c.args.with.now in
    let begun = c.args.groups.now.entries in
    let i = c.loop-exchange.exchange-index in
    let all = c.args.exchanges.now in
    let one = c.exchange-item.result in
    let before = c.loop-exchange.changes.items in
    let after = c.add_change.new.changes.items in
    let next : take (i + 1) all ≡ take i all ++ one ∷ [] =
    take_last all i one c.loop-exchange-test.true
    ∙ ap (λ (e : Exchange). take i all ++ e ∷ []) (sym c.exchange-item.is) in
    let gone : c.in_ok-gone.gone ≡ row_flowing above one.gone = c.in_ok-gone.ensures.made in
    let come : c.in_ok-come.come ≡ row_flowing above (Some one.come) =
    c.in_ok-come.ensures.made ∙ ap (λ (row : TimedRow). row_flowing above (Some row)) c.in_ok-copy.ensures.equal in
    let known : HasTraded by with begun c.in_ok-gone.gone c.in_ok-come.come before after =
    c.in_ok-add_change.ensures.traded c.if-not-branch.false in
    let has = subst (λ (row : Option TimedRow). HasTraded by with begun (row_flowing above one.gone) row before after) come
    (subst (λ (row : Option TimedRow). HasTraded by with begun row c.in_ok-come.come before after) gone known) in
    subst (λ (some : List Exchange). AreChangesOf above by with begun some after) (sym next)
    (more_changes by with begun above (take i all) one before after c.loop-exchange.invariant has)
