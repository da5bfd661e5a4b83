use Rattle.std.proofs.Common.{◌≡◌, IfSome, subst}
use Rattle.kept_groups.specs.Changes.{IsChange}
use Rattle.kept_groups.specs.declared.changes.Change.{Change}
use Rattle.kept_exchanges.proofs.TradeLemmas.{traded}
use Rattle.kept_exchanges.proofs.trading.add_trade.Goals as goal

pub returns-in_ok-push-in-Some : goal.returns-in_ok-push-in-Some
returns-in_ok-push-in-Some c =
    let by = c.args.by.now in
    let with = c.args.with.now in
    let begun = c.args.groups.now.entries in
    let found = c.in_ok-change.ensures in
    record {
      traded = λ known.
          traded by with begun c.args.changes.now.items c.push.new.self.items c.in-Some.change c.args.gone c.args.come
          c.in_ok-push-in-Some.ensures.items
          (subst (λ o. IfSome o (λ (change : Change). change.gone ≡ c.args.gone)) c.in-Some.is found.gone)
          (subst (λ o. IfSome o (λ (change : Change). change.come ≡ c.args.come)) c.in-Some.is found.come)
          (subst (λ o. IfSome o (IsChange by with begun)) c.in-Some.is found.made);
    }
