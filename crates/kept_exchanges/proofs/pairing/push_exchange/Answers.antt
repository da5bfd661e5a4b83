use Rattle.std.proofs.Common.{refl}
use Rattle.kept_exchanges.proofs.PairLemmas.{pushed_pair, stayed_pair}
use Rattle.kept_exchanges.proofs.pairing.push_exchange.Goals as goal

pub returns-then-stays : goal.returns-then-stays
returns-then-stays c =
    record { pushed = stayed_pair c.args.gone c.args.come c.args.made.now.items (c.if-stays.ensures refl) }

pub returns : goal.returns
returns c = record {
  pushed = pushed_pair c.args.gone c.args.come c.args.made.now.items c.push.new.self.items c.in_ok-push.ensures.items;
}
