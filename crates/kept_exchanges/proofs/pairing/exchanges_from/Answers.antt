use Rattle.std.proofs.Common.{◌++◌, ◌∷◌, []}
use Rattle.std.specs.Option.{option_to_list}
use Rattle.kept_exchanges.specs.Exchanges.{comes, gones}
use Rattle.kept_exchanges.proofs.PairLemmas.{paired_more}
use Rattle.kept_exchanges.proofs.pairing.exchanges_from.Goals as goal

pub loop-come-preserved : goal.loop-come-preserved
loop-come-preserved c =
    let so_far = c.loop-come.invariant in
    let pushed = c.in_ok-push_exchange.ensures.pushed in
    let before = c.loop-come.made.items in
    let after = c.push_exchange.new.made.items in
    record {
      stay = pushed.stay ++ so_far.stay;
      gone = paired_more c.args.left.now.items c.loop-come.left.items c.taken_at-gone.new.rows.items
          (option_to_list c.taken_at-gone.result) (gones before) (gones after) so_far.stay pushed.stay so_far.gone
          c.taken_at-gone.ensures pushed.goes;
      come = paired_more c.args.after.items c.loop-come.rest.items c.pop.new.self.items (c.in-Some.come ∷ [])
          (comes before) (comes after) so_far.stay pushed.stay so_far.come c.in-Some.ensures.items pushed.comes_so;
    }
