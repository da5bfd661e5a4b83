use Rattle.std.proofs.Common.{rules}
use Rattle.std.proofs.lemmas.Fn.{filter_same}
use Rattle.mon_topo.proofs.RangeHistoryLemmas.{not_slot}
use Rattle.write_core.proofs.replays.drop_slot.Goals as goal

pub returns : goal.returns
returns c = record {
  dropped = filter_same _ (not_slot c.args.slot) _ (λ x b f' k. search rules) _ _ c.retain.ensures.filtered;
}
