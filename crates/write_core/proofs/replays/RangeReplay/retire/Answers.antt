use Rattle.std.proofs.Common.{◌≡◌, ◌<◌, ap, sym, subst, ◌∙◌, List, length, arith}
use Rattle.mon_topo.proofs.RangeHistoryLemmas.{not_slot, serving-retired}
use Rattle.mon_topo.specs.RangeHistories.{acknowledged_rows, opened_slots, serving}
use Rattle.mon_value.specs.declared.positions.SlotLeaf.{SlotLeaf}
use Rattle.write_core.proofs.OpeningLemmas.{acked-retired, opened-retired}
use Rattle.write_core.proofs.ReplayLemmas.{retired_fewer}
use Rattle.write_core.specs.Replays.{Replay}
use Rattle.std.specs.Prelude.{Contains, filter, map}
use Rattle.write_core.proofs.replays.RangeReplay.retire.Goals as goal

pub invariant_of-self : goal.invariant_of-self
invariant_of-self c =
    let old = c.self.inside.history.items in
    let grown = c.push_retired.ensures.added in
    record {
      serve = c.drop_slot.ensures.dropped
          ∙ ap (filter (not_slot c.args.slot)) c.self.invariant.serve
          ∙ sym (serving-retired old c.args.pass c.args.slot)
          ∙ ap serving (sym grown);
      count = c.self.invariant.count
          ∙ ap length (sym (acked-retired old c.args.pass c.args.slot))
          ∙ ap (λ h. length (acknowledged_rows h)) (sym grown);
      opened = c.self.invariant.opened
          ∙ ap length (sym (opened-retired old c.args.pass c.args.slot))
          ∙ ap (λ h. length (opened_slots h)) (sym grown);
      retirements =
          let whole : serving c.args.self.now.history ≡ c.self.inside.serving.items
          = ap (λ (seen : Replay). serving seen.history) (sym c.self.view_is) ∙ sym c.self.invariant.serve in
          let serves = subst (λ (xs : List SlotLeaf). Contains (map (λ (one : SlotLeaf). one.slot) xs) c.args.slot) whole
          c.requires.serves in
          let dropped = ap (λ (xs : List SlotLeaf). length xs) c.drop_slot.ensures.dropped in
          let fewer : length (filter (not_slot c.args.slot) c.self.inside.serving.items) < length c.self.inside.serving.items
          = retired_fewer c.args.slot c.self.inside.serving.items serves in
          omega (arith, dropped, fewer, c.self.invariant.retirements, c.push_retired.ensures.room);
    }
