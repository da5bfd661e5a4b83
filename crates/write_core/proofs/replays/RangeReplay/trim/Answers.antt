use Rattle.std.proofs.Common.{◌≡◌, ◌<◌, ◌≤◌, ◌-◌, ℤ, ap, sym, subst, ◌∙◌, List, [], ◌∷◌, ◌++◌, length, arith, rules}
use Rattle.std.proofs.Common.{to_z, of_z, w64}
use Rattle.mon_value.specs.declared.histories.RangeEntry.TheVariants as entry
use Rattle.mon_topo.proofs.RangeHistoryLemmas.{serving-trimmed}
use Rattle.mon_topo.specs.RangeHistories.{acknowledged_rows, is_missed, opened_slots, serving}
use Rattle.mon_value.proofs.PlainLemmas.{filter-few}
use Rattle.mon_value.specs.declared.positions.SlotLeaf.{SlotLeaf}
use Rattle.write_core.proofs.OpeningLemmas.{acked-trimmed, opened-trimmed}
use Rattle.write_core.specs.Replays.{Replay}
use Rattle.std.specs.Prelude.{filter, not}
use Rattle.write_core.proofs.replays.RangeReplay.trim.Goals as goal

pub invariant_of-self : goal.invariant_of-self
invariant_of-self c =
    let old = c.self.inside.history.items in
    let plain : to_z w64 (of_z w64 c.args.before) ≡ c.args.before = search rules in
    let grown : c.push_trimmed.new.self.items ≡ old ++ entry.Trimmed c.args.pass c.args.before c.args.ack.now ∷ []
    = c.push_trimmed.ensures.added ∙ ap (λ (bound : ℤ). old ++ entry.Trimmed c.args.pass bound c.args.ack.now ∷ []) plain
    in
    record {
      serve = c.drop_missed.ensures.dropped
          ∙ (λ i. filter (λ (replica : SlotLeaf). not (is_missed (c.as_slice.ensures.items i) replica))
          (c.self.invariant.serve i))
          ∙ sym (serving-trimmed old c.args.pass c.args.before c.args.ack.now)
          ∙ ap serving (sym grown);
      count = c.self.invariant.count
          ∙ ap length (sym (acked-trimmed old c.args.pass c.args.before c.args.ack.now))
          ∙ ap (λ h. length (acknowledged_rows h)) (sym grown);
      opened = c.self.invariant.opened
          ∙ ap length (sym (opened-trimmed old c.args.pass c.args.before c.args.ack.now))
          ∙ ap (λ h. length (opened_slots h)) (sym grown);
      retirements =
          let dropped = ap (λ (xs : List SlotLeaf). length xs) c.drop_missed.ensures.dropped in
          let fewer : length (filter (λ (replica : SlotLeaf). not (is_missed c.as_slice.result.now replica))
          c.self.inside.serving.items) ≤ length c.self.inside.serving.items
          = filter-few _ c.self.inside.serving.items in
          let room : 0 < c.self.inside.history.spare - length c.self.inside.serving.items
          = subst (λ (seen : Replay). 0 < seen.entry_room) (sym c.self.view_is) c.requires.room.entry in
          omega (arith, dropped, fewer, room, c.push_trimmed.ensures.room);
    }
