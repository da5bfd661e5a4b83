use Rattle.std.proofs.Common.{◌≡◌, ◌∙◌, ◌++◌, ◌∷◌, [], Some, ap, get_or, slice_get, take, arith, refl}
use Rattle.std.proofs.lemmas.List.{take_all}
use Rattle.mon_topo.proofs.FirstOpenings.{item_at}
use Rattle.mon_topo.specs.HeldHistories.{openings_from, slot_numbered}
use Rattle.mon_value.specs.declared.histories.RangeEntry.TheVariants as entry
use Rattle.mon_value.specs.declared.positions.Leaf.{Leaf}
use Rattle.range_cell.proofs.FirstReplicaLemmas.{next_opening}
use Rattle.range_cell.proofs.new_ranges.replay_openings.Goals as goal

pub loop-slot-preserved : goal.loop-slot-preserved
loop-slot-preserved c =
    let first = c.args.first.now in
    let k = c.loop-slot.slot in
    let leaf : Leaf = get_or first k (record { 0 = 0 }) in
    let at : slice_get first k ≡ Some leaf = item_at first first k (record { 0 = 0 }) refl c.loop-slot-test.true in
    c.in_ok-open.ensures.opened ∙ ap (λ h. h ++ entry.Opened 0 (slot_numbered k) leaf ∷ []) c.loop-slot.invariant
    ∙ ap (λ n. openings_from 0 (take k first) ++ entry.Opened 0 (slot_numbered n) leaf ∷ []) (omega arith)
    ∙ next_opening first 0 k leaf at

pub returns : goal.returns
returns c =
    let first = c.args.first.now in
    record {
      history = c.loop-slot.invariant
          ∙ ap (openings_from 0) (take_all c.loop-slot.slot first c.loop-slot-test.false);
    }
