use Rattle.std.proofs.Common.{◌≡◌, ◌∙◌, ◌∷◌, [], ap, length, map, arith, rules}
use Rattle.std.proofs.lemmas.List.{map-append}
use Rattle.std.specs.List.{range_with_len}
use Rattle.mon_topo.specs.Zones.{ranges_in}
use Rattle.mon_topo.specs.HeldHistories.{first_range_history}
use Rattle.core_store.proofs.OpeningLemmas.{opened_all}
use Rattle.mon_topo.proofs.FirstOpenings.{histories_more}
use Rattle.core_store.specs.Openings.{replayed}
use Rattle.write_core.specs.Replays.{Replay}
use Rattle.core_store.proofs.store.open_ranges.Goals as goal

pub loop-range-init : goal.loop-range-init
loop-range-init c = record { opened = c.requires.none; histories = search rules }

pub open_range-requires-clause-before : goal.open_range-requires-clause-before
open_range-requires-clause-before c = c.loop-range.invariant.opened

pub loop-range-preserved : goal.loop-range-preserved
loop-range-preserved c = record {
  opened = c.in_ok-state.ensures.opened;
  histories = histories_more c.args.config.now.topology c.loop-range.range (replayed c.loop-range.ranges.items)
      _ c.in_ok-state.state.history
      c.loop-range.invariant.histories c.in_ok-state.ensures.history
      (ap replayed c.in_ok-push.ensures.items
      ∙ map-append (λ (replay : Replay). replay.history) c.loop-range.ranges.items (c.in_ok-state.state ∷ []));
}

pub returns : goal.returns
returns c =
    let all : c.loop-range.range ≡ length (ranges_in c.args.config.now.topology)
    = (let end = c.ranges-range-end.ensures.count in
    let past = c.loop-range-test.false in
    let before = c.loop-range.auto.range-end in omega arith) in
    record {
      opened = opened_all c.args.config.now c.loop-range.range c.loop-range.leaves.items all
          c.loop-range.invariant.opened;
      histories = c.loop-range.invariant.histories
          ∙ ap (λ n. map (first_range_history c.args.config.now.topology) (range_with_len 0 n)) all;
    }
