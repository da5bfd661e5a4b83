use Rattle.std.proofs.Common.{◌≡◌, ◌+◌, ◌++◌, List, [], length, sym, ap, ◌∙◌}
use Rattle.std.specs.Prelude.{slice_index_or}
use Rattle.std.specs.List.{flat_map}
use Rattle.know.specs.Knowledge.{stopped_count}
use Rattle.mon_value.specs.declared.rows.Row.{Row}
use Rattle.query_traces.specs.Traces.{resolved_rows}
use Rattle.query_traces.specs.declared.answers.Resolved.{Resolved}
use Rattle.mon_store.proofs.GatherLemmas.{counted_on, cut_seen, none_handed, one_more, one_there, owns_itself, owns_on}
use Rattle.mon_store.proofs.stores.Store.gathered.Goals as goal

abbrev nowhere : Resolved
nowhere = record { range = record { 0 = 0 }; slot = record { 0 = 0 }; leaf = record { 0 = 0 } }

pub loop-one-init : goal.loop-one-init
loop-one-init g c =
    let none : c.new-rows.result.items ≡ [] = c.new-rows.ensures.items in
    record {
      same = owns_itself c.args.know.now;
      all = ap (λ (rows : List Row).
          rows ++ flat_map (resolved_rows c.args.know.now.seen c.args.trace.now) c.args.trace.now.resolved) none;
      handed = none_handed c.args.know.now.handed _
          ∙ ap (λ (rows : List Row). stopped_count (c.args.know.now.handed + length rows)) (sym none);
    }

pub gather_slot-requires-clause-there : goal.gather_slot-requires-clause-there
gather_slot-requires-clause-there g c =
    one_there g.N.Names.setting.zones c.args.know.now c.args.trace.now c.requires.seen c.as_slice-one-items.result.now
    c.loop-one.one-index nowhere c.as_slice-one-items.ensures.items c.loop-one-test.true

pub gather_slot-requires-clause-seen : goal.gather_slot-requires-clause-seen
gather_slot-requires-clause-seen g c =
    let one : Resolved = slice_index_or c.as_slice-one-items.result.now c.loop-one.one-index nowhere in
    cut_seen g.N.Names.setting.zones c.args.know.now c.args.trace.now c.requires.seen c.loop-one.know one.leaf
    c.get-cut.result.now c.loop-one.invariant.same
    (one_there g.N.Names.setting.zones c.args.know.now c.args.trace.now c.requires.seen c.as_slice-one-items.result.now
    c.loop-one.one-index nowhere c.as_slice-one-items.ensures.items c.loop-one-test.true)
    c.get-cut.ensures.item

pub returns-in_err-gather_slot-clause-same : goal.returns-in_err-gather_slot-clause-same
returns-in_err-gather_slot-clause-same g c =
    owns_on c.args.know.now c.loop-one.know c.gather_slot.new.know c.loop-one.invariant.same c.gather_slot.ensures.same

pub loop-one-preserved : goal.loop-one-preserved
loop-one-preserved g c = record {
  same = owns_on c.args.know.now c.loop-one.know c.gather_slot.new.know c.loop-one.invariant.same
      c.gather_slot.ensures.same;
  all = one_more g.N.Names.setting.zones c.args.know.now c.args.trace.now c.requires.seen c.loop-one.know
      c.loop-one.rows.items c.gather_slot.new.rows.items c.as_slice-one-items.result.now c.loop-one.one-index
      c.get-cut.result.now nowhere c.as_slice-one-items.ensures.items c.loop-one-test.true c.loop-one.invariant.same
      c.get-cut.ensures.item c.loop-one.invariant.all c.in_ok-gather_slot.ensures.rows;
  handed = counted_on c.args.know.now.handed c.loop-one.know.handed c.gather_slot.new.know.handed
      c.loop-one.rows.items _ c.loop-one.invariant.handed c.in_ok-gather_slot.ensures.handed
      ∙ ap (λ (rows : List Row). stopped_count (c.args.know.now.handed + length rows))
      (sym c.in_ok-gather_slot.ensures.rows);
}
