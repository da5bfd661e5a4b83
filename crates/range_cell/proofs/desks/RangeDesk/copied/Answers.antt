use Rattle.std.proofs.Common.{◌≡◌, ◌+◌, ◌++◌, ◌∷◌, ℕ, cond, not, List, [], length, map, take, sym, ap, subst, ◌∙◌}
use Rattle.std.specs.Prelude.{Contains, slice_index_or}
use Rattle.std.proofs.lemmas.List.{map-append, take_all, take_more}
use Rattle.std.proofs.lemmas.List.Elements.{Contains-get_or}
use Rattle.know.specs.Knowledge.{stopped_count}
use Rattle.know.specs.declared.answers.Copied.{Copied}
use Rattle.mon_topo.proofs.RangeHistoryLemmas.{all_at}
use Rattle.mon_topo.specs.RangeHistories.{left_rows}
use Rattle.mon_value.specs.Histories.{leaf_history}
use Rattle.mon_value.specs.LeafHistories.{kept_rows}
use Rattle.mon_value.specs.declared.positions.FoundDown.{FoundDown}
use Rattle.mon_value.specs.declared.positions.SlotLeaf.{SlotLeaf}
use Rattle.mon_value.specs.declared.rows.Row.{Row}
use Rattle.owners.specs.Copies.{HasCopied}
use Rattle.range_cell.proofs.LookingLemmas.{down_now, down_on, found_rows, looks_on}
use Rattle.range_cell.proofs.LookingLemmas.{one_found, up_now}
use Rattle.range_cell.specs.Recoveries.{IsFoundDown, NotYet, after_copying}
use Rattle.range_cell.proofs.desks.RangeDesk.copied.Goals as goal

abbrev none_yet : SlotLeaf
none_yet = record { slot = record { 0 = 0 }; leaf = record { 0 = 0 } }

pub returns-in-Ok-Rows-clause-rows : goal.returns-in-Ok-Rows-clause-rows
returns-in-Ok-Rows-clause-rows g c =
    let begun = c.args.know.now in
    let old = c.loop-source.know in
    let new = c.copy.new.know in
    let range = c.args.range in
    let history = c.args.self.now.replay.history in
    let sources = c.args.sources.now in
    let i = c.loop-source.source-index in
    let source : SlotLeaf = slice_index_or sources i none_yet in
    let up = subst (λ (x : Copied). HasCopied source.leaf range source.slot x old new) c.in-Ok-Rows.field-0-is
    c.in-Ok-Rows.ensures.copied in
    up.rows_are
    ∙ found_rows range begun.handed begun.handed begun old new c.loop-source.invariant.looking c.requires.held
    source.leaf up.history up.called source.slot (left_rows history)
    (all_at (λ (x : SlotLeaf). kept_rows range x.slot (leaf_history begun.seen x.leaf) ≡ left_rows history) sources source
    c.requires.kept (Contains-get_or sources i none_yet c.loop-source-test.true))

pub returns-in-Ok-Rows-clause-copied : goal.returns-in-Ok-Rows-clause-copied
returns-in-Ok-Rows-clause-copied g c =
    let begun = c.args.know.now in
    let old = c.loop-source.know in
    let new = c.copy.new.know in
    let range = c.args.range in
    let history = c.args.self.now.replay.history in
    let sources = c.args.sources.now in
    let i = c.loop-source.source-index in
    let source : SlotLeaf = slice_index_or sources i none_yet in
    let looking = c.loop-source.invariant.looking in
    let up = subst (λ (x : Copied). HasCopied source.leaf range source.slot x old new) c.in-Ok-Rows.field-0-is
    c.in-Ok-Rows.ensures.copied in
    let rows : c.in-Ok-Rows.rows ≡ left_rows history =
    up.rows_are
    ∙ found_rows range begun.handed begun.handed begun old new looking c.requires.held source.leaf up.history
    up.called source.slot (left_rows history)
    (all_at (λ (x : SlotLeaf). kept_rows range x.slot (leaf_history begun.seen x.leaf) ≡ left_rows history) sources source
    c.requires.kept (Contains-get_or sources i none_yet c.loop-source-test.true)) in
    looks_on range begun.handed (after_copying history begun) begun old new looking c.requires.held source.leaf
    up.history up.called up.rooms_are
    (up.handed ∙ ap (λ (n : ℕ). stopped_count (n + length c.in-Ok-Rows.rows)) looking.counted
    ∙ ap (λ (xs : List Row). stopped_count (begun.handed + length xs)) rows)

pub returns-in-Ok-Rows-clause-source : goal.returns-in-Ok-Rows-clause-source
returns-in-Ok-Rows-clause-source g c =
    let begun = c.args.know.now in
    let old = c.loop-source.know in
    let new = c.copy.new.know in
    let range = c.args.range in
    let sources = c.args.sources.now in
    let i = c.loop-source.source-index in
    let source : SlotLeaf = slice_index_or sources i none_yet in
    let up = subst (λ (x : Copied). HasCopied source.leaf range source.slot x old new) c.in-Ok-Rows.field-0-is
    c.in-Ok-Rows.ensures.copied in
    record {
      source = source;
      among = subst (λ (xs : List SlotLeaf). Contains xs source) c.requires.serve
          (Contains-get_or sources i none_yet c.loop-source-test.true);
      cut = length up.history;
      found = up_now range begun.handed begun.handed begun old new c.loop-source.invariant.looking c.requires.held
          source.leaf up.history up.called up.up;
    }

pub returns-then-is_err-clause-refused : goal.returns-then-is_err-clause-refused
returns-then-is_err-clause-refused g c =
    let begun = c.args.know.now in
    let old = c.loop-source.know in
    let new = c.copy.new.know in
    let range = c.args.range in
    let source : SlotLeaf = slice_index_or c.args.sources.now c.loop-source.source-index none_yet in
    let looking = c.loop-source.invariant.looking in
    let down = subst (λ (x : Copied). HasCopied source.leaf range source.slot x old new) c.in-Ok-Down.field-0-is
    c.in-Ok-Down.ensures.copied in
    NotYet (looks_on range begun.handed begun.handed begun old new looking c.requires.held source.leaf down.history
    down.called down.rooms_are (down.handed ∙ looking.counted))

pub returns-in-Err-clause-refused : goal.returns-in-Err-clause-refused
returns-in-Err-clause-refused g c =
    let begun = c.args.know.now in
    let source : SlotLeaf = slice_index_or c.args.sources.now c.loop-source.source-index none_yet in
    let looking = c.loop-source.invariant.looking in
    let looked = c.in-Err.ensures.refused in
    NotYet (looks_on c.args.range begun.handed begun.handed begun c.loop-source.know c.copy.new.know looking
    c.requires.held source.leaf looked.history looked.called looked.rooms_are (looked.handed ∙ looking.counted))

pub loop-source-preserved : goal.loop-source-preserved
loop-source-preserved g c =
    let begun = c.args.know.now in
    let old = c.loop-source.know in
    let new = c.copy.new.know in
    let range = c.args.range in
    let sources = c.args.sources.now in
    let i = c.loop-source.source-index in
    let source : SlotLeaf = slice_index_or sources i none_yet in
    let cut = c.in-Ok-Down.cut in
    let last : FoundDown = record { leaf = source.leaf; cut = cut } in
    let inv = c.loop-source.invariant in
    let founds = c.loop-source.founds.items in
    let down = subst (λ (x : Copied). HasCopied source.leaf range source.slot x old new) c.in-Ok-Down.field-0-is
    c.in-Ok-Down.ensures.copied in
    let pushed : c.push.new.self.items ≡ founds ++ last ∷ [] =
    c.push.ensures.items
    ∙ ap (λ b. cond b (founds ++ last ∷ []) founds) (c.is_err.ensures.negation ∙ ap not c.if-is_err.false) in
    let more : take (i + 1) sources ≡ take i sources ++ source ∷ [] =
    take_more sources i none_yet c.loop-source-test.true in
    record {
      looking = looks_on range begun.handed begun.handed begun old new inv.looking c.requires.held source.leaf
          down.history down.called down.rooms_are (down.handed ∙ inv.looking.counted);
      leaves = ap (map (λ (found : FoundDown). found.leaf)) pushed
          ∙ map-append (λ (found : FoundDown). found.leaf) founds (last ∷ [])
          ∙ ap (λ xs. xs ++ source.leaf ∷ []) inv.leaves
          ∙ sym (map-append (λ (replica : SlotLeaf). replica.leaf) (take i sources) (source ∷ []))
          ∙ ap (map (λ (replica : SlotLeaf). replica.leaf)) (sym more);
      down = subst (λ (xs : List FoundDown). (found : FoundDown) → Contains xs found
          → IsFoundDown begun new found.leaf found.cut) (sym pushed)
          (one_found begun old new founds last
          (down_on range begun.handed begun.handed begun old new inv.looking c.requires.held source.leaf down.history
          down.called)
          inv.down
          (down_now range begun.handed begun.handed begun old new inv.looking c.requires.held source.leaf down.history
          down.called cut down.down down.counted));
    }

pub returns-clause-refused : goal.returns-clause-refused
returns-clause-refused g c =
    let history = c.args.self.now.replay.history in
    let sources = c.args.sources.now in
    let i = c.loop-source.source-index in
    let inv = c.loop-source.invariant in
    let founds = c.loop-source.founds.items in (
      inv.looking,
      record {
        leaves = ap (map (λ (found : FoundDown). found.leaf)) c.from_vec.ensures.items
            ∙ inv.leaves
            ∙ ap (map (λ (replica : SlotLeaf). replica.leaf)) (take_all i sources c.loop-source-test.false
            ∙ c.requires.serve);
        down = subst (λ (xs : List FoundDown). (found : FoundDown) → Contains xs found
            → IsFoundDown c.args.know.now c.loop-source.know found.leaf found.cut)
            (sym c.from_vec.ensures.items) inv.down;
      },
    )
