use Rattle.std.proofs.Common.{◌≡◌, ◌∙◌, [], ◌∷◌, map, sym, ap}
use Rattle.std.specs.Vec.Iter.{into_iter_items}
use Rattle.mon_value.proofs.GroupLemmas.{merged_rows, own_group}
use Rattle.mon_value.specs.declared.tables.TimedRow.{TimedRow}
use Rattle.mon_meaning.specs.within.Times.{groups_at}
use Rattle.mon_meaning.proofs.TopLemmas.{all_merged}
use Rattle.mon_meaning.proofs.tops.rows_by_time.Goals as goal

pub loop-row-init : goal.loop-row-init
loop-row-init c =
    let items : into_iter_items c.into_iter-row-iterator.result ≡ c.args.rows =
    c.into_iter-row-iterator.ensures.into_iter_gives.0 in
    ap (λ (rows : _). merged_rows (groups_at c.new-groups.result.entries) (map (own_group []) rows)) items
    ∙ ap (λ (entries : _). merged_rows (groups_at entries) (map (own_group []) c.args.rows)) c.new-groups.ensures.empty
    ∙ all_merged c.args.rows

pub loop-row-preserved : goal.loop-row-preserved
loop-row-preserved c =
    let rest = into_iter_items c.next.new.self in
    let row : TimedRow = c.in-Some.row in
    let next : into_iter_items c.loop-row.row-iterator ≡ row ∷ rest = c.in-Some.ensures.steps.0 in
    ap (λ groups. merged_rows groups (map (own_group []) rest)) c.in_ok-add_row.ensures.added
    ∙ sym (ap (λ (rows : _). merged_rows (groups_at c.loop-row.groups.entries) (map (own_group []) rows)) next)
    ∙ c.loop-row.invariant
