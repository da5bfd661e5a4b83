use Rattle.std.proofs.Common.{◌≡◌, ◌<◌, [], ◌∷◌, List, get_or, length, sym, ap, subst, ◌∙◌, arith}
use Rattle.mon_value.specs.Groups.{group_key}
use Rattle.mon_value.specs.declared.tables.TimedRow.{TimedRow}
use Rattle.mon_fold.specs.GroupKeys.{owned_groups}
use Rattle.mon_fold.specs.PartialGroups.{CanTakeGroup, PartialGroup, parts_over, with_group}
use Rattle.mon_fold.proofs.GroupBounds.{can_take_row}
use Rattle.mon_fold.proofs.PartialGroupLemmas.{made_by_row}
use Rattle.mon_fold.proofs.grouping.groups_of.Goals as goal

pub put_row-requires : goal.put_row-requires
put_row-requires c =
    let t = c.args.t.now in
    let by = c.args.by.now in
    let with = c.args.with.now in
    let i = c.loop-row.row-index in
    let row = c.row-item.result in
    let listed = c.as_slice-row-items.ensures.items in
    let is : row ≡ get_or t.rows i row = subst (λ (rows : List TimedRow). row ≡ get_or rows i row) listed
    c.row-item.is in
    let h : i < length t.rows = subst (λ (rows : List TimedRow). i < length rows) listed c.loop-row-test.true in
    let can = can_take_row t.columns by with t.rows c.requires i row is h (omega arith) in
    let here = subst (λ (groups : List PartialGroup). CanTakeGroup groups
    (group_key by row, parts_over with (row ∷ []))) (sym c.loop-row.invariant) can in
    subst (λ (key : TimedRow). CanTakeGroup (owned_groups c.loop-row.groups.entries) (key, parts_over with (row ∷ [])))
    (sym c.in_ok-set.ensures) here

pub loop-row-preserved : goal.loop-row-preserved
loop-row-preserved c =
    let t = c.args.t.now in
    let by = c.args.by.now in
    let with = c.args.with.now in
    let i = c.loop-row.row-index in
    let row = c.row-item.result in
    let listed = c.as_slice-row-items.ensures.items in
    let is : row ≡ get_or t.rows i row = subst (λ (rows : List TimedRow). row ≡ get_or rows i row) listed
    c.row-item.is in
    let h : i < length t.rows = subst (λ (rows : List TimedRow). i < length rows) listed c.loop-row-test.true in
    let old = owned_groups c.loop-row.groups.entries in
    let put = c.in_ok-put_row.ensures ∙ ap (λ (key : TimedRow). with_group old (key, parts_over with (row ∷ [])))
    c.in_ok-set.ensures in
    made_by_row by with t.rows i row is h old (owned_groups c.put_row.new.groups.entries) put c.loop-row.invariant
