use Rattle.std.proofs.Common.{◌≡◌, ◌∙◌, ◌++◌, ◌∷◌, List, option_to_list, append_assoc, sym, ap, subst}
use Rattle.std.specs.List.{AllByRecursion, filter_map}
use Rattle.std.specs.Vec.Iter.{into_iter_items}
use Rattle.mon_value.specs.declared.tables.TimedRow.{TimedRow}
use Rattle.mon_meaning.specs.within.Items.{CanMake, row_made}
use Rattle.mon_meaning.proofs.ItemLemmas.{cons_list}
use Rattle.mon_meaning.proofs.value_rows.rows_made.Goals as goal

pub loop-row-preserved : goal.loop-row-preserved
loop-row-preserved c =
    let columns = c.args.columns.now in
    let bound = c.args.items.now in
    let made : List TimedRow = c.loop-row.made in
    let rest : List TimedRow = into_iter_items c.next.new.self in
    let row : TimedRow = c.in-Some.row in
    let next : into_iter_items c.loop-row.row-iterator ≡ row ∷ rest = c.in-Some.ensures.steps.0 in
    let more = filter_map (row_made columns bound) rest in
    let can = subst (AllByRecursion (CanMake bound)) next c.loop-row.invariant.can in
    record {
      rows = ap (λ (all : List TimedRow). all ++ more) c.in_ok-push_made.ensures.added
          ∙ append_assoc made (option_to_list c.in_ok-next.next) more
          ∙ ap (λ o. made ++ (option_to_list o ++ more)) c.in_ok-next.ensures.row
          ∙ ap (λ all. made ++ all) (sym (cons_list (row_made columns bound row) more))
          ∙ ap (λ (rows : List TimedRow). made ++ filter_map (row_made columns bound) rows) (sym next)
          ∙ c.loop-row.invariant.rows;
      can = can.1;
    }
