use Rattle.std.proofs.Common.{◌++◌, ◌∷◌, [], Bor, sym, ap, ◌∙◌, append-nil}
use Rattle.std.proofs.lemmas.List.{map-append}
use Rattle.std.specs.Option.{option_to_list}
use Rattle.mon_value.specs.declared.values.Value.{Value}
use Rattle.mon_fold.specs.GroupKeys.{cells_seen}
use Rattle.mon_fold.proofs.grouping.add_cell.Goals as goal

pub returns-in_ok-push : goal.returns-in_ok-push
returns-in_ok-push c =
    let old = c.args.cells.now.items in
    ap cells_seen c.in_ok-push.ensures.items
    ∙ map-append (λ (cell : Bor Value). cell.now) old (c.in-Some.cell ∷ [])
    ∙ ap (λ found. cells_seen old ++ option_to_list found) c.in-Some.ensures

pub returns-in_default : goal.returns-in_default
returns-in_default c =
    let old = c.args.cells.now.items in
    sym (append-nil (cells_seen old)) ∙ ap (λ found. cells_seen old ++ option_to_list found) c.in_default.ensures
