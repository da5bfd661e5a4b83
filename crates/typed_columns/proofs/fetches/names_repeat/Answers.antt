use Rattle.std.proofs.Common.{◌≡◌, ◌∙◌, ◌+◌, ◌∷◌, List, ap, arith, drop, false, sym}
use Rattle.std.proofs.lemmas.List.{drop_more}
use Rattle.mon_value.specs.declared.columns.Column.{Column}
use Rattle.mon_value.specs.Tables.{column_names}
use Rattle.typed_trees.specs.Items.{is_taken}
use Rattle.typed_columns.proofs.ColumnNameLemmas.{repeats_behind, repeats_behind-next}
use Rattle.typed_columns.proofs.fetches.names_repeat.Goals as goal

pub loop-column-preserved : goal.loop-column-preserved
loop-column-preserved c =
    let columns = c.args.columns.now in
    let column : Column = c.column-item.result in
    let i = c.loop-column.column-index in
    let names = c.loop-column.names in
    let name = c.as_str.result.now in
    let rest = column_names (drop (i + 1) columns) in
    let next : drop i columns ≡ column ∷ drop (i + 1) columns =
    drop_more columns i column (omega (arith, c.loop-column-test.true))
    ∙ ap (λ (x : Column). x ∷ drop (i + 1) columns) (sym c.column-item.is) in
    let new : is_taken name names ≡ false = sym c.in_ok-take.ensures.taken ∙ c.if-branch.false in
    ap (λ taken. repeats_behind taken rest) c.in_ok-take.ensures.names
    ∙ repeats_behind-next names name rest new
    ∙ ap (λ text. repeats_behind names (text ∷ rest))
    (c.as_str.ensures.bytes ∙ ap (λ (x : Column). x.name) c.deref.ensures)
    ∙ sym (ap (λ (cs : List Column). repeats_behind names (column_names cs)) next)
    ∙ c.loop-column.invariant
