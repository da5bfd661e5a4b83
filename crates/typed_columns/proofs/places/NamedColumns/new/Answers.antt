use Rattle.std.proofs.Common.{◌≡◌, ◌∙◌, ◌+◌, ◌∷◌, [], ◌++◌, List, ap, arith, cond, None, Some, sym, take}
use Rattle.std.proofs.lemmas.List.{length-take-le, take_more}
use Rattle.std.specs.Option.{option_or}
use Rattle.mon_value.specs.Same.{same_text}
use Rattle.mon_value.specs.declared.columns.Column.{Column}
use Rattle.typed_trees.specs.Groupings.{place_found}
use Rattle.typed_columns.proofs.NamedPlaceLemmas.{place_found-push}
use Rattle.typed_columns.proofs.places.NamedColumns.new.Goals as goal

pub loop-place-preserved : goal.loop-place-preserved
loop-place-preserved c name =
    let columns = c.args.columns.now in
    let column : Column = c.index-columns-place.result in
    let i = c.loop-place.place in
    let before = take i columns in
    let next : take (i + 1) columns ≡ before ++ column ∷ [] = take_more columns i column
    (omega (arith, c.loop-place-test.true))
    ∙ ap (λ (x : Column). before ++ x ∷ []) (sym c.index-columns-place.is) in
    let count = length-take-le i columns (omega (arith, c.loop-place-test.true)) in
    c.in_ok-add_place.ensures.added name
    ∙ ap (λ o. option_or o (cond (same_text name.now c.as_str.result.now) (Some i) None)) (c.loop-place.invariant name)
    ∙ ap (λ text. option_or (place_found name.now before) (cond (same_text name.now text) (Some i) None))
    (c.as_str.ensures.bytes ∙ ap (λ (x : Column). x.name) c.deref.ensures)
    ∙ ap (λ n. option_or (place_found name.now before) (cond (same_text name.now column.name) (Some n) None))
    (sym count)
    ∙ sym (place_found-push name.now before column)
    ∙ ap (λ (xs : List Column). place_found name.now xs) (sym next)
