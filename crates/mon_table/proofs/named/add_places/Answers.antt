use Rattle.std.proofs.Common.{◌≡◌, ◌∙◌, ◌+◌, ◌∷◌, [], ◌++◌, List, ap, arith, cond, length, sym, take}
use Rattle.std.proofs.lemmas.List.{length-take-le, take_more}
use Rattle.mon_value.specs.Same.{same_text}
use Rattle.mon_value.specs.declared.columns.Column.{Column}
use Rattle.mon_table.proofs.NamedPlaceLemmas.{right_places_of-push}
use Rattle.mon_table.specs.Places.{right_places_of}
use Rattle.mon_table.proofs.named.add_places.Goals as goal

pub loop-place-preserved : goal.loop-place-preserved
loop-place-preserved c name =
    let columns = c.args.columns.now in
    let column : Column = c.index-columns-place.result in
    let i = c.loop-place.place in
    let before = take i columns in
    let next : take (i + 1) columns ≡ before ++ column ∷ [] = take_more columns i column
    (omega (arith, c.loop-place-test.true))
    ∙ ap (λ (x : Column). before ++ x ∷ []) (sym c.index-columns-place.is) in
    let all = length-take-le i columns (omega (arith, c.loop-place-test.true)) in
    let count : i ≡ 0 + length before = omega (arith, all) in
    c.in_ok-add_place.ensures.added name
    ∙ ap (λ places. places ++ cond (same_text name.now c.as_str.result.now) (i ∷ []) []) (c.loop-place.invariant name)
    ∙ ap (λ text. right_places_of name.now 0 before ++ cond (same_text name.now text) (i ∷ []) [])
    (c.as_str.ensures.bytes ∙ ap (λ (x : Column). x.name) c.deref.ensures)
    ∙ ap (λ n. right_places_of name.now 0 before ++ cond (same_text name.now column.name) (n ∷ []) []) count
    ∙ sym (right_places_of-push name.now 0 before column)
    ∙ ap (λ (xs : List Column). right_places_of name.now 0 xs) (sym next)
