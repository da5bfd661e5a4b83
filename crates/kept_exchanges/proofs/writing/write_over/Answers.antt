use Rattle.std.proofs.Common.{◌≡◌, ◌∷◌, false, List, IsPermutation, Some, slice_get, refl, sym, subst}
use Rattle.std.specs.List.{AllByRecursion}
use Rattle.mon_value.specs.Same.{same_row}
use Rattle.mon_value.specs.declared.tables.TimedRow.{TimedRow}
use Rattle.kept_exchanges.proofs.WriteLemmas.{is_there, written}
use Rattle.kept_exchanges.proofs.writing.write_over.Goals as goal

pub returns-in-Some-clause-exchanged : goal.returns-in-Some-clause-exchanged
returns-in-Some-clause-exchanged c rest same =
    let gone = c.args.gone.now in
    let place = subst (λ (rows : List TimedRow). slice_get rows c.in-Some.place ≡ Some gone) c.as_slice.ensures.value
    c.in-Some.ensures.place in
    subst (IsPermutation (c.args.come ∷ rest)) (sym c.write.ensures.written)
    (written gone c.args.come c.args.rows.now.items rest c.in-Some.place place same)

pub returns-in-None-clause-exchanged : goal.returns-in-None-clause-exchanged
returns-in-None-clause-exchanged c rest same =
    let gone = c.args.gone.now in
    let none = subst (AllByRecursion (λ (row : TimedRow). same_row gone row ≡ false)) c.as_slice.ensures.value
    (c.in-None.ensures.none refl) in
    is_there gone rest c.args.rows.now.items none same
