use Rattle.std.proofs.Common.{◌≡◌, ℕ, Option, Some, IfSome, slice_get, sym, subst}
use Rattle.mon_value.specs.LeafHistories.{series_of}
use Rattle.leaf_store.proofs.SeriesNumberLemmas.{numbered_row}
use Rattle.leaf_store.proofs.slot_rows.SlotRows.number.Goals as goal

pub returns-in-Some-clause-known : goal.returns-in-Some-clause-known
returns-in-Some-clause-known c =
    let rows = c.args.self.now.rows in
    let key = c.args.key.now in
    sym (numbered_row rows c.in-Some.number key
    (subst (λ (series : Option ℕ). IfSome series (λ number. slice_get (series_of rows) number ≡ Some key)) c.in-Some.is
    c.requires.series))
