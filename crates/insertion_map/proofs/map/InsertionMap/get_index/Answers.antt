use Rattle.std.proofs.Common.{◌≡◌, List, Some, length, slice_get, refl, sym, ap, ◌∙◌}
use Rattle.std.proofs.lemmas.Map.Entries.{lookup_from_place}
use Rattle.std.proofs.lemmas.Option.{slice_get_read}
use Rattle.insertion_map.proofs.map.InsertionMap.get_index.Goals as goal

pub returns-clause-value : goal.returns-clause-value
returns-clause-value g c =
    let es : List (g.row.K.Denot × g.row.V.Denot) = c.entries.result.now in
    let e : g.row.K.Denot × g.row.V.Denot = c.in_ok-entry.entry.now in
    let lookup = c.in_ok-entry.ensures.lookup in
    let at : slice_get es c.args.index ≡ Some e =
    slice_get_read es (length es) c.args.index e refl lookup.3.0 (lookup.3.1 e) in
    lookup_from_place g.met.K.Eq.laws c.args.self.now.entries c.args.index e.0 e.1 c.entries.ensures.unique
    (ap (λ l. slice_get l c.args.index) (sym c.entries.ensures.entries) ∙ at)
