use Rattle.std.proofs.Common.{◌≡◌, List, Some, length, slice_get, refl, sym, ap, ◌∙◌}
use Rattle.std.proofs.lemmas.Option.{slice_get_read, slice_get_within}
use Rattle.std_collections.proofs.HashLookup.{IsFirst-from_index}
use Rattle.indexmap.proofs.MapLemmas.{index-first}
use Rattle.insertion_map.proofs.EntryLemmas.{key_at}
use Rattle.insertion_map.proofs.map.InsertionMap.is_at.Goals as goal

pub returns-in-Some-clause-at : goal.returns-in-Some-clause-at
returns-in-Some-clause-at g c = λ same.
    let test = g.Q.Equivalent.equivalent c.args.key in
    let held : List (g.row.K.Denot × g.row.V.Denot) = c.entries.result.now in
    let e : g.row.K.Denot × g.row.V.Denot = c.in-Some.entry.now in
    let lookup = c.in-Some.ensures.lookup in
    let read : slice_get held c.args.i ≡ Some e =
    slice_get_read held (length held) c.args.i e refl lookup.3.0 (lookup.3.1 e) in
    let at = ap (λ l. slice_get l c.args.i) (sym c.entries.ensures.entries) ∙ read in
    let passes = ap test (key_at c.args.self.now.entries c.args.i e e.0 at) ∙ sym c.equivalent.ensures ∙ same in
    index-first test c.args.self.now.entries c.args.i
    (IsFirst-from_index g.K.PartialEq.eq g.met.K.Eq.laws test (g.met.Q.Equivalent.respects_eq c.args.key)
    c.args.self.now.entries c.args.i e.0 c.entries.ensures.unique
    (slice_get_within c.args.self.now.entries c.args.i e at) passes)
