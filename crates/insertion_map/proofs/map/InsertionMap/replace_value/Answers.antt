use Rattle.std.proofs.Common.{◌≡◌, ◌<◌, ℕ, List, Some, arith, length, slice_get, slice_set, refl, sym, ap, ◌∙◌}
use Rattle.std.specs.Map.{keys_of, values_of}
use Rattle.std.proofs.lemmas.Option.{slice_get_read}
use Rattle.std_collections.proofs.Entries.{keys_set_value_at}
use Rattle.std_collections.proofs.HashLookup.{IsHashed-same_keys}
use Rattle.indexmap.specs.IndexMap.{set_value_at}
use Rattle.insertion_map.specs.Hashes.{key_hash}
use Rattle.insertion_map.proofs.EntryLemmas.{set_entry, value_at}
use Rattle.insertion_map.proofs.map.InsertionMap.replace_value.Goals as goal

pub invariant_of-self : goal.invariant_of-self
invariant_of-self g c =
    let f : g.row.K.Denot → ℕ =
    λ k. key_hash g.S.BuildHasher g.S.Hasher.Hasher c.self.inside.hash_builder (g.K.Hash.hash_input k) in
    let es : List (g.row.K.Denot × g.row.V.Denot) = c.self.inside.entries.items in
    let same : es ≡ c.args.self.now.entries = ap (λ m. m.entries) c.self.view_is in
    let within : c.args.i < length es = omega (arith, c.requires, ap length same) in
    let e : g.row.K.Denot × g.row.V.Denot = c.index_mut.result.now in
    let at : slice_get es c.args.i ≡ Some e =
    slice_get_read es (length es) c.args.i e refl within c.index_mut.ensures.value in
    IsHashed-same_keys g.K.PartialEq.eq f c.self.inside.tree.0 es (slice_set es c.args.i (e.0, c.replace.new.dest))
    (ap keys_of (set_entry es c.args.i e c.replace.new.dest at) ∙ keys_set_value_at es c.args.i c.replace.new.dest)
    c.self.invariant

pub returns-clause-took : goal.returns-clause-took
returns-clause-took g c =
    let es : List (g.row.K.Denot × g.row.V.Denot) = c.self.inside.entries.items in
    let same : es ≡ c.args.self.now.entries = ap (λ m. m.entries) c.self.view_is in
    let within : c.args.i < length es = omega (arith, c.requires, ap length same) in
    let e : g.row.K.Denot × g.row.V.Denot = c.index_mut.result.now in
    let at : slice_get es c.args.i ≡ Some e =
    slice_get_read es (length es) c.args.i e refl within c.index_mut.ensures.value in
    ap (λ v. slice_get (values_of v.entries) c.args.i) (sym c.self.view_is) ∙ value_at es c.args.i e at
    ∙ ap Some (sym c.replace.ensures.value)

pub returns-clause-entries : goal.returns-clause-entries
returns-clause-entries g c =
    let es : List (g.row.K.Denot × g.row.V.Denot) = c.self.inside.entries.items in
    let same : es ≡ c.args.self.now.entries = ap (λ m. m.entries) c.self.view_is in
    let within : c.args.i < length es = omega (arith, c.requires, ap length same) in
    let e : g.row.K.Denot × g.row.V.Denot = c.index_mut.result.now in
    let at : slice_get es c.args.i ≡ Some e =
    slice_get_read es (length es) c.args.i e refl within c.index_mut.ensures.value in
    set_entry es c.args.i e c.replace.new.dest at ∙ (λ j. set_value_at (same j) c.args.i (c.replace.ensures.after j))
