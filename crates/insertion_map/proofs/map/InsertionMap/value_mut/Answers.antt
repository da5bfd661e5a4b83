use Rattle.std.proofs.Common.{◌≡◌, ◌-◌, ◌<◌, ℕ, List, Some, min, length, slice_get, slice_set, vec_capacity}
use Rattle.std.proofs.Common.{refl, sym, ap, ◌∙◌, arith}
use Rattle.std.specs.Map.{keys_of, values_of}
use Rattle.std.proofs.lemmas.Option.{slice_get_read}
use Rattle.std_collections.proofs.Entries.{keys_set_value_at, length-set_value_at}
use Rattle.std_collections.proofs.HashLookup.{IsHashed-same_keys}
use Rattle.indexmap.specs.IndexMap.{hasher_of, set_value_at, spare}
use Rattle.indexmap.specs.Layout.{hash_map}
use Rattle.insertion_map.specs.Hashes.{key_hash}
use Rattle.insertion_map.proofs.EntryLemmas.{set_entry, value_at}
use Rattle.insertion_map.proofs.map.InsertionMap.value_mut.Goals as goal

pub invariant_of-self-lent : goal.invariant_of-self-lent
invariant_of-self-lent g c w =
    let f : g.row.K.Denot → ℕ =
    λ k. key_hash g.S.BuildHasher g.S.Hasher.Hasher c.self.inside.hash_builder (g.K.Hash.hash_input k) in
    let es : List (g.row.K.Denot × g.row.V.Denot) = c.self.inside.entries.items in
    let same : es ≡ c.args.self.now.entries = ap (λ m. m.entries) c.self.view_is in
    let within : c.args.i < length es = omega (arith, c.requires, ap length same) in
    let e : g.row.K.Denot × g.row.V.Denot = c.index_mut.result.now in
    let at : slice_get es c.args.i ≡ Some e =
    slice_get_read es (length es) c.args.i e refl within c.index_mut.ensures.value in
    IsHashed-same_keys g.K.PartialEq.eq f c.self.inside.tree.0 es (slice_set es c.args.i (e.0, w))
    (ap keys_of (set_entry es c.args.i e w at) ∙ keys_set_value_at es c.args.i w) c.self.invariant

pub returns : goal.returns
returns g c =
    let es : List (g.row.K.Denot × g.row.V.Denot) = c.self.inside.entries.items in
    let same : es ≡ c.args.self.now.entries = ap (λ m. m.entries) c.self.view_is in
    let within : c.args.i < length es = omega (arith, c.requires, ap length same) in
    let e : g.row.K.Denot × g.row.V.Denot = c.index_mut.result.now in
    let at : slice_get es c.args.i ≡ Some e =
    slice_get_read es (length es) c.args.i e refl within c.index_mut.ensures.value in
    let room = λ (n : ℕ). min c.self.inside.tree.1 (vec_capacity c.self.inside.entries - n) in (
      (
        refl,
        λ w. (λ j. hash_map (set_entry es c.args.i e w at j) c.self.inside.hash_builder
            (room (length (set_entry es c.args.i e w at j))))
            ∙ ap (λ n. hash_map (set_value_at es c.args.i w) c.self.inside.hash_builder (room n))
            (length-set_value_at es c.args.i w)
            ∙ ap (λ v. hash_map (set_value_at v.entries c.args.i w) (hasher_of v) (spare v)) c.self.view_is,
      ),
      record {
        writes_back = tt;
        value = ap (λ v. slice_get (values_of v.entries) c.args.i) (sym c.self.view_is) ∙ value_at es c.args.i e at;
      },
    )
