use Rattle.std.proofs.Common.{◌≡◌, ℕ, true, None, Some, Option, get_or, ap, sym, ◌∙◌, IfSome, IfNone}
use Rattle.std.specs.Map.{keys_of}
use Rattle.std_collections.specs.Layout.HashMap.{position}
use Rattle.std_collections.proofs.HashLookup.{probe_found, probe_absent}
use Rattle.indexmap.specs.IndexMap.{hasher_of}
use Rattle.indexmap.proofs.MapLemmas.{index_is}
use Rattle.insertion_map.specs.Hashes.{key_hash}
use Rattle.insertion_map.proofs.EntryLemmas.{at_number}
use Rattle.insertion_map.proofs.map.InsertionMap.find.Goals as goal

by_result : (r p : Option ℕ) (P : ℕ → Type 0) (Q : Type 0) → IfSome r P → IfNone r Q →
    ((i : ℕ) → P i → p ≡ Some i) → (Q → p ≡ None) → r ≡ p
by_result None p P Q a b some none = sym (none b)
by_result (Some i) p P Q a b some none = sym (some i a)

pub returns-clause-index : goal.returns-clause-index
returns-clause-index g c =
    let t = g.Q.Equivalent.equivalent c.args.key in
    let f : g.row.K.Denot → ℕ =
    λ k. key_hash g.S.BuildHasher g.S.Hasher.Hasher c.self.inside.hash_builder (g.K.Hash.hash_input k) in
    let es = c.self.inside.entries.items in
    let builder : c.self.inside.hash_builder ≡ hasher_of c.args.self.now = ap hasher_of c.self.view_is in
    let agrees =
    λ (k : g.row.K.Denot) (y : t k ≡ true). c.requires
    ∙ (λ i. key_hash g.S.BuildHasher g.S.Hasher.Hasher (sym builder i)
    (g.met.Q.Equivalent.respects_hash c.args.key k y i)) in
    let seen = ap (λ m. position t m.entries) (sym c.self.view_is) in
    let keys = ap keys_of c.as_slice-entries.ensures.value in
    by_result c.find.result _ _ _ c.find.ensures.found c.find.ensures.absent
    (λ i r. seen
    ∙ probe_found g.K.PartialEq.eq f g.met.K.Eq.laws t c.args.hash c.self.inside.tree.0 es c.self.invariant
    (g.met.Q.Equivalent.respects_eq c.args.key) i r.0 (λ d. r.1 d ∙ ap (λ ks. t (get_or ks i d)) keys))
    (λ a. seen
    ∙ probe_absent g.K.PartialEq.eq f g.met.K.Eq.laws t c.args.hash c.self.inside.tree.0 es c.self.invariant agrees
    (λ i p e d. a i (at_number c.self.inside.tree.0 i c.args.hash p e) d ∙ ap (λ ks. t (get_or ks i d)) keys))
    ∙ index_is t c.args.self.now.entries
