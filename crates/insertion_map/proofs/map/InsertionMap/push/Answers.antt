use Rattle.std.proofs.Common.{ℕ, sym, ap, ◌∙◌}
use Rattle.std.specs.Map.{lookup}
use Rattle.std_collections.proofs.HashLookup.{IsHashed-push}
use Rattle.indexmap.specs.IndexMap.{hasher_of}
use Rattle.indexmap.proofs.MapLemmas.{absent_from_lookup}
use Rattle.insertion_map.specs.Hashes.{key_hash}
use Rattle.insertion_map.proofs.map.InsertionMap.push.Goals as goal

pub invariant_of-self : goal.invariant_of-self
invariant_of-self g c =
    let f : g.row.K.Denot → ℕ =
    λ k. key_hash g.S.BuildHasher g.S.Hasher.Hasher c.self.inside.hash_builder (g.K.Hash.hash_input k) in
    let es = c.self.inside.entries.items in
    let hash = c.requires.hash
    ∙ ap (λ m. key_hash g.S.BuildHasher g.S.Hasher.Hasher (hasher_of m) (g.K.Hash.hash_input c.args.key))
    (sym c.self.view_is) in
    let missing = ap (λ m. lookup (g.K.PartialEq.eq c.args.key) m.entries) c.self.view_is ∙ c.requires.absent in
    let absent = absent_from_lookup _ es missing in
    rw (c.push.ensures.hashes, c.push_reserved.ensures.items)
    (IsHashed-push g.K.PartialEq.eq f g.met.K.Eq.laws c.self.inside.tree.0 es c.args.hash (c.args.key, c.args.value)
    c.self.invariant hash absent)
