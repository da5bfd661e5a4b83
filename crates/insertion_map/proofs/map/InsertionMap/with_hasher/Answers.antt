use Rattle.std.proofs.Common.{ℕ}
use Rattle.std_collections.proofs.HashLookup.{IsHashed-nil, distinct_nil}
use Rattle.insertion_map.specs.Hashes.{key_hash}
use Rattle.insertion_map.proofs.map.InsertionMap.with_hasher.Goals as goal

pub invariant_of-result : goal.invariant_of-result
invariant_of-result g c =
    let f : g.row.K.Denot → ℕ =
    λ k. key_hash g.S.BuildHasher g.S.Hasher.Hasher c.args.hash_builder (g.K.Hash.hash_input k) in
    IsHashed-nil {X = g.row.V.Denot} g.K.PartialEq.eq f c.new-2.result.0 c.new.result.items
    c.new-2.ensures.hashes c.new.ensures.items

pub returns-clause-unique : goal.returns-clause-unique
returns-clause-unique g c = distinct_nil {X = g.row.V.Denot} _ g.met.K.Eq.laws c.new.result.items c.new.ensures.items
