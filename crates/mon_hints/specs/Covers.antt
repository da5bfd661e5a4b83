-- Which bits of the hint words are known, and whether they lead to all that a leaf has.
use Rattle.std.specs.Prelude.{ℕ, ◌≡◌, ◌||◌, ◌&&◌, Bool, true, nat_eq, List}
use Rattle.mon_hints.specs.Formulas.{is_among}
use Rattle.mon_value.specs.declared.positions.Leaf.{Leaf}
use Rattle.mon_value.specs.declared.positions.Zone.{Zone}

-- the bits of the root's words, by zone and bucket, and those of the zones' words, by leaf and bucket
pub record Bits : Type 0 where
  pub root : ℕ → ℕ → Bool
  pub zone : ℕ → ℕ → Bool

-- a bucket leads from the root to the leaf
pub record IsRaised (bits : Bits) (zone : Zone) (leaf : Leaf) (bucket : ℕ) : Type 0 where
  pub at_root : bits.root zone.0 bucket ≡ true
  pub in_zone : bits.zone leaf.0 bucket ≡ true

-- so does each of these buckets
abbrev pub Covers : Bits → Zone → Leaf → List ℕ → Type 0
Covers bits zone leaf buckets = (bucket : ℕ) → is_among bucket buckets ≡ true → IsRaised bits zone leaf bucket

-- whatever is set stays set
abbrev pub StaysSet : (ℕ → ℕ → Bool) → (ℕ → ℕ → Bool) → Type 0
StaysSet before after = (place bucket : ℕ) → before place bucket ≡ true → after place bucket ≡ true

-- some bits are among others
pub record AreBitsWithin (some others : Bits) : Type 0 where
  pub root : StaysSet some.root others.root
  pub zone : StaysSet some.zone others.zone

-- the bits of both
abbrev pub joined_bits : Bits → Bits → Bits
joined_bits a b = record {
  root = λ zone bucket. a.root zone bucket || b.root zone bucket;
  zone = λ leaf bucket. a.zone leaf bucket || b.zone leaf bucket;
}

-- one bit more
abbrev pub with_bit : (ℕ → ℕ → Bool) → ℕ → ℕ → (ℕ → ℕ → Bool)
with_bit bits place bucket other n = (nat_eq other place && nat_eq n bucket) || bits other n
