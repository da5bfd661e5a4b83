-- The hash by which a map finds a key.
use Rattle.std.specs.Prelude.{ℕ}
use Rattle.std.specs.List.{fold}
use Rattle.std.specs.Hash.{HashWrites}
use Rattle.std.specs.declared.hash.Hasher as hasher
use Rattle.std.specs.declared.hash.BuildHasher as builder

-- what a builder's hasher answers, once it was fed what a key writes
unfoldable pub key_hash : {S H : Type 0} → builder.Ghosts S H → hasher.Ghosts H → S → HashWrites → ℕ
key_hash b h s writes = h.finish (fold h.write (b.build_hasher s) writes)
