use Rattle.std.proofs.Common.{◌≡◌, drop}
use Rattle.insertion_map.specs.WordHasher as spec
use Rattle.insertion_map.proofs.hash.word_of.Given as goal

abbrev pub invariant-loop-byte : goal.invariant-loop-byte
invariant-loop-byte l = spec.word_of l.word (drop l.byte-index l.bytes) ≡ spec.word_of l.start l.bytes
