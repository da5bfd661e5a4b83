use Rattle.std.proofs.Common.{length}
use Rattle.insertion_map.proofs.HashLemmas.{AreLeft}
use Rattle.insertion_map.proofs.hash.WordHasherHasher.write.Given as goal

abbrev pub invariant-loop-word : goal.invariant-loop-word
invariant-loop-word l = AreLeft l.fn.self l.fn.bytes l.self l.rest

abbrev pub decreases-loop-word : goal.decreases-loop-word
decreases-loop-word l = length l.rest
