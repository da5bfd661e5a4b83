use Rattle.std.proofs.Common.{refl}
use Rattle.insertion_map.specs.WordHasher.{initial}
use Rattle.insertion_map.proofs.hash.WordHasherDefault.default.Goals as goal

pub returns : goal.returns
unfolding initial
returns c = refl
