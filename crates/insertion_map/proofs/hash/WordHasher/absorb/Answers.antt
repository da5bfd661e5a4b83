use Rattle.std.proofs.Common.{ap}
use Rattle.std.specs.Prelude.{bit_xor}
use Rattle.insertion_map.specs.WordHasher.{absorb}
use Rattle.insertion_map.specs.declared.hash.WordHasher.{WordHasher}
use Rattle.insertion_map.proofs.hash.WordHasher.absorb.Goals as goal

pub returns : goal.returns
unfolding absorb
returns c =
    ap (λ (t : WordHasher). record { v0 = bit_xor t.v0 c.args.word; v1 = t.v1; v2 = t.v2; v3 = t.v3 })
    c.round.ensures
