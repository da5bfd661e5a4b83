use Rattle.std.proofs.Common.{ap, ◌∙◌}
use Rattle.std.specs.Prelude.{bit_xor}
use Rattle.insertion_map.specs.WordHasher.{finish, round}
use Rattle.insertion_map.specs.declared.hash.WordHasher.{WordHasher}
use Rattle.insertion_map.proofs.hash.WordHasherHasher.finish.Goals as goal

pub returns : goal.returns
unfolding finish
returns c =
    ap (λ (u : WordHasher). bit_xor (bit_xor (bit_xor u.v0 u.v1) u.v2) u.v3)
    (c.round-3.ensures ∙ ap round (c.round-2.ensures ∙ ap round c.round.ensures))
