-- A list that is read from its front on.
use Rattle.std.proofs.Common.{List, ◌++◌, Result, Ok}
use Rattle.mon_value.specs.Answers.{◌>>=◌}

-- what is read of the rest, behind what was read so far
abbrev pub with_front : {X F : Type 0} → List X → Result (List X) F → Result (List X) F
with_front front read = read >>= λ rest. Ok (front ++ rest)
