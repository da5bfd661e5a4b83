-- those of the leaves so far
use Rattle.std.proofs.Common.{◌≡◌, map, take}
use Rattle.query_traces.specs.declared.looks.Look.{Look}
use Rattle.query_traces.proofs.looks.read_of.Given as goal

abbrev pub invariant-loop-look : goal.invariant-loop-look
invariant-loop-look l = l.flags ≡ map (λ (look : Look). look.read) (take l.look-index l.looks)
