-- those of the leaves so far
use Rattle.std.proofs.Common.{◌≡◌, map, take}
use Rattle.query_traces.specs.declared.looks.Look.{Look}
use Rattle.query_traces.proofs.looks.cuts_of.Given as goal

abbrev pub invariant-loop-look : goal.invariant-loop-look
invariant-loop-look l = l.cuts ≡ map (λ (look : Look). look.cut) (take l.look-index l.looks)
