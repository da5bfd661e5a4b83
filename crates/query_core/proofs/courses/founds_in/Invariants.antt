-- those that were found so far
use Rattle.std.proofs.Common.{◌≡◌, filter, take}
use Rattle.mon_value.specs.declared.positions.FoundDown.{FoundDown}
use Rattle.query_traces.specs.Rounds.{has_leaf}
use Rattle.query_core.proofs.courses.founds_in.Given as goal

abbrev pub invariant-loop-found : goal.invariant-loop-found
invariant-loop-found l = l.founds ≡ filter (λ (found : FoundDown). has_leaf l.area found.leaf)
    (take l.found-index l.all)
