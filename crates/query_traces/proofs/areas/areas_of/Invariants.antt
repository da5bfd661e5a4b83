-- the zones so far
use Rattle.std.proofs.Common.{◌≡◌, map}
use Rattle.std.specs.List.{range_with_len}
use Rattle.query_traces.specs.Rounds.{area_of}
use Rattle.query_traces.proofs.areas.areas_of.Given as goal

abbrev pub invariant-loop-number : goal.invariant-loop-number
invariant-loop-number l = l.areas.items ≡ map (area_of l.topology) (range_with_len 0 l.number)
