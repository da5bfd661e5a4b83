-- the leaves so far
use Rattle.std.proofs.Common.{◌≡◌, [], map}
use Rattle.std.specs.List.{range_with_len}
use Rattle.query_traces.specs.Rounds.{leaf_at, slots_on}
use Rattle.query_traces.proofs.rounds.no_slots.Given as goal

abbrev pub invariant-loop-leaf : goal.invariant-loop-leaf
invariant-loop-leaf l = l.slots.items ≡ map (λ place. slots_on (leaf_at l.fn.area place) []) (range_with_len 0 l._leaf)
