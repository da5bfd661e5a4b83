-- the leaves so far
use Rattle.std.proofs.Common.{◌≡◌, filter, map}
use Rattle.std.specs.List.{range_with_len}
use Rattle.query_traces.specs.Rounds.{leaf_at, is_to_visit}
use Rattle.query_traces.proofs.rounds.Round.leaves_to_visit.Given as goal

abbrev pub invariant-loop-place : goal.invariant-loop-place
invariant-loop-place l =
    l.leaves ≡ map (leaf_at l.self.area) (filter (is_to_visit l.self l.let_in) (range_with_len 0 l.place))
